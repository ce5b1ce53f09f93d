-- The place after the values of some pairs, one pair after the other.
use Rattle.std.proofs.Common.{◌≡◌, ℕ, ◌+◌, ◌<◌, ◌≤◌, List, [], ◌∷◌, length, drop, get_or, Bool}
use Rattle.std.proofs.Common.{◌++◌}
use Rattle.std.proofs.Common.{take, zero, suc}
use Rattle.std.proofs.Common.{true, false, ◌==◌, Some, None, if◌then◌else◌, Result, Ok, Err, is_ok}
use Rattle.std.proofs.Common.{refl, sym, ap, ◌∙◌, arith}
use Rattle.std.proofs.lemmas.List.{drop_more, drop_all, take_more}
use Rattle.dwarf_abbrev.specs.declared.spec.Spec.{Spec}
use Rattle.dwarf_forms.specs.declared.fault.FormFault.{FormFault}
use Rattle.dwarf_forms.specs.Values.{Shown, Within, value_of, end_of}
use Rattle.dwarf_forms.proofs.Progress.{value_grows}
use Rattle.std.proofs.lemmas.Bool.{eq-eqb, or_parts}
use Rattle.entry_tree.specs.Reads.{and_then, values_at, end_of_values, ends_at, found_in}
use Rattle.entry_tree.specs.Reads.{value_with}
use Rattle.entry_tree.specs.Items.{listed}
use Rattle.dwarf_abbrev.specs.ValueMaps.{has_spec}

rest : (s : Spec) (x : Shown) (q : Result (List (ℕ × Shown) × ℕ) FormFault)
    → end_of_values (and_then q (λ (vs : List (ℕ × Shown) × ℕ). Ok ((s.attribute, x) ∷ vs.0, vs.1)))
    ≡ end_of_values q
rest s x (Ok vs) = refl
rest s x (Err e) = refl

front : (c : Within) (s : Spec) (ss : List Spec) (r : Result (Shown × ℕ) FormFault)
    → end_of_values (and_then r (λ (v : Shown × ℕ). and_then (values_at c ss v.1)
    (λ (vs : List (ℕ × Shown) × ℕ). Ok ((s.attribute, v.0) ∷ vs.0, vs.1))))
    ≡ and_then (end_of r) (λ (e : ℕ). ends_at c ss e)
front c s ss (Ok v) = rest s v.0 (values_at c ss v.1)
front c s ss (Err e) = refl

pub ends_more : (c : Within) (s : Spec) (ss : List Spec) (at : ℕ)
    → ends_at c (s ∷ ss) at ≡ and_then (end_of (value_of c s at)) (λ (e : ℕ). ends_at c ss e)
unfolding values_at
ends_more c s ss at = front c s ss (value_of c s at)

pub ends_none : (c : Within) (at : ℕ) → ends_at c [] at ≡ Ok at
unfolding values_at
ends_none c at = refl

pub ends_at_index : (c : Within) (specs : List Spec) (i at : ℕ) (d : Spec) → i < length specs
    → ends_at c (drop i specs) at ≡ and_then (end_of (value_of c (get_or specs i d) at))
    (λ (e : ℕ). ends_at c (drop (i + 1) specs) e)
ends_at_index c specs i at d lt = ap (λ (ss : List Spec). ends_at c ss at) (drop_more specs i d lt)
    ∙ ends_more c (get_or specs i d) (drop (i + 1) specs) at

pub ends_past : (c : Within) (specs : List Spec) (i at : ℕ) → length specs ≤ i
    → ends_at c (drop i specs) at ≡ Ok at
ends_past c specs i at le =
    ap (λ (ss : List Spec). ends_at c ss at) (drop_all i specs le) ∙ ends_none c at

-- the place grows
grows : (at : ℕ) (r : Result (Shown × ℕ) FormFault) (f : ℕ → Result ℕ FormFault) (end : ℕ)
    → ((v : Shown) (e : ℕ) → r ≡ Ok (v, e) → at ≤ e) → ((e : ℕ) → f e ≡ Ok end → e ≤ end)
    → and_then (end_of r) f ≡ Ok end → at ≤ end
grows at (Ok v) f end g h e = let a = g v.0 v.1 refl in let b = h v.1 e in omega arith
grows at (Err d) f end g h e = cc

pub ends_grow : (c : Within) (specs : List Spec) (at end : ℕ) → ends_at c specs at ≡ Ok end
    → at ≤ end
ends_grow c [] at end e = let q : ◌≡◌ {A = Result ℕ FormFault} (Ok at) (Ok end) =
    sym (ends_none c at) ∙ e in let p : at ≡ end = cc in omega arith
ends_grow c (s ∷ ss) at end e = grows at (value_of c s at) (λ (m : ℕ). ends_at c ss m) end
    (value_grows c s at) (λ (m : ℕ) (h : ends_at c ss m ≡ Ok end). ends_grow c ss m end h)
    (sym (ends_more c s ss at) ∙ e)

-- the first value of an attribute
unfolding_none : (c : Within) (at name : ℕ) → found_in c [] at name ≡ Ok None
unfolding found_in
unfolding_none c at name = refl

pub found_more : (c : Within) (s : Spec) (ss : List Spec) (at name : ℕ) → found_in c
    (s ∷ ss) at name ≡ (if s.attribute == name then and_then (value_of c s at) (λ (v : Shown × ℕ).
    Ok (Some v.0)) else and_then (end_of (value_of c s at)) (λ (e : ℕ). found_in c ss e name))
unfolding found_in
found_more c s ss at name = refl

pub found_here : (c : Within) (specs : List Spec) (i at name : ℕ) (d : Spec) → i < length specs
    → (get_or specs i d).attribute ≡ name → found_in c (drop i specs) at name
    ≡ and_then (value_of c (get_or specs i d) at) (λ (v : Shown × ℕ). Ok (Some v.0))
found_here c specs i at name d lt is =
    let t : ((get_or specs i d).attribute == name) ≡ true =
    eq-eqb (get_or specs i d).attribute name is in
    ap (λ (ss : List Spec). found_in c ss at name) (drop_more specs i d lt)
    ∙ found_more c (get_or specs i d) (drop (i + 1) specs) at name ∙ rw t refl

-- the parts of two answers, one after the other
parts : (s : Spec) (v : Shown × ℕ) (q : Result (List (ℕ × Shown) × ℕ) FormFault) (vs : List (ℕ
    × Shown) × ℕ) → and_then q (λ (us : List (ℕ × Shown) × ℕ). Ok ((s.attribute, v.0) ∷ us.0, us.1))
    ≡ Ok vs → (us : List (ℕ × Shown) × ℕ) × (q ≡ Ok us) × (vs.0 ≡ (s.attribute, v.0) ∷ us.0)
parts s v (Ok us) vs e = let p : ◌≡◌ {A = List (ℕ × Shown) × ℕ} (
  (s.attribute, v.0) ∷ us.0,
  us.1,
) vs = cc in (us, refl, ap (λ (x : List (ℕ × Shown) × ℕ). x.0) (sym p))
parts s v (Err d) vs e = cc

first_part : (r : Result (Shown × ℕ) FormFault) (f : Shown × ℕ
    → Result (List (ℕ × Shown) × ℕ) FormFault) (vs : List (ℕ × Shown) × ℕ) → and_then r f ≡ Ok vs
    → (v : Shown × ℕ) × (r ≡ Ok v) × (f v ≡ Ok vs)
first_part (Ok v) f vs e = (v, refl, e)
first_part (Err d) f vs e = cc

test : (c : Within) (s : Spec) (ss : List Spec) (at name : ℕ) (v : Shown × ℕ)
    (us vs : List (ℕ × Shown) × ℕ) → value_of c s at ≡ Ok v → vs.0 ≡ (s.attribute, v.0) ∷ us.0
    → found_in c ss v.1 name ≡ Ok (value_with name us.0) → (b : Bool) → (s.attribute == name) ≡ b
    → (if b then and_then (value_of c s at) (λ (v : Shown × ℕ). Ok (Some v.0)) else and_then
    (end_of (value_of c s at)) (λ (e : ℕ). found_in c ss e name)) ≡ Ok (value_with name vs.0)
test c s ss at name v us vs r w ih true t = rw (r, w, t) refl
test c s ss at name v us vs r w ih false t = rw (r, w, t) ih

pub found_values : (c : Within) (specs : List Spec) (at name : ℕ) (vs : List (ℕ × Shown) × ℕ)
    → values_at c specs at ≡ Ok vs → found_in c specs at name ≡ Ok (value_with name vs.0)
unfolding values_at
found_values c [] at name vs e =
    let p : ◌≡◌ {A = List (ℕ × Shown) × ℕ} ([], at) vs = cc in
    let q : [] ≡ vs.0 = ap (λ (x : List (ℕ × Shown) × ℕ). x.0) p in
    unfolding_none c at name ∙ ap (λ (us : List (ℕ × Shown)). Ok (value_with name us)) q
found_values c (s ∷ ss) at name vs e =
    let p = first_part (value_of c s at) (λ (v : Shown × ℕ). and_then (values_at c ss v.1)
    (λ (us : List (ℕ × Shown) × ℕ). Ok ((s.attribute, v.0) ∷ us.0, us.1))) vs e in
    let q = parts s p.0 (values_at c ss p.0.1) vs p.2 in
    found_more c s ss at name ∙ test c s ss at name p.0 q.0 vs p.1 q.2
    (found_values c ss p.0.1 name q.0 q.1) (s.attribute == name) refl

listed_by : (c : Within) (specs : List Spec) (at name : ℕ)
    (q : Result (List (ℕ × Shown) × ℕ) FormFault) → values_at c specs at ≡ q → is_ok q ≡ true
    → found_in c specs at name ≡ Ok (value_with name (listed q))
listed_by c specs at name (Ok vs) h e = found_values c specs at name vs h
listed_by c specs at name (Err f) h e = cc

pub found_listed : (c : Within) (specs : List Spec) (at name : ℕ) → is_ok (values_at c specs at)
    ≡ true → found_in c specs at name ≡ Ok (value_with name (listed (values_at c specs at)))
found_listed c specs at name e = listed_by c specs at name (values_at c specs at) refl e

-- the first value of an attribute that stands behind others
behind : (c : Within) (s : Spec) (ss : List Spec) (i at name : ℕ) (r : Result (Shown × ℕ) FormFault)
    → ((e : ℕ) → found_in c ss e name
    ≡ and_then (ends_at c (take i ss) e) (λ (m : ℕ). found_in c (drop i ss) m name))
    → and_then (end_of r) (λ (e : ℕ). found_in c ss e name)
    ≡ and_then (and_then (end_of r) (λ (e : ℕ). ends_at c (take i ss) e))
    (λ (m : ℕ). found_in c (drop i ss) m name)
behind c s ss i at name (Ok v) h = h v.1
behind c s ss i at name (Err f) h = refl

pub found_behind : (c : Within) (specs : List Spec) (i at name : ℕ)
    → has_spec name (take i specs) ≡ false → found_in c specs at name
    ≡ and_then (ends_at c (take i specs) at) (λ (m : ℕ). found_in c (drop i specs) m name)
found_behind c specs zero at name h =
    sym (ap (λ (r : Result ℕ FormFault). and_then r (λ (m : ℕ). found_in c specs m name))
    (ends_none c at))
found_behind c [] (suc i) at name h =
    sym (ap (λ (r : Result ℕ FormFault). and_then r (λ (m : ℕ). found_in c [] m name))
    (ends_none c at))
found_behind c (s ∷ ss) (suc i) at name h =
    let n = or_parts (s.attribute == name) (has_spec name (take i ss)) h in
    found_more c s ss at name ∙ rw n.0 (behind c s ss i at name (value_of c s at)
    (λ (e : ℕ). found_behind c ss i e name n.1)
    ∙ sym (ap (λ (r : Result ℕ FormFault). and_then r (λ (m : ℕ). found_in c (drop i ss) m name))
    (ends_more c s (take i ss) at)))

-- the values of some pairs and of more behind them
ends_after : (c : Within) (s : Spec) (xs ys : List Spec) (r : Result (Shown × ℕ) FormFault)
    → ((e : ℕ) → ends_at c (xs ++ ys) e ≡ and_then (ends_at c xs e) (λ (m : ℕ). ends_at c ys m))
    → and_then (end_of r) (λ (e : ℕ). ends_at c (xs ++ ys) e)
    ≡ and_then (and_then (end_of r) (λ (e : ℕ). ends_at c xs e)) (λ (m : ℕ). ends_at c ys m)
ends_after c s xs ys (Ok v) h = h v.1
ends_after c s xs ys (Err f) h = refl

pub ends_append : (c : Within) (xs ys : List Spec) (at : ℕ)
    → ends_at c (xs ++ ys) at ≡ and_then (ends_at c xs at) (λ (m : ℕ). ends_at c ys m)
ends_append c [] ys at =
    sym (ap (λ (r : Result ℕ FormFault). and_then r (λ (m : ℕ). ends_at c ys m)) (ends_none c at))
ends_append c (s ∷ xs) ys at =
    ends_more c s (xs ++ ys) at
    ∙ ends_after c s xs ys (value_of c s at) (λ (e : ℕ). ends_append c xs ys e)
    ∙ sym (ap (λ (r : Result ℕ FormFault). and_then r (λ (m : ℕ). ends_at c ys m))
    (ends_more c s xs at))

pub ends_one : (c : Within) (s : Spec) (at : ℕ) → ends_at c (s ∷ []) at ≡ end_of (value_of c s at)
ends_one c s at = ends_more c s [] at ∙ one_end (end_of (value_of c s at)) where
  one_end : (r : Result ℕ FormFault) → and_then r (λ (e : ℕ). ends_at c [] e) ≡ r
  one_end (Ok e) = ends_none c e
  one_end (Err f) = refl

pub ends_one_more : (c : Within) (specs : List Spec) (i from at end : ℕ) (d : Spec)
    → i < length specs → end_of (value_of c (get_or specs i d) at) ≡ Ok end
    → ends_at c (take i specs) from ≡ Ok at → ends_at c (take (i + 1) specs) from ≡ Ok end
ends_one_more c specs i from at end d lt value before =
    ap (λ (ss : List Spec). ends_at c ss from) (take_more specs i d lt)
    ∙ ends_append c (take i specs) (get_or specs i d ∷ []) from
    ∙ ap (λ (r : Result ℕ FormFault). and_then r (λ (m : ℕ). ends_at c (get_or specs i d ∷ []) m))
    before ∙ ends_one c (get_or specs i d) at ∙ value

pub found_at : (c : Within) (specs : List Spec) (i from at name : ℕ) (d : Spec) → i < length specs
    → has_spec name (take i specs) ≡ false → (get_or specs i d).attribute ≡ name
    → ends_at c (take i specs) from ≡ Ok at → found_in c specs from name
    ≡ and_then (value_of c (get_or specs i d) at) (λ (v : Shown × ℕ). Ok (Some v.0))
found_at c specs i from at name d lt before is e =
    found_behind c specs i from name before
    ∙ ap (λ (r : Result ℕ FormFault). and_then r (λ (m : ℕ). found_in c (drop i specs) m name)) e
    ∙ found_here c specs i at name d lt is
