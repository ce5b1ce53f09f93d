-- Names are put in order.
use Rattle.std.proofs.Common.{◌≡◌, ◌+◌, ◌<◌, ◌≤◌, ◌&&◌, ◌++◌, ℕ, Bool, true, false, List, [], ◌∷◌}
use Rattle.std.proofs.Common.{Option, None, Some, Err, map, length, take, drop, get_or, refl, sym}
use Rattle.std.proofs.Common.{◌∙◌, ap, subst, arith, ◌⊎◌, inl, inr, cond, IsSome, is_some, is_none}
use Rattle.std.proofs.Common.{All, append-nil, append_assoc, ltb}
use Rattle.std.specs.List.{AllByRecursion}
use Rattle.std.specs.Option.{option_map, option_or}
use Rattle.std.proofs.lemmas.Bool.{le-ltb, lt-ltb}
use Rattle.std.proofs.lemmas.Grind.{flat_map-append}
use Rattle.std.proofs.lemmas.List.{take_more, drop_more, take-append-drop, map-append}
use Rattle.std.proofs.lemmas.List.Elements.{All-from_recursion, recursion_from_All, All-append}
use Rattle.std.proofs.lemmas.List.Elements.{All-nil, All-cons, All-weaker}
use Rattle.btf_strings.specs.Names.{Names, offset_of, next_offset, with_name, own_names}
use Rattle.btf_strings.specs.Names.{first_places}
use Rattle.btf_strings.proofs.Listed.{listed_more}
use Rattle.btf_strings.proofs.Offsets.{offset_kept}
use Rattle.btf_codec.specs.Spelling.{HasOffset, HasOffsets}
use Rattle.c_model.specs.declared.label.Part.{Part}
use Rattle.c_model.specs.declared.graph.CType.{CType}
use Rattle.split_base.specs.declared.fault.TableFault.{TableFault}
use Rattle.split_base.specs.declared.fault.TableFault.TheVariants.{NamesTooLong, Memory}
use Rattle.split_base.specs.Refusals.{names_of_type, names_in, strings_of, no_strings, is_far}
use Rattle.split_base.specs.Refusals.{far_name, names_refusal}
use Rattle.split_base.specs.Building.{with_names, ArePut, PutsNames}

-- lists of names, one after another
with_append : (s : Names) (xs ys : List (List ℕ))
    → with_names s (xs ++ ys) ≡ with_names (with_names s xs) ys
unfolding with_names
with_append s [] ys = refl
with_append s (x ∷ xs) ys = with_append (with_name s x) xs ys

far_append : (s : Names) (xs ys : List (List ℕ))
    → far_name s (xs ++ ys) ≡ option_or (far_name s xs) (far_name (with_names s xs) ys)
unfolding far_name with_names
far_append s [] ys = refl
far_append s (x ∷ xs) ys = by (is_far s x) (far_append (with_name s x) xs ys)
  where
    by : (b : Bool) → far_name (with_name s x) (xs ++ ys)
        ≡ option_or (far_name (with_name s x) xs) (far_name (with_names (with_name s x) xs) ys)
        → cond b (Some (next_offset s)) (far_name (with_name s x) (xs ++ ys))
        ≡ option_or (cond b (Some (next_offset s)) (far_name (with_name s x) xs))
        (far_name (with_names (with_name s x) xs) ys)
    by true e = refl
    by false e = e

-- offsets stay when names are put
kept_one : (s : Names) (name other : List ℕ) → HasOffset s other
    → HasOffset (with_name s name) other
kept_one s name other h = by (offset_of s other) refl h (is_some (offset_of s name))
  where
    by : (o : Option ℕ) → offset_of s other ≡ o → IsSome o → (b : Bool)
        → HasOffset (cond b s (record s { own = s.own ++ name ∷ [] })) other
    by None e k b = absurd (cc)
    by (Some k) e _ true = ap is_some e
    by (Some k) e _ false = ap is_some (offset_kept s name other k e)

kept_all : (s : Names) (names : List (List ℕ)) (other : List ℕ) → HasOffset s other
    → HasOffset (with_names s names) other
unfolding with_names
kept_all s [] other h = h
kept_all s (n ∷ ns) other h = kept_all (with_name s n) ns other (kept_one s n other h)

pub put_none : (s : Names) → ArePut s [] s
unfolding with_names far_name
put_none s = record { is = refl; near = refl; offsets = All-nil (HasOffset s) }

-- and then more names
pub put_more : (old s u : Names) (xs ys : List (List ℕ)) → ArePut old xs s → ArePut s ys u
    → ArePut old (xs ++ ys) u
put_more old s u xs ys a b = record {
  is = b.is ∙ ap (λ (v : Names). with_names v ys) a.is ∙ sym (with_append old xs ys);
  near = far_append old xs ys ∙ ap (λ (o : Option ℕ). option_or o (far_name (with_names old xs) ys))
      a.near ∙ ap (λ (v : Names). far_name v ys) (sym a.is) ∙ b.near;
  offsets = All-append (HasOffset u) xs ys
      (All-weaker (HasOffset s) (HasOffset u) (λ (n : List ℕ) (h : HasOffset s n).
      subst (λ (v : Names). HasOffset v n) (sym b.is) (kept_all s ys n h)) xs a.offsets) b.offsets;
}

is_near : (s : Names) (name : List ℕ) → (offset_of s name ≡ None → next_offset s ≤ 16777215)
    → is_far s name ≡ false
is_near s name room = by (offset_of s name) refl
  where
    by : (o : Option ℕ) → offset_of s name ≡ o → (is_none o && ltb 16777215 (next_offset s)) ≡ false
    by None e = le-ltb 16777215 (next_offset s) (room e)
    by (Some k) e = refl

pub put_one : (s u : Names) (name : List ℕ) (at : ℕ) → u ≡ with_name s name → offset_of u name
    ≡ Some at → (offset_of s name ≡ None → next_offset s ≤ 16777215) → ArePut s (name ∷ []) u
unfolding with_names far_name
put_one s u name at is offset room = record {
  is = is;
  near = ap (λ (b : Bool). cond b (Some (next_offset s)) None) (is_near s name room);
  offsets = All-cons (HasOffset u) name [] (ap is_some offset) (All-nil (HasOffset u));
}

pub put_full : (s : Names) (name : List ℕ) (at : ℕ) → offset_of s name ≡ None → at ≡ next_offset s
    → 16777215 < at
    → option_map (λ (k : ℕ). NamesTooLong k) (far_name s (name ∷ [])) ≡ Some (NamesTooLong at)
unfolding far_name
put_full s name at none is far =
    let lt : 16777215 < next_offset s = omega arith in
    ap (λ (o : Option ℕ). option_map (λ (k : ℕ). NamesTooLong k)
    (cond (is_none o && ltb 16777215 (next_offset s)) (Some (next_offset s)) None)) none
    ∙ ap (λ (b : Bool). option_map (λ (k : ℕ). NamesTooLong k)
    (cond b (Some (next_offset s)) None)) (lt-ltb 16777215 (next_offset s) lt)
    ∙ ap (λ (k : ℕ). Some (NamesTooLong k)) (sym is)

-- a call that stops stops the calls around it
pub put_stops : (old s : Names) (xs ys zs : List (List ℕ)) (e : TableFault) → ArePut old xs s
    → (e ≡ Memory) ⊎ (option_map (λ (k : ℕ). NamesTooLong k) (far_name s ys) ≡ Some e)
    → (e ≡ Memory)
    ⊎ (option_map (λ (k : ℕ). NamesTooLong k) (far_name old (xs ++ (ys ++ zs))) ≡ Some e)
put_stops old s xs ys zs e a (inl m) = inl m
put_stops old s xs ys zs e a (inr f) =
    let whole : far_name old (xs ++ (ys ++ zs))
    ≡ option_or (far_name s ys) (far_name (with_names s ys) zs) =
    far_append old xs (ys ++ zs)
    ∙ ap (λ (o : Option ℕ). option_or o (far_name (with_names old xs) (ys ++ zs))) a.near
    ∙ ap (λ (v : Names). far_name v (ys ++ zs)) (sym a.is) ∙ far_append s ys zs in
    inr (ap (option_map (λ (k : ℕ). NamesTooLong k)) whole ∙ by (far_name s ys) f)
  where
    by : (o : Option ℕ) → option_map (λ (k : ℕ). NamesTooLong k) o ≡ Some e → option_map
        (λ (k : ℕ). NamesTooLong k) (option_or o (far_name (with_names s ys) zs)) ≡ Some e
    by None g = cc
    by (Some k) g = g

-- the names of parts and of types, one more
pub part_names_more : (name : List ℕ) (parts : List Part) (i : ℕ) (d : Part) → i < length parts
    → name ∷ map (λ (p : Part). p.name) (take (i + 1) parts)
    ≡ (name ∷ map (λ (p : Part). p.name) (take i parts)) ++ (get_or parts i d).name ∷ []
part_names_more name parts i d lt =
    ap (λ (ps : List Part). name ∷ map (λ (p : Part). p.name) ps) (take_more parts i d lt)
    ∙ ap (λ (ns : List (List ℕ)). name ∷ ns)
    (map-append (λ (p : Part). p.name) (take i parts) (get_or parts i d ∷ []))

pub part_names_rest : (name : List ℕ) (parts : List Part) (i : ℕ) (d : Part) → i < length parts
    → name ∷ map (λ (p : Part). p.name) parts
    ≡ (name ∷ map (λ (p : Part). p.name) (take i parts))
    ++ (((get_or parts i d).name ∷ []) ++ map (λ (p : Part). p.name) (drop (i + 1) parts))
part_names_rest name parts i d lt =
    ap (λ (ps : List Part). name ∷ map (λ (p : Part). p.name) ps) (sym (take-append-drop i parts)
    ∙ ap (λ (ps : List Part). take i parts ++ ps) (drop_more parts i d lt))
    ∙ ap (λ (ns : List (List ℕ)). name ∷ ns)
    (map-append (λ (p : Part). p.name) (take i parts) (get_or parts i d ∷ drop (i + 1) parts))

pub type_names_more : (types : List CType) (i : ℕ) (d : CType) → i < length types
    → names_in (take (i + 1) types) ≡ names_in (take i types) ++ names_of_type (get_or types i d)
type_names_more types i d lt =
    ap names_in (take_more types i d lt)
    ∙ flat_map-append names_of_type (take i types) (get_or types i d ∷ [])
    ∙ ap (λ (ns : List (List ℕ)). names_in (take i types) ++ ns)
    (append-nil (names_of_type (get_or types i d)))

pub type_names_rest : (types : List CType) (i : ℕ) (d : CType) → i < length types → names_in types
    ≡ names_in (take i types) ++ (names_of_type (get_or types i d) ++ names_in (drop (i + 1) types))
type_names_rest types i d lt =
    ap names_in (sym (take-append-drop i types)
    ∙ ap (λ (ts : List CType). take i types ++ ts) (drop_more types i d lt))
    ∙ flat_map-append names_of_type (take i types) (get_or types i d ∷ drop (i + 1) types)

-- what was put is listed
base_stays : (t : Names) (name : List ℕ) → (with_name t name).base ≡ t.base
base_stays t name = by (is_some (offset_of t name))
  where
    by : (b : Bool) → (cond b t (record t { own = t.own ++ name ∷ [] })).base ≡ t.base
    by true = refl
    by false = refl

all_listed : (t : Names) (done names : List (List ℕ)) → t.own ≡ own_names t.base done
    → ((with_names t names).base ≡ t.base)
    × ((with_names t names).own ≡ own_names t.base (done ++ names))
unfolding with_names
all_listed t done [] e = (refl, e ∙ ap (own_names t.base) (sym (append-nil done)))
all_listed t done (n ∷ ns) e =
    let own : (with_name t n).own ≡ own_names (with_name t n).base (done ++ n ∷ []) =
    listed_more t n done e
    ∙ ap (λ (b : Option (List ℕ)). own_names b (done ++ n ∷ [])) (sym (base_stays t n)) in
    let h = all_listed (with_name t n) (done ++ n ∷ []) ns own in (
      h.0 ∙ base_stays t n,
      h.1 ∙ ap (λ (b : Option (List ℕ)). own_names b ((done ++ n ∷ []) ++ ns)) (base_stays t n)
          ∙ ap (own_names t.base) (append_assoc done (n ∷ []) ns),
    )

pub strings_put : (base : Option (List ℕ)) (types : List CType) (s : Names)
    → ArePut (no_strings base) (names_in types) s → s ≡ strings_of base types
unfolding first_places
strings_put base types s a =
    let h = all_listed (no_strings base) [] (names_in types) refl in
    a.is
    ∙ ap (λ (b : Option (List ℕ)). let v : Names = record {
      base = b;
      own = (with_names (no_strings base) (names_in types)).own;
    } in v) h.0
    ∙ ap (λ (o : List (List ℕ)). let v : Names = record { base = base; own = o } in v) h.1

-- the types' names have offsets
split_all : {X : Type 0} (P : X → Type 0) (xs ys : List X) → AllByRecursion P (xs ++ ys)
    → AllByRecursion P xs × AllByRecursion P ys
split_all P [] ys a = (tt, a)
split_all P (x ∷ xs) ys a = let h = split_all P xs ys a.1 in ((a.0, h.0), h.1)

part_offsets : (s : Names) (parts : List Part) → AllByRecursion (HasOffset s)
    (map (λ (p : Part). p.name) parts) → AllByRecursion (λ (p : Part). HasOffset s p.name) parts
part_offsets s [] a = tt
part_offsets s (p ∷ ps) a = (a.0, part_offsets s ps a.1)

type_offsets : (s : Names) (types : List CType) → AllByRecursion (HasOffset s) (names_in types)
    → AllByRecursion (HasOffsets s) types
type_offsets s [] a = tt
type_offsets s (t ∷ ts) a =
    let h = split_all (HasOffset s) (names_of_type t) (names_in ts) a in (
      record {
        name = h.0.0;
        parts = All-from_recursion
            (λ (p : Part). HasOffset s p.name) t.label.parts (part_offsets s t.label.parts h.0.1);
      },
      type_offsets s ts h.1,
    )

pub offsets_put : (old s : Names) (types : List CType) → ArePut old (names_in types) s
    → All (HasOffsets s) types
offsets_put old s types a = All-from_recursion (HasOffsets s) types
    (type_offsets s types (recursion_from_All (HasOffset s) (names_in types) a.offsets))

-- a type whose names stop, among types
pub names_stop : (base : Option (List ℕ)) (s : Names) (types : List CType) (i : ℕ) (t : CType)
    (e : TableFault) → i < length types → t ≡ get_or types i t
    → ArePut (no_strings base) (names_in (take i types)) s → PutsNames s (names_of_type t) s
    (Err e) → (e ≡ Memory) ⊎ (names_refusal base types ≡ Some e)
names_stop base s types i t e lt at a stop =
    rw (type_names_rest types i t lt)
    (put_stops (no_strings base) s (names_in (take i types)) (names_of_type (get_or types i t))
    (names_in (drop (i + 1) types)) e a
    (subst (λ (u : CType). PutsNames s (names_of_type u) s (Err e)) at stop))
