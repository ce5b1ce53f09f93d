-- The own names of a list of names, with one name more.
use Rattle.std.proofs.Common.{◌≡◌, ℕ, ◌||◌, not, Bool, true, false, List, [], ◌∷◌, ◌++◌, filter}
use Rattle.std.proofs.Common.{Option, None, Some, if◌then◌else◌, is_some, is_none, refl, sym, ap}
use Rattle.std.proofs.Common.{◌∙◌, append-nil}
use Rattle.std.specs.List.{list_any}
use Rattle.std.specs.Option.{option_or}
use Rattle.std.specs.Str.{bytes_eq}
use Rattle.std.proofs.lemmas.List.Elements.{filter-append}
use Rattle.dw_base.proofs.Texts.{bytes_eq_same, bytes_eq_turned}
use Rattle.btf_strings.specs.Names.{Names, base_offset, first_offset, first_places, is_own}
use Rattle.btf_strings.specs.Names.{offset_among, offset_of, own_names, with_name}
use Rattle.btf_strings.proofs.Among.{has_offset}

-- the names other than one
abbrev others : List ℕ → List (List ℕ) → List (List ℕ)
others x ns = filter (λ (m : List ℕ). not (bytes_eq x m)) ns

-- a name that isn't the other is among the others where it was
any_other : (n x m : List ℕ) (ms : List (List ℕ)) (t : Bool) → bytes_eq n x ≡ false
    → bytes_eq x m ≡ t
    → list_any (bytes_eq n) (others x ms) ≡ list_any (bytes_eq n) ms
    → list_any (bytes_eq n) (if not t then m ∷ others x ms else others x ms)
    ≡ (bytes_eq n m || list_any (bytes_eq n) ms)
any_other n x m ms true ne e ih =
    let f : bytes_eq n m ≡ false =
    ap (λ (k : List ℕ). bytes_eq n k) (sym (bytes_eq_same x m e)) ∙ ne in
    rw f ih
any_other n x m ms false ne e ih = ap (λ (b : Bool). bytes_eq n m || b) ih

any_others : (n x : List ℕ) (ms : List (List ℕ)) → bytes_eq n x ≡ false
    → list_any (bytes_eq n) (others x ms) ≡ list_any (bytes_eq n) ms
any_others n x [] ne = refl
any_others n x (m ∷ ms) ne = any_other n x m ms (bytes_eq x m) ne refl (any_others n x ms ne)

-- one name more, at the end
appended : (n x : List ℕ) (front : List (List ℕ)) (t b : Bool) → bytes_eq n x ≡ t
    → list_any (bytes_eq n) front ≡ b
    → x ∷ others x (if b then front else front ++ n ∷ []) ≡ (if t || list_any (bytes_eq n)
    (others x front) then x ∷ others x front else (x ∷ others x front) ++ n ∷ [])
appended n x front true true e any = refl
appended n x front true false e any =
    let s : bytes_eq x n ≡ true = bytes_eq_turned x n ∙ e in
    let f : others x (front ++ n ∷ []) ≡ others x front ++ others x (n ∷ []) =
    filter-append (λ (m : List ℕ). not (bytes_eq x m)) front (n ∷ []) in
    let g : others x (n ∷ []) ≡ [] = rw s refl in
    ap (λ (ns : List (List ℕ)). x ∷ ns)
    (f ∙ ap (λ (ns : List (List ℕ)). others x front ++ ns) g ∙ append-nil (others x front))
appended n x front false true e any =
    let a : list_any (bytes_eq n) (others x front) ≡ true = any_others n x front e ∙ any in
    rw a refl
appended n x front false false e any =
    let a : list_any (bytes_eq n) (others x front) ≡ false = any_others n x front e ∙ any in
    let s : bytes_eq x n ≡ false = bytes_eq_turned x n ∙ e in
    let f : others x (front ++ n ∷ []) ≡ others x front ++ others x (n ∷ []) =
    filter-append (λ (m : List ℕ). not (bytes_eq x m)) front (n ∷ []) in
    let g : others x (n ∷ []) ≡ n ∷ [] = rw s refl in
    rw a (ap
    (λ (ns : List (List ℕ)). x ∷ ns) (f ∙ ap (λ (ns : List (List ℕ)). others x front ++ ns) g))

first_places_more : (ns : List (List ℕ)) (n : List ℕ) → first_places (ns ++ n ∷ []) ≡ (if list_any
    (bytes_eq n) (first_places ns) then first_places ns else first_places ns ++ n ∷ [])
unfolding first_places
first_places_more [] n = refl
first_places_more (x ∷ ns) n =
    ap (λ (ms : List (List ℕ)). x ∷ others x ms) (first_places_more ns n)
    ∙ appended n x (first_places ns) (bytes_eq n x)
    (list_any (bytes_eq n) (first_places ns)) refl refl

-- a name that has no place of its own has an offset in each table of the base
has_no_place : (t : Names) (name : List ℕ) → is_own t.base name ≡ false
    → is_some (offset_of t name) ≡ true
unfolding offset_of
has_no_place t [] e = refl
has_no_place t (b ∷ bs) e = by (base_offset t.base (b ∷ bs)) e
  where
    by : (o : Option ℕ) → is_none o ≡ false
        → is_some (option_or o (offset_among (first_offset t.base) t.own (b ∷ bs))) ≡ true
    by None e = cc
    by (Some x) e = refl

has_place : (t : Names) (name : List ℕ) → is_own t.base name ≡ true
    → is_some (offset_of t name) ≡ list_any (bytes_eq name) t.own
unfolding offset_of
has_place t [] e = cc
has_place t (b ∷ bs) e = by (base_offset t.base (b ∷ bs)) e
  where
    by : (o : Option ℕ) → is_none o ≡ true → is_some (option_or o
        (offset_among (first_offset t.base) t.own (b ∷ bs))) ≡ list_any (bytes_eq (b ∷ bs)) t.own
    by None e = has_offset (first_offset t.base) t.own (b ∷ bs)
    by (Some x) e = cc

chosen_own : (t : Names) (name : List ℕ) (b : Bool) → (if b then t
    else record t { own = t.own ++ name ∷ [] }).own ≡ (if b then t.own else t.own ++ name ∷ [])
chosen_own t name true = refl
chosen_own t name false = refl

listed : (t : Names) (name : List ℕ) (names : List (List ℕ)) (p : Bool)
    → t.own ≡ own_names t.base names → is_own t.base name ≡ p
    → (if is_some (offset_of t name) then t.own else t.own ++ name ∷ [])
    ≡ first_places (filter (is_own t.base) names ++ (if p then name ∷ [] else []))
listed t name names true is e =
    let h : is_some (offset_of t name) ≡ list_any (bytes_eq name) t.own = has_place t name e in
    rw h
    (ap (λ (ns : List (List ℕ)). if list_any (bytes_eq name) ns then ns else ns ++ name ∷ []) is
    ∙ sym (first_places_more (filter (is_own t.base) names) name))
listed t name names false is e =
    let h : is_some (offset_of t name) ≡ true = has_no_place t name e in
    rw h (is ∙ ap
    (λ (ns : List (List ℕ)). first_places ns) (sym (append-nil (filter (is_own t.base) names))))

-- the own names of a table with one name more are those of the list with one name more
pub listed_more : (t : Names) (name : List ℕ) (names : List (List ℕ)) → t.own
    ≡ own_names t.base names → (with_name t name).own ≡ own_names t.base (names ++ name ∷ [])
listed_more t name names is =
    chosen_own t name (is_some (offset_of t name))
    ∙ listed t name names (is_own t.base name) is refl
    ∙ ap (λ (ns : List (List ℕ)). first_places ns)
    (sym (filter-append (is_own t.base) names (name ∷ [])))

pub with_known : (t : Names) (name : List ℕ) (at : ℕ) → offset_of t name ≡ Some at
    → t ≡ with_name t name
with_known t name at e = rw e refl

pub with_new : (t : Names) (name : List ℕ) → offset_of t name ≡ None
    → record t { own = t.own ++ name ∷ [] } ≡ with_name t name
with_new t name e = rw e refl

-- what is put is listed
pub listed_after : (t u : Names) (name : List ℕ) → u ≡ with_name t name → (names : List (List ℕ))
    → t.own ≡ own_names t.base names → u.own ≡ own_names t.base (names ++ name ∷ [])
listed_after t u name e names is = ap (λ (n : Names). n.own) e ∙ listed_more t name names is
