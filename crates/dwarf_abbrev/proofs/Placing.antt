-- Where a code stands.
use Rattle.std.proofs.Common.{◌≡◌, ℕ, zero, suc, ◌+◌, ◌-◌, ◌<◌, ◌≤◌, ◌⊎◌, ◌==◌, Bool, true, false}
use Rattle.std.proofs.Common.{List, [], ◌∷◌, ◌++◌, map, length, get_or, Option, None, Some}
use Rattle.std.proofs.Common.{if◌then◌else◌, refl, sym, ap, ◌∙◌, arith, inl, inr}
use Rattle.std.specs.Option.{option_map}
use Rattle.std.specs.Ordering.{nat_cmp}
use Rattle.std.specs.BTreeMap.{BTreeMap, get}
use Rattle.std.proofs.lemmas.Bool.{cases_eq, cases_lt, eq-eqb, ne_eqb, both_ways}
use Rattle.std.proofs.lemmas.List.{get_or-map, map_push, get_or_append_left, get_or_push}
use Rattle.std.proofs.lemmas.List.{length-map, length_push}
use Rattle.dwarf_abbrev.specs.Declarations.{Declaration, place_of, declaration_with}
use Rattle.dwarf_abbrev.specs.Rows.{IsPlaced, code_at, row_code, declarations_of, declaration_of}
use Rattle.dwarf_abbrev.specs.declared.row.Row.{Row}
use Rattle.dwarf_abbrev.specs.declared.spec.Spec.{Spec}

pub place_found : (declarations : List Declaration) (i q : ℕ) → i < length declarations
    → code_at declarations i ≡ q → ((j : ℕ) → j < i → code_at declarations j ≡ q → ⊥)
    → place_of q declarations ≡ Some i
place_found [] i q lt is before = absurd (omega arith)
place_found (r ∷ rs) zero q lt is before = let t : (r.code == q) ≡ true =
    eq-eqb r.code q is in rw t refl
place_found (r ∷ rs) (suc i) q lt is before =
    let n : r.code ≡ q → ⊥ = before 0 (omega arith) in
    let t : (r.code == q) ≡ false = ne_eqb r.code q n in
    rw (
      t,
      place_found rs i q (omega arith) is
          (λ (j : ℕ) (l : j < i). before (suc j) (omega arith)),
    ) refl

pub place_none : (declarations : List Declaration) (q : ℕ) → ((j : ℕ) → j < length declarations
    → code_at declarations j ≡ q → ⊥) → place_of q declarations ≡ None
place_none [] q never = refl
place_none (r ∷ rs) q never =
    let t : (r.code == q) ≡ false = ne_eqb r.code q (never 0 (omega arith)) in
    rw (t, place_none rs q (λ (j : ℕ) (l : j < length rs). never (suc j) (omega arith))) refl

-- a place in the rest of the declarations
abbrev pub later : Bool → Option ℕ → Option ℕ
later t o = if t then Some 0 else option_map (λ (i : ℕ). suc i) o

pub not_later : (t : Bool) (o : Option ℕ) → later t o ≡ None → (t ≡ false) × (o ≡ None)
not_later true o e = cc
not_later false None e = (refl, refl)
not_later false (Some i) e = cc

-- what the place of a code says
pub not_placed : (declarations : List Declaration) (q : ℕ) (j : ℕ) → place_of q declarations ≡ None
    → j < length declarations → code_at declarations j ≡ q → ⊥
not_placed [] q j e lt is = omega arith
not_placed (r ∷ rs) q zero e lt is = let p = not_later (r.code == q) (place_of q rs) e in
    both_ways (r.code == q) p.0 (eq-eqb r.code q is)
not_placed (r ∷ rs) q (suc j) e lt is = let p = not_later (r.code == q) (place_of q rs) e in
    not_placed rs q j p.1 (omega arith) is

declaration_step : (r : Declaration) (rs : List Declaration) (q i : ℕ) (d : Declaration) (t : Bool)
    (o : Option ℕ) → ((j : ℕ) → o ≡ Some j
    → (j < length rs) × (declaration_with q rs ≡ Some (get_or rs j d)))
    → later t o ≡ Some i → (i < suc (length rs))
    × ((if t then Some r else declaration_with q rs) ≡ Some (get_or (r ∷ rs) i d))
declaration_step r rs q i d true o ih e = let z : 0 ≡ i = cc in rw (← z) (omega arith, refl)
declaration_step r rs q i d false None ih e = cc
declaration_step r rs q i d false (Some j) ih e = let z : suc j ≡ i = cc in let p = ih j refl in
    rw (← z) (omega (arith, p.0), p.1)

pub declaration_there : (declarations : List Declaration) (q i : ℕ) (d : Declaration)
    → place_of q declarations ≡ Some i
    → (i < length declarations) × (declaration_with q declarations ≡ Some (get_or declarations i d))
declaration_there [] q i d e = cc
declaration_there (r ∷ rs) q i d e = declaration_step r rs q i d (r.code == q) (place_of q rs)
    (λ (j : ℕ) (h : place_of q rs ≡ Some j). declaration_there rs q j d h) e

pub no_declaration : (declarations : List Declaration) (q : ℕ) → place_of q declarations ≡ None
    → declaration_with q declarations ≡ None
no_declaration [] q e = refl
no_declaration (r ∷ rs) q e = let p = not_later (r.code == q) (place_of q rs) e in
    rw (p.0, no_declaration rs q p.1) refl

-- the guess, and then the map
pub guessed : (declarations : List Declaration) (others : BTreeMap ℕ ℕ) (q i : ℕ)
    → IsPlaced declarations others → i < length declarations → code_at declarations i ≡ q
    → place_of q declarations ≡ Some i
guessed declarations others q i p lt is =
    place_found declarations i q lt is (λ (j : ℕ) (l : j < i) (e : code_at declarations j ≡ q).
    let s : j ≡ i = p.distinct j i (omega arith) lt (e ∙ sym is) in omega arith)

pub looked_up : (declarations : List Declaration) (others : BTreeMap ℕ ℕ) (q : ℕ)
    → IsPlaced declarations others → (0 < q → q - 1 < length declarations
    → code_at declarations (q - 1) ≡ q → ⊥) → get nat_cmp others q ≡ place_of q declarations
looked_up declarations others q p never = by (get nat_cmp others q) refl
  where
    by : (o : Option ℕ) → get nat_cmp others q ≡ o → o ≡ place_of q declarations
    by (Some i) h = let f = p.found q i h in sym (guessed declarations others q i p f.0 f.1)
    by None h = sym (place_none declarations q
        (λ (j : ℕ) (lt : j < length declarations) (is : code_at declarations j ≡ q).
        either j lt is (p.each j lt)))
      where
        either : (j : ℕ) → j < length declarations → code_at declarations j ≡ q → (code_at
            declarations j ≡ j + 1) ⊎ (get nat_cmp others (code_at declarations j) ≡ Some j) → ⊥
        either j lt is (inl at) =
            let e : q - 1 ≡ j = omega arith in
            never (omega arith) (omega arith) (ap (code_at declarations) e ∙ is)
        either j lt is (inr at) = let g : get nat_cmp others q ≡ Some j =
            ap (get nat_cmp others) (sym is) ∙ at in cc

-- one more declaration
pub code_before : (declarations : List Declaration) (r : Declaration) (i : ℕ)
    → i < length declarations → code_at (declarations ++ r ∷ []) i ≡ code_at declarations i
code_before declarations r i lt =
    let l : i < length (map (λ (r : Declaration). r.code) declarations) =
    rw (length-map declarations (λ (r : Declaration). r.code)) lt in
    rw (map_push (λ (r : Declaration). r.code) declarations r)
    (get_or_append_left (map (λ (r : Declaration). r.code) declarations) (r.code ∷ []) 0 i l)

pub code_last : (declarations : List Declaration) (r : Declaration)
    → code_at (declarations ++ r ∷ []) (length declarations) ≡ r.code
code_last declarations r =
    rw (map_push (λ (r : Declaration). r.code) declarations r)
    (get_or_push (map (λ (r : Declaration). r.code) declarations) r.code 0 (length declarations)
    (length-map declarations (λ (r : Declaration). r.code)))

pub places_push : (declarations : List Declaration) (r : Declaration) (old new : BTreeMap ℕ ℕ)
    → IsPlaced declarations old → place_of r.code declarations ≡ None
    → ((q : ℕ) → (q ≡ r.code → ⊥) → get nat_cmp new q ≡ get nat_cmp old q)
    → (r.code ≡ length declarations + 1) × (get nat_cmp new r.code ≡ get nat_cmp old r.code)
    ⊎ (get nat_cmp new r.code ≡ Some (length declarations))
    → IsPlaced (declarations ++ r ∷ []) new
places_push declarations r old new p none others here =
    record {
      each = λ (i : ℕ) (lt : i < length (declarations ++ r ∷ [])).
          each i lt (cases_lt i (length declarations));
      found = λ (q i : ℕ) (h : get nat_cmp new q ≡ Some i). found q i h (cases_eq q r.code);
      distinct = λ (i j : ℕ) (a : i < length (declarations ++ r ∷ [])) (b : j < length (declarations
          ++ r ∷ [])) (e : code_at (declarations ++ r ∷ []) i ≡ code_at (declarations ++ r ∷ []) j).
          distinct i j a b e (cases_lt i (length declarations)) (cases_lt j (length declarations));
    }
  where
    fresh : (i : ℕ) → i < length declarations → code_at declarations i ≡ r.code → ⊥
    fresh i lt = not_placed declarations r.code i none lt

    last : (i : ℕ) → i < length (declarations ++ r ∷ []) → length declarations ≤ i
        → i ≡ length declarations
    last i lt le = omega (arith, length_push declarations r)

    end : (i : ℕ) → i ≡ length declarations → code_at (declarations ++ r ∷ []) i ≡ r.code
    end i e = rw e (code_last declarations r)

    each : (i : ℕ) → i < length (declarations ++ r ∷ []) → (i < length declarations)
        ⊎ (length declarations ≤ i) → (code_at (declarations ++ r ∷ []) i ≡ i + 1)
        ⊎ (get nat_cmp new (code_at (declarations ++ r ∷ []) i) ≡ Some i)
    each i lt (inl l) = rw (code_before declarations r i l) (keep (p.each i l))
      where
        keep : (code_at declarations i ≡ i + 1)
            ⊎ (get nat_cmp old (code_at declarations i) ≡ Some i)
            → (code_at declarations i ≡ i + 1) ⊎ (get nat_cmp new (code_at declarations i) ≡ Some i)
        keep (inl a) = inl a
        keep (inr b) = inr (others (code_at declarations i) (fresh i l) ∙ b)
    each i lt (inr le) = rw (end i (last i lt le)) (there here)
      where
        there : (r.code ≡ length declarations + 1) × (get nat_cmp new r.code
            ≡ get nat_cmp old r.code) ⊎ (get nat_cmp new r.code ≡ Some (length declarations))
            → (r.code ≡ i + 1) ⊎ (get nat_cmp new r.code ≡ Some i)
        there (inl a) = inl (a.0 ∙ ap (λ (k : ℕ). k + 1) (sym (last i lt le)))
        there (inr b) = inr (b ∙ ap (λ (k : ℕ). Some k) (sym (last i lt le)))

    found : (q i : ℕ) → get nat_cmp new q ≡ Some i → (q ≡ r.code) ⊎ (q ≡ r.code → ⊥)
        → (i < length (declarations ++ r ∷ [])) × (code_at (declarations ++ r ∷ []) i ≡ q)
    found q i h (inr ne) =
        let f = p.found q i (sym (others q ne) ∙ h) in
        (omega (arith, length_push declarations r, f.0), code_before declarations r i f.0 ∙ f.1)
    found q i h (inl e) = there here
      where
        there : (r.code ≡ length declarations + 1) × (get nat_cmp new r.code
            ≡ get nat_cmp old r.code) ⊎ (get nat_cmp new r.code ≡ Some (length declarations))
            → (i < length (declarations ++ r ∷ [])) × (code_at (declarations ++ r ∷ []) i ≡ q)
        there (inl a) = let f = p.found r.code i (sym a.1 ∙ ap (get nat_cmp new) (sym e) ∙ h) in
            absurd (fresh i f.0 f.1)
        there (inr b) =
            let s : Some (length declarations) ≡ Some i =
            sym b ∙ ap (get nat_cmp new) (sym e) ∙ h in
            let w : i ≡ length declarations = cc in
            (omega (arith, length_push declarations r), end i w ∙ sym e)

    distinct : (i j : ℕ) → i < length (declarations ++ r ∷ []) → j < length (declarations ++ r ∷ [])
        → code_at (declarations ++ r ∷ []) i ≡ code_at (declarations ++ r ∷ []) j
        → (i < length declarations) ⊎ (length declarations ≤ i)
        → (j < length declarations) ⊎ (length declarations ≤ j) → i ≡ j
    distinct i j a b e (inl k) (inl l) = p.distinct i j k l
        (sym (code_before declarations r i k) ∙ e ∙ code_before declarations r j l)
    distinct i j a b e (inl k) (inr l) =
        absurd (fresh i k (sym (code_before declarations r i k) ∙ e ∙ end j (last j b l)))
    distinct i j a b e (inr k) (inl l) =
        absurd (fresh j l (sym (code_before declarations r j l) ∙ sym e ∙ end i (last i a k)))
    distinct i j a b e (inr k) (inr l) = last i a k ∙ sym (last j b l)

-- of the rows
codes_are : (specs : List Spec) (rows : List Row)
    → map (λ (d : Declaration). d.code) (declarations_of specs rows)
    ≡ map (λ (r : Row). r.code) rows
codes_are specs [] = refl
codes_are specs (r ∷ rs) = ap (λ (ns : List ℕ). r.code ∷ ns) (codes_are specs rs)

pub row_code_is : (specs : List Spec) (rows : List Row) (i : ℕ)
    → code_at (declarations_of specs rows) i ≡ row_code rows i
row_code_is specs rows i = ap (λ (ns : List ℕ). get_or ns i 0) (codes_are specs rows)

pub code_of_row : (rows : List Row) (i : ℕ) (x : Row) → i < length rows → x ≡ get_or rows i x
    → row_code rows i ≡ x.code
code_of_row rows i x lt is = get_or-map (λ (r : Row). r.code) rows i x 0 lt
    ∙ ap (λ (r : Row). r.code) (sym is)

pub declaration_of_row : (specs : List Spec) (rows : List Row) (i : ℕ) (x : Row)
    → i < length rows → x ≡ get_or rows i x
    → get_or (declarations_of specs rows) i (declaration_of specs x) ≡ declaration_of specs x
declaration_of_row specs rows i x lt is =
    get_or-map (declaration_of specs) rows i x (declaration_of specs x) lt
    ∙ ap (declaration_of specs) (sym is)

pub declarations_length : (specs : List Spec) (rows : List Row)
    → length (declarations_of specs rows) ≡ length rows
declarations_length specs rows = length-map rows (declaration_of specs)

pub in_rows : (specs : List Spec) (rows : List Row) (q i : ℕ)
    → Some i ≡ place_of q (declarations_of specs rows) → i < length rows
in_rows specs rows q i is =
    let d : Declaration = record { code = 0; tag = 0; children = false; specs = [] } in
    let p = declaration_there (declarations_of specs rows) q i d (sym is) in
    omega (arith, p.0, declarations_length specs rows)
