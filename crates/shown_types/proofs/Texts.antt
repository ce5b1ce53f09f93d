-- Texts one after another.
use Rattle.std.proofs.Common.{◌≡◌, ◌+◌, ◌<◌, ◌≤◌, ◌++◌, ◌==◌, ℕ, suc, not, Bool, true, false, cond}
use Rattle.std.proofs.Common.{List, [], ◌∷◌, Option, None, Ok, Err, All, refl, sym, ap, ◌∙◌, subst}
use Rattle.std.proofs.Common.{arith, eqb-true, length, map, drop, get_or, drop-cons}
use Rattle.std.proofs.Common.{if◌then◌else◌, append_assoc}
use Rattle.std.proofs.lemmas.List.{append-nil, drop_all, map-append}
use Rattle.std.proofs.lemmas.List.Elements.{All-append, filter-append}
use Rattle.std.proofs.lemmas.Grind.{flat_map-append}
use Rattle.std.specs.List.{filter, flat_map}
use Rattle.std.specs.Option.{option_or}
use Rattle.c_model.specs.declared.graph.CType.{CType}
use Rattle.layout_printer.specs.Sizes.{ref_of}
use Rattle.layout_printer.specs.Text.{head_text, members_text, name_of, sizes_line, text_of}
use Rattle.layout_printer.specs.declared.slots.TypeLayout.{TypeLayout}
use Rattle.shown_types.specs.declared.fault.ShowFault.{ShowFault}
use Rattle.shown_types.specs.declared.fault.ShowFault.TheVariants.{NoName, NoSize, Memory}
use Rattle.shown_types.specs.declared.showing.Style.{Style}
use Rattle.shown_types.specs.Shown.{no_size, first_no_size, IsShown, has_holes, piece, separator}
use Rattle.shown_types.specs.Shown.{join_with, whole, put_for, ShowsPlace, ShowsPlaces}

abbrev Pair : Type 0
Pair = ℕ × TypeLayout

abbrev kept : Style → List Pair → List Pair
kept style pairs = filter (has_holes style) pairs

abbrev is_begun : List (List ℕ) → Bool
is_begun [] = false
is_begun (x ∷ xs) = true

-- one text more at the end
joined-push :
    (between : List ℕ) (texts : List (List ℕ)) (text : List ℕ)
    → join_with between (texts ++ text ∷ [])
    ≡ join_with between texts ++ ((if is_begun texts then between else []) ++ text)
joined-push between [] text = append-nil text
joined-push between (x ∷ xs) text =
    let f : List ℕ → List ℕ = λ y. between ++ y in
    ap (λ (l : List ℕ). x ++ l) (flat_map-append f xs (text ∷ [])
    ∙ ap (λ (l : List ℕ). flat_map f xs ++ l) (append-nil (between ++ text)))
    ∙ sym (append_assoc x (flat_map f xs) (between ++ text))

abbrev is_text : List ℕ → Bool
is_text [] = false
is_text (x ∷ xs) = true

not-empty : (n : ℕ) (b : Bool) → (suc n == 0) ≡ b → not b ≡ true
not-empty n true h = absurd (omega (arith, eqb-true (suc n) 0 h))
not-empty n false h = refl

text-is : (text : List ℕ) → not (length text == 0) ≡ is_text text
text-is [] = refl
text-is (x ∷ xs) = not-empty (length xs) (suc (length xs) == 0) refl

text-right : (xs ys : List ℕ) → is_text ys ≡ true → is_text (xs ++ ys) ≡ true
text-right [] ys h = h
text-right (x ∷ xs) ys h = refl

text-left : (xs ys : List ℕ) → is_text xs ≡ true → is_text (xs ++ ys) ≡ true
text-left [] ys h = absurd (cc)
text-left (x ∷ xs) ys h = refl

-- no text of a type is empty
piece-is : (types : List CType) (style : Style) (p : Pair) (b : Bool) → style.sizes ≡ b
    → is_text (piece types style p) ≡ true
unfolding piece text_of
piece-is types style p true e =
    ap (λ (c : Bool). is_text (if c then sizes_line types (suc p.0) p.1
    else text_of types (suc p.0) p.1 style.line)) e
    ∙ text-right (name_of types (ref_of (suc p.0))) _ refl
piece-is types style p false e =
    ap (λ (c : Bool). is_text (if c then sizes_line types (suc p.0) p.1
    else text_of types (suc p.0) p.1 style.line)) e
    ∙ text-right (head_text types (suc p.0) p.1.id) _
    (text-right (members_text types (ref_of p.1.id) style.line p.1.slots) _ refl)

-- a text has begun where one of a type is there
begun-is : (types : List CType) (style : Style) (ps : List Pair)
    → is_text (join_with (separator style) (map (piece types style) ps))
    ≡ is_begun (map (piece types style) ps)
begun-is types style [] = refl
begun-is types style (p ∷ ps) =
    text-left (piece types style p)
    (flat_map (λ (y : List ℕ). separator style ++ y) (map (piece types style) ps))
    (piece-is types style p style.sizes refl)

-- so many places are shown
pub record ShownSoFar (types : List CType) (pointer : ℕ) (style : Style) (places : List ℕ) (i : ℕ)
    (out : List ℕ) : Type 0 where
  pub pairs : List Pair
  pub places_are : map (λ (p : Pair). p.0) pairs ++ drop i places ≡ places
  pub each : All (λ (p : Pair). IsShown types pointer p.0 p.1) pairs
  pub text_is : out ≡ whole types style pairs
  pub passed : first_no_size types pointer (drop i places) ≡ first_no_size types pointer places

pub shown_none : (types : List CType) (pointer : ℕ) (style : Style) (places : List ℕ)
    → ShownSoFar types pointer style places 0 []
shown_none types pointer style places =
    record {
      pairs = [];
      places_are = refl;
      each = λ k d lt. absurd (omega arith);
      text_is = refl;
      passed = refl;
    }

next_place : (places : List ℕ) (i d : ℕ) → i < length places
    → drop i places ≡ get_or places i d ∷ drop (i + 1) places
next_place places i d lt =
    let step : suc i ≡ i + 1 = omega arith in
    drop-cons places i d lt ∙ ap (λ (k : ℕ). get_or places i d ∷ drop k places) step

kept-push : (style : Style) (pairs : List Pair) (p : Pair) (b : Bool) → has_holes style p ≡ b
    → kept style (pairs ++ p ∷ []) ≡ kept style pairs ++ (if b then p ∷ [] else [])
kept-push style pairs p true e = filter-append (has_holes style) pairs (p ∷ [])
    ∙ ap (λ (c : Bool). kept style pairs ++ cond c (p ∷ []) []) e
kept-push style pairs p false e = filter-append (has_holes style) pairs (p ∷ [])
    ∙ ap (λ (c : Bool). kept style pairs ++ cond c (p ∷ []) []) e

-- the text of one pair more
more_text :
    (types : List CType) (style : Style) (pairs : List Pair) (p : Pair) (b : Bool)
    → has_holes style p ≡ b
    → whole types style pairs ++ put_for types style p (whole types style pairs)
    ≡ whole types style (pairs ++ p ∷ [])
more_text types style pairs p true e =
    let old : List ℕ = whole types style pairs in
    let texts : List (List ℕ) = map (piece types style) (kept style pairs) in
    ap (λ (c : Bool). old
    ++ (if c then (if not (length old == 0) then separator style else []) ++ piece types style p
    else [])) e
    ∙ ap (λ (c : Bool). old ++ ((if c then separator style else []) ++ piece types style p))
    (text-is old ∙ begun-is types style (kept style pairs))
    ∙ sym (joined-push (separator style) texts (piece types style p))
    ∙ sym (ap (join_with (separator style))
    (ap (map (piece types style)) (kept-push style pairs p true e)
    ∙ map-append (piece types style) (kept style pairs) (p ∷ [])))
more_text types style pairs p false e =
    let old : List ℕ = whole types style pairs in
    ap (λ (c : Bool). old
    ++ (if c then (if not (length old == 0) then separator style else []) ++ piece types style p
    else [])) e
    ∙ append-nil old
    ∙ sym (ap (λ (ps : List Pair). join_with (separator style) (map (piece types style) ps))
    (kept-push style pairs p false e ∙ append-nil (kept style pairs)))

or_none : (o p : Option ℕ) → o ≡ None → option_or o p ≡ p
or_none o p e = ap (λ (q : Option ℕ). option_or q p) e

-- one place more
pub shown_more :
    (types : List CType) (pointer : ℕ) (style : Style) (places : List ℕ) (i d : ℕ)
    (out new : List ℕ) (shown : TypeLayout)
    → i < length places
    → ShownSoFar types pointer style places i out
    → no_size types pointer (get_or places i d) ≡ None
    → IsShown types pointer (get_or places i d) shown
    → new ≡ out ++ put_for types style (get_or places i d, shown) out
    → ShownSoFar types pointer style places (i + 1) new
shown_more types pointer style places i d out new shown lt s sizes is text =
    let pair : Pair = (get_or places i d, shown) in
    let rest : List ℕ = drop (i + 1) places in
    let next : drop i places ≡ get_or places i d ∷ rest = next_place places i d lt in
    record {
      pairs = s.pairs ++ pair ∷ [];
      places_are =
          ap (λ (l : List ℕ). l ++ rest) (map-append (λ (q : Pair). q.0) s.pairs (pair ∷ []))
          ∙ append_assoc (map (λ (q : Pair). q.0) s.pairs) (get_or places i d ∷ []) rest
          ∙ ap (λ (l : List ℕ). map (λ (q : Pair). q.0) s.pairs ++ l) (sym next)
          ∙ s.places_are;
      each =
          All-append (λ (q : Pair). IsShown types pointer q.0 q.1) s.pairs (pair ∷ []) s.each
          (one (λ (q : Pair). IsShown types pointer q.0 q.1) pair is);
      text_is =
          text ∙ ap (λ (t : List ℕ). t ++ put_for types style pair t) s.text_is
          ∙ more_text types style s.pairs pair (has_holes style pair) refl;
      passed =
          sym (or_none (no_size types pointer (get_or places i d))
          (first_no_size types pointer rest) sizes)
          ∙ sym (ap (first_no_size types pointer) next) ∙ s.passed;
    }
  where
    one : (P : Pair → Type 0) (q : Pair) → P q → All P (q ∷ [])
    one P q h = λ k d lt. let z : k ≡ 0 = omega arith in
        subst (λ (j : ℕ). P (get_or (q ∷ []) j d)) (sym z) h

-- a place whose structure has a member without a size
pub shown_part :
    (types : List CType) (pointer : ℕ) (style : Style) (places : List ℕ) (i d : ℕ)
    (out new : List ℕ) (e : ShowFault)
    → i < length places
    → ShownSoFar types pointer style places i out
    → ShowsPlace types pointer style (get_or places i d) out new (Err e)
    → ShowsPlaces types pointer style places (Err e)
shown_part types pointer style places i d out new (NoName k) lt s l = absurd l
shown_part types pointer style places i d out new (NoSize n) lt s l =
    sym s.passed ∙ ap (first_no_size types pointer) (next_place places i d lt)
    ∙ ap (λ (q : Option ℕ). option_or q (first_no_size types pointer (drop (i + 1) places))) l
shown_part types pointer style places i d out new Memory lt s l = tt

-- all places are shown
pub shown_all :
    (types : List CType) (pointer : ℕ) (style : Style) (places : List ℕ) (i : ℕ) (out : List ℕ)
    → length places ≤ i
    → ShownSoFar types pointer style places i out
    → ShowsPlaces types pointer style places (Ok out)
shown_all types pointer style places i out le s =
    let none : drop i places ≡ [] = drop_all i places le in (
      sym s.passed ∙ ap (first_no_size types pointer) none,
      record {
        pairs = s.pairs;
        places_are =
            sym (append-nil (map (λ (q : Pair). q.0) s.pairs))
            ∙ ap (λ (l : List ℕ). map (λ (q : Pair). q.0) s.pairs ++ l) (sym none)
            ∙ s.places_are;
        each = s.each;
        text_is = s.text_is;
      },
    )
