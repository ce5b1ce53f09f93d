-- Declarations, a type at a time.
use Rattle.std.proofs.Common.{◌≡◌, ℕ, suc, ◌+◌, ◌-◌, ◌<◌, ◌≤◌, true, false, cond, Bool, List, []}
use Rattle.std.proofs.Common.{◌∷◌, ◌++◌, Option, codes, refl, sym, ap, ◌∙◌, arith}
use Rattle.std.proofs.lemmas.Bool.{cond-true, cond-false}
use Rattle.std.proofs.lemmas.List.{append-nil, append_assoc}
use Rattle.std.proofs.lemmas.List.Concat.{flat_map-append}
use Rattle.std.specs.List.{flat_map, range_with_len}
use Rattle.c_model.specs.declared.graph.CType.{CType}
use Rattle.c_model.specs.declared.graph.Ref.{Ref}
use Rattle.layout_printer.specs.Sizes.{type_of}
use Rattle.layout_printer.specs.Declarations.{DeclParts, after, around, before, decl_at, decl_in}
use Rattle.layout_printer.specs.Declarations.{is_passed, kind_of, leads, leads_to_pointer}
use Rattle.layout_printer.specs.Declarations.{member_type, past, with_word, after_space}
use Rattle.layout_printer.proofs.Holes.{range_push}

past_suc : (n : ℕ) (types : List CType) (r : Ref) → past (suc n) types r
    ≡ cond (is_passed (kind_of types r)) (past n types (member_type types r 0)) r
unfolding past
past_suc n types r = refl

one_left : (n k : ℕ) → k < n → n - k ≡ suc (n - (k + 1))
one_left n k h = omega arith

-- at a type that is not passed
pub past_stop : (n k : ℕ) (types : List CType) (r : Ref) (whole : Ref) → k < n
    → is_passed (kind_of types r) ≡ false → past (n - k) types r ≡ whole → r ≡ whole
past_stop n k types r whole h e inv =
    sym (ap (λ i. past i types r) (one_left n k h) ∙ past_suc (n - (k + 1)) types r
    ∙ cond-false _ _ _ e) ∙ inv

-- past a type
pub past_on : (n k : ℕ) (types : List CType) (r next : Ref) (whole : Ref) → k < n
    → is_passed (kind_of types r) ≡ true → next ≡ member_type types r 0
    → past (n - k) types r ≡ whole → past (n - (k + 1)) types next ≡ whole
past_on n k types r next whole h e to inv =
    ap (past (n - (k + 1)) types) to ∙ sym (ap (λ i. past i types r) (one_left n k h)
    ∙ past_suc (n - (k + 1)) types r ∙ cond-true _ _ _ e) ∙ inv

past_zero : (types : List CType) (r : Ref) → past 0 types r ≡ r
unfolding past
past_zero types r = refl

-- where no more are passed
pub past_end : (n k : ℕ) (types : List CType) (r : Ref) (whole : Ref) → n ≤ k
    → past (n - k) types r ≡ whole → r ≡ whole
past_end n k types r whole h inv = let none : n - k ≡ 0 = omega arith in
    sym (ap (λ i. past i types r) none ∙ past_zero types r) ∙ inv

module _ (lists : Ref → List ℕ) (types : List CType) where
  decl_suc : (n : ℕ) (r : Ref) (d : List ℕ) → decl_in lists (suc n) types r d
      ≡ decl_at (decl_in lists n types) types (lists r) (type_of types r) d
  unfolding decl_in
  decl_suc n r d = refl

  decl_zero : (r : Ref) (d : List ℕ)
      → decl_in lists 0 types r d ≡ record { type_part = codes "..."; name_part = d }
  unfolding decl_in
  decl_zero r d = refl

  -- a type is written, and then a next one or none is met
  pub followed : (n k : ℕ) (list : List ℕ) (r : Ref) (front d back front' d' back' : List ℕ)
      (next met : Option Ref) (whole : DeclParts) → k < n → list ≡ lists r
      → around front (decl_in lists (n - k) types r d) back ≡ whole
      → ((rest : Ref → List ℕ → DeclParts) → leads rest front' d' back' next
      ≡ around front (decl_at rest types list (type_of types r) d) back)
      → next ≡ met → leads (decl_in lists (n - (k + 1)) types) front' d' back' met ≡ whole
  followed n k list r front d back front' d' back' next met whole h e inv step is =
      ap (leads (decl_in lists (n - (k + 1)) types) front' d' back') (sym is)
      ∙ step (decl_in lists (n - (k + 1)) types)
      ∙ ap (λ (l : List ℕ). around front
      (decl_at (decl_in lists (n - (k + 1)) types) types l (type_of types r) d) back) e
      ∙ ap (λ (w : DeclParts). around front w back)
      (sym (ap (λ i. decl_in lists i types r d) (one_left n k h) ∙ decl_suc (n - (k + 1)) r d))
      ∙ inv

  -- no more types are followed
  pub cut_off : (n k : ℕ) (r : Ref) (front d back front' : List ℕ) (whole : DeclParts) → n ≤ k
      → around front (decl_in lists (n - k) types r d) back ≡ whole → front' ≡ front ++ codes "..."
      → let w : DeclParts = record { type_part = front' ++ back; name_part = d } in w ≡ whole
  cut_off n k r front d back front' whole h inv e =
      let none : n - k ≡ 0 = omega arith in
      let concat : front' ++ back ≡ front ++ (codes "..." ++ back) =
      ap (λ (t : List ℕ). t ++ back) e ∙ append_assoc front (codes "...") back in
      ap (λ (t : List ℕ). let w : DeclParts = record { type_part = t; name_part = d } in w) concat
      ∙ sym (ap (λ (w : DeclParts). around front w back)
      (ap (λ i. decl_in lists i types r d) none ∙ decl_zero r d))
      ∙ inv

-- an attribute more stands behind the type part, before those that stand there
pub tag_more : (is_tag : Bool) (rest : Ref → List ℕ → DeclParts) (types : List CType)
    (word : List ℕ) (r : Ref) (front d back back' : List ℕ)
    → leads_to_pointer types r ≡ false → is_tag ≡ true
    → back' ≡ (32 ∷ word) ++ back → around front (rest r d) back'
    ≡ around front (with_word is_tag rest types word r d) back
tag_more is_tag rest types word r front d back back' other tag e =
    let w : DeclParts = rest r d in
    let behind : w.type_part ++ back' ≡ (w.type_part ++ 32 ∷ word) ++ back =
    ap (λ (b : List ℕ). w.type_part ++ b) e
    ∙ sym (append_assoc w.type_part (32 ∷ word) back) in
    ap (λ (t : List ℕ).
    let v : DeclParts = record { type_part = front ++ t; name_part = w.name_part } in v) behind
    ∙ ap (λ (v : DeclParts). around front v back)
    (sym (cond-false (leads_to_pointer types r) (rest r (word ++ after_space d))
    (cond is_tag (after w (32 ∷ word)) (before (word ++ codes " ") w)) other
    ∙ cond-true is_tag (after w (32 ∷ word)) (before (word ++ codes " ") w) tag))

-- one more place
pub places_more : (f : ℕ → List ℕ) (n : ℕ) (front out more : List ℕ) → out ≡ front ++ flat_map f
    (range_with_len 0 n) → more ≡ out ++ f n → more ≡ front ++ flat_map f (range_with_len 0 (n + 1))
places_more f n front out more e m =
    m
    ∙ ap (λ (xs : List ℕ). xs ++ f n) e
    ∙ append_assoc front (flat_map f (range_with_len 0 n)) (f n)
    ∙ ap (λ (xs : List ℕ). front ++ xs)
    (ap (λ (xs : List ℕ). flat_map f (range_with_len 0 n) ++ xs) (sym (append-nil (f n))) ∙ sym
    (flat_map-append f (range_with_len 0 n) (n ∷ [])) ∙ ap (flat_map f) (sym (range_push n)))
