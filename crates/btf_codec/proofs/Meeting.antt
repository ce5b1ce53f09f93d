-- The bytes of the writer spell its table.
use Rattle.std.proofs.Common.{◌≡◌, ℕ, ◌+◌, ◌*◌, ◌-◌, ◌<◌, ◌≤◌, ◌^◌, List, [], ◌++◌, length, take}
use Rattle.std.proofs.Common.{drop, get_or, All, Option, None, Some, refl, sym, ap, subst, ◌∙◌}
use Rattle.std.proofs.Common.{arith}
use Rattle.std.specs.List.{AllZip, flat_map}
use Rattle.std.proofs.lemmas.List.{length-drop, length-map, take_rest}
use Rattle.dw_base.specs.declared.numbers.Order.{Order}
use Rattle.btf_strings.specs.Names.{Names, base_section, own_section}
use Rattle.btf_strings.specs.Kept.{IsSound}
use Rattle.c_model.specs.Graph.{IsBelow, RefersWithin}
use Rattle.c_model.specs.Kinds.{IsWellFormed}
use Rattle.c_model.specs.declared.graph.CType.{CType}
use Rattle.c_model.specs.declared.graph.Ref.{Ref}
use Rattle.c_model.specs.declared.graph.Ref.TheVariants.{Void, Node}
use Rattle.btf_codec.specs.Fields.{fields_of}
use Rattle.btf_codec.specs.Spells.{BeginsEmpty, Spells, StandsFor, base_names, base_types}
use Rattle.btf_codec.specs.Spells.{header_bytes, words_bytes}
use Rattle.btf_codec.specs.Spelling.{HasOffsets, base_of, spelling_of, types_words, word_of}
use Rattle.btf_codec.proofs.Endings.{section_ends}
use Rattle.btf_codec.proofs.Good.{IsGoodType, words_fit, all_stand, good_types}

-- header, types and strings, one after another
pub spelled : (order : Order) (s : Names) (own : List CType) (types names : ℕ) (b : List ℕ)
    → types ≡ 4 * length (flat_map fields_of own) → names ≡ length (own_section s)
    → b ≡ header_bytes order types names ++ words_bytes order (types_words s own) ++ own_section s
    → b ≡ spelling_of order s own
unfolding spelling_of
spelled order s own types names b t n e =
    let l : length (types_words s own) ≡ length (flat_map fields_of own) =
    length-map (flat_map fields_of own) (word_of s) in
    let u : types ≡ 4 * length (types_words s own) = omega (arith, t, l) in
    e ∙ ap (λ (k : ℕ).
    header_bytes order k names ++ words_bytes order (types_words s own) ++ own_section s) u
    ∙ ap (λ (k : ℕ). header_bytes order (4 * length (types_words s own)) k
    ++ words_bytes order (types_words s own) ++ own_section s) n

-- what the writer asks of a table
pub record IsReady (types : List CType) (first : ℕ) (s : Names) : Type 0 where
  pub few : length types < 2 ^ 32
  pub base : first ≤ length types
  pub offsets : All (HasOffsets s) (drop first types)
  pub within : RefersWithin (length types) (drop first types)
  pub fits : 4 * length (flat_map fields_of (drop first types)) + length (own_section s) < 2 ^ 32
  pub formed : All IsWellFormed (drop first types)
  pub sound : IsSound s

narrower : (n : ℕ) (r : Ref) → n < 2 ^ 32 → IsBelow n r → IsBelow (2 ^ 32 - 1) r
narrower n Void few b = tt
narrower n (Node x) few b = omega arith

ready_type : (types : List CType) (base : ℕ) (s : Names) → IsReady types base s
    → All (IsGoodType s) (drop base types)
ready_type types base s ready = λ (k : ℕ) (d : CType) (lt : k < length (drop base types)).
    record {
      formed = ready.formed k d lt;
      offsets = ready.offsets k d lt;
      below = λ (i : ℕ) (r : Ref) (l : i < length (get_or (drop base types) k d).targets).
          narrower (length types) (get_or (get_or (drop base types) k d).targets i r) ready.few
          (ready.within k d lt i r l);
    }

names_are : (types : ℕ) (base : Option (List ℕ))
    → base_section base ≡ base_names (base_of types base)
names_are types None = refl
names_are types (Some section) = refl

begins : (types : ℕ) (base : Option (List ℕ)) (own : List (List ℕ))
    → BeginsEmpty (base_of types base) (own_section (record { base = base; own = own }))
unfolding own_section
begins types None own = refl
begins types (Some section) own = tt

count_is : (types : List CType) (base : ℕ) (o : Option (List ℕ)) → base ≤ length types
    → (o ≡ None → base ≡ 0) → length types ≡ base_types (base_of base o) + length (drop base types)
count_is types base None le zero = omega (arith, zero refl, length-drop base types)
count_is types base (Some section) le zero = omega (arith, length-drop base types)

pub meets : (order : Order) (types : List CType) (base : ℕ) (s : Names) (b : List ℕ)
    → IsReady types base s → (s.base ≡ None → base ≡ 0) → b ≡ spelling_of order s (drop base types)
    → Spells (base_of base s.base) order (drop base types) (own_section s) b
unfolding spelling_of
meets order types base s b ready zero e =
    let good = good_types s (drop base types) (ready_type types base s ready) in
    let l : length (types_words s (drop base types)) ≡ length (flat_map fields_of
    (drop base types)) = length-map (flat_map fields_of (drop base types)) (word_of s) in
    record {
      formed = ready.formed;
      within = subst (λ (n : ℕ). RefersWithin n (drop base types))
          (count_is types base s.base ready.base zero) ready.within;
      words = types_words s (drop base types);
      fields =
          subst (λ (xs : List ℕ). AllZip (StandsFor (xs ++ own_section s)) (flat_map fields_of
          (drop base types)) (types_words s (drop base types))) (names_are base s.base)
          (all_stand s (flat_map fields_of (drop base types)) ready.sound good);
      narrow = words_fit s (flat_map fields_of (drop base types)) ready.sound good;
      types_length = omega (arith, ready.fits, l);
      names_length = omega (arith, ready.fits);
      begins = begins base s.base s.own;
      ends = section_ends s;
      whole = e;
    }

-- the own types, as the writer takes them
pub own_are : (items types : List CType) (base : ℕ) → items ≡ types
    → take (length items - base) (drop base items) ≡ drop base types
own_are items types base e = take_rest items base ∙ ap (λ (ts : List CType). drop base ts) e

-- the parts of the file, one behind another
pub written : (order : Order) (s : Names) (own taken : List CType) (types names : ℕ)
    (first header body whole result section : List ℕ)
    → taken ≡ own → All IsWellFormed own → first ≡ []
    → header ≡ first ++ header_bytes order types names
    → (All IsWellFormed taken → body ≡ header ++ words_bytes order (types_words s taken))
    → whole ≡ body ++ section → result ≡ whole → section ≡ own_section s
    → result
    ≡ header_bytes order types names ++ words_bytes order (types_words s own) ++ own_section s
written order s own taken types names first header body whole result section e formed none h
    put w r n =
    let start : header ≡ header_bytes order types names =
    h ∙ ap (λ (xs : List ℕ). xs ++ header_bytes order types names) none in
    let b : body ≡ header ++ words_bytes order (types_words s own) =
    put (subst (λ (ts : List CType). All IsWellFormed ts) (sym e) formed)
    ∙ ap (λ (ts : List CType). header ++ words_bytes order (types_words s ts)) e in
    r ∙ w
    ∙ ap (λ (xs : List ℕ). body ++ xs) n
    ∙ ap (λ (xs : List ℕ). xs ++ own_section s) b
    ∙ ap (λ (xs : List ℕ). xs ++ words_bytes order (types_words s own) ++ own_section s) start
