-- What is chosen can be shown.
use Rattle.std.proofs.Common.{◌≡◌, ◌-◌, ◌&&◌, ℕ, Bool, true, false, List, [], ◌∷◌, Option, None}
use Rattle.std.proofs.Common.{Some, All, IsTrue, refl, arith, length, get_or}
use Rattle.std.specs.List.{filter, flat_map, range_with_len}
use Rattle.std.specs.Str.{bytes_eq}
use Rattle.std.proofs.lemmas.List.Elements.{filter_passes, All-append}
use Rattle.c_model.specs.declared.graph.CType.{CType}
use Rattle.shown_types.specs.Listed.{is_listed, name_at, has_name, places_named, chosen}

and_first : (a b : Bool) → (a && b) ≡ true → a ≡ true
and_first true b h = refl
and_first false b h = absurd (cc)

named_listed : (types : List CType) (name : List ℕ)
    → All (λ (x : ℕ). IsTrue (is_listed types x)) (places_named types name)
unfolding places_named
named_listed types name = λ k d lt.
    let xs : List ℕ = filter (has_name types name) (range_with_len 0 (length types)) in
    and_first (is_listed types (get_or xs k d)) (bytes_eq (name_at types (get_or xs k d)) name)
    (filter_passes (has_name types name) (range_with_len 0 (length types)) k d lt)

all_named : (types : List CType) (names : List (List ℕ))
    → All (λ (x : ℕ). IsTrue (is_listed types x)) (flat_map (places_named types) names)
all_named types [] = λ k d lt. absurd (omega arith)
all_named types (n ∷ ns) =
    All-append (λ (x : ℕ). IsTrue (is_listed types x)) (places_named types n)
    (flat_map (places_named types) ns) (named_listed types n)
    (all_named types ns)

pub chosen_listed : (types : List CType) (from : ℕ) (names : Option (List (List ℕ)))
    → All (λ (x : ℕ). IsTrue (is_listed types x)) (chosen types from names)
chosen_listed types from None =
    filter_passes (is_listed types) (range_with_len from (length types - from))
chosen_listed types from (Some names) = all_named types names
