-- The lines of members, one more at a time.
use Rattle.std.proofs.Common.{◌≡◌, ℕ, ◌+◌, ◌<◌, ◌++◌, [], Option, List, length, take, get_or, sym}
use Rattle.std.proofs.Common.{ap, ◌∙◌}
use Rattle.std.specs.List.{flat_map, range_with_len}
use Rattle.std.specs.Option.{option_map_or}
use Rattle.std.proofs.lemmas.Option.{slice_get-get_or}
use Rattle.c_model.specs.declared.graph.CType.{CType}
use Rattle.c_model.specs.declared.graph.Ref.{Ref}
use Rattle.layout_printer.specs.Text.{member_at, member_text}
use Rattle.layout_printer.specs.declared.slots.Slot.{Slot}
use Rattle.layout_printer.proofs.Declaring.{places_more}

pub members_more : (types : List CType) (r : Ref) (line : ℕ) (slots : List Slot) (k : ℕ) (d : Slot)
    (front out more : List ℕ) → k < length slots
    → out ≡ front ++ flat_map (member_at types r line slots) (range_with_len 0 k)
    → more ≡ out ++ member_text types r line (take k slots) k (get_or slots k d)
    → more ≡ front ++ flat_map (member_at types r line slots) (range_with_len 0 (k + 1))
members_more types r line slots k d front out more h e m =
    let here : member_at types r line slots k
    ≡ member_text types r line (take k slots) k (get_or slots k d) =
    ap (λ (o : Option Slot). option_map_or (member_text types r line (take k slots) k) o [])
    (slice_get-get_or slots k d h) in
    places_more (member_at types r line slots) k front out more e
    (m ∙ ap (λ (t : List ℕ). out ++ t) (sym here))
