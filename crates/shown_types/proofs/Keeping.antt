-- Layouts that are kept, and their lines.
use Rattle.std.proofs.Common.{refl, length, slice_get, ◌≡◌, ◌<◌, ℕ, suc, Bool, true, false, cond}
use Rattle.std.proofs.Common.{eqb, eqb-true, List, [], ◌++◌, Option, None, Some, sym, ◌∙◌, subst}
use Rattle.std.specs.Map.{lookup}
use Rattle.std.specs.Option.{option_and_then}
use Rattle.std.proofs.lemmas.Option.{none-some, same_Some, slice_get_within}
use Rattle.c_model.specs.declared.graph.CType.{CType}
use Rattle.layout_printer.specs.Layout.{IsLayout}
use Rattle.shown_types.specs.Listed.{structure_at, structure_by, name_at}
use Rattle.shown_types.specs.Shown.{piece, AreKept, IsCounted, IsKept, IsShown}
use Rattle.shown_types.specs.declared.counting.Counted.{Counted}
use Rattle.shown_types.specs.declared.showing.Style.{Style}

pub kept_none : (types : List CType) (pointer : ℕ) (style : Style) → AreKept types pointer style []
kept_none types pointer style s shown e = absurd (none-some shown e)

-- one layout more
pub kept_more :
    (types : List CType) (pointer : ℕ) (style : Style) (x s : ℕ) (shown : Counted)
    (old new : List (ℕ × Counted))
    → structure_at types x ≡ Some s → IsShown types pointer x shown.layout → IsCounted style shown
    → ((q : ℕ) → lookup (eqb q) new ≡ cond (eqb s q) (Some shown) (lookup (eqb q) old))
    → AreKept types pointer style old → AreKept types pointer style new
kept_more types pointer style x s shown old new is l counted updates k q other e =
    by (eqb s q) refl (sym (updates q) ∙ e)
  where
    by : (b : Bool) → eqb s q ≡ b → cond b (Some shown) (lookup (eqb q) old) ≡ Some other
        → IsKept types pointer style q other
    by true at h =
        let here : l.structure ≡ q = same_Some l.structure s (sym l.is ∙ is) ∙ eqb-true s q at in
        let kept : IsKept types pointer style q shown = record {
          layout = subst (λ (n : ℕ). IsLayout types pointer (suc n) shown.layout) here l.layout;
          counted = counted;
        } in
        subst (λ (t : Counted). IsKept types pointer style q t) (same_Some shown other h) kept
    by false at h = k q other h

place_within_step : (types : List CType) (x s : ℕ) (o : Option CType) → slice_get types x ≡ o
    → option_and_then (structure_by types x) o ≡ Some s → x < length types
place_within_step types x s None at e = absurd (none-some s e)
place_within_step types x s (Some t) at e = slice_get_within types x t at

-- a place with a structure is one of the table
pub place_within : (types : List CType) (x s : ℕ) → structure_at types x ≡ Some s → x < length types
place_within types x s e = place_within_step types x s (slice_get types x) refl e

-- the line of a type: its name, and what is kept behind it
pub line_is :
    (types : List CType) (style : Style) (x : ℕ) (shown : Counted) → IsCounted style shown
    → style.sizes ≡ true
    → piece types style (x, shown.layout) ≡ name_at types x ++ shown.line_end
unfolding piece
line_is types style x shown counted e = rw (counted.line_end, e) refl
