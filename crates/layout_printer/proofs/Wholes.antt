-- The whole text, from its parts.
use Rattle.std.proofs.Common.{◌≡◌, ℕ, List, [], ◌++◌, ap, ◌∙◌}
use Rattle.c_model.specs.declared.graph.CType.{CType}
use Rattle.c_model.specs.declared.graph.Ref.{Ref}
use Rattle.layout_printer.specs.Sizes.{ref_of}
use Rattle.layout_printer.specs.Text.{foot_text, head_text, members_text, summary_text, text_of}
use Rattle.layout_printer.specs.declared.slots.Slot.{Slot}
use Rattle.layout_printer.specs.declared.slots.TypeLayout.{TypeLayout}
use Rattle.layout_printer.proofs.Appending.{four}

abbrev parts : ℕ → TypeLayout → ℕ → List CType → Ref → List Slot → List ℕ
parts id shown line types r slots = head_text types id shown.id
    ++ (members_text types r line slots ++ (summary_text line shown ++ foot_text types id))

pub text_whole : (types read : List CType) (id line : ℕ) (shown : TypeLayout) (r : Ref)
    (slots : List Slot) (new a b c d end : List ℕ) → read ≡ types → r ≡ ref_of shown.id
    → slots ≡ shown.slots → new ≡ []
    → a ≡ new ++ head_text read id shown.id → b ≡ a ++ members_text read r line slots
    → c ≡ b ++ summary_text line shown → d ≡ c ++ foot_text read id → end ≡ d
    → end ≡ text_of types id shown line
unfolding text_of
text_whole types read id line shown r slots new a b c d end types_are r_is slots_are empty
    p q s t e =
    e
    ∙ four (head_text read id shown.id) (members_text read r line slots) (summary_text line shown)
    (foot_text read id) new a b c d p q s t
    ∙ ap (λ (xs : List ℕ). xs ++ parts id shown line read r slots) empty
    ∙ ap (λ (ts : List CType). parts id shown line ts r slots) types_are
    ∙ ap (λ (x : Ref). parts id shown line types x slots) r_is
    ∙ ap (λ (ss : List Slot). parts id shown line types (ref_of shown.id) ss) slots_are
