-- What every type of a unit is, once its targets are linked: well formed, of a declaration no more
-- than it declares, and no FUNC.
use Rattle.std.specs.Prelude.{◌≡◌, ◌≢◌, ℕ, true, false, List, [], length, Some, All}
use Rattle.c_model.specs.declared.label.Label.{Label}
use Rattle.c_model.specs.declared.label.Family.TheVariants.{Structure, Union, Enumeration}
use Rattle.c_model.specs.declared.graph.Ref.{Ref}
use Rattle.c_model.specs.declared.kinds.TheConstants.{BTF_KIND_FUNC}
use Rattle.c_model.specs.Kinds.{IsWellFormed}
use Rattle.c_model.specs.Forwards.{Tag, declared_tag}
use Rattle.type_attributes.specs.declared.source.SourceType.{SourceType}
use Rattle.c_types.specs.Structures.{forward_label}
use Rattle.c_types.specs.Enumerations.{enumeration_label}

-- the whole label of what declares a tag: a FWD, or an ENUM of 4 bytes without enumerators
abbrev pub declaration_label : Tag → Label
declaration_label (Structure, name) = forward_label false name
declaration_label (Union, name) = forward_label true name
declaration_label (Enumeration, name) = enumeration_label false name false 4 []

-- a label with so many targets is of a well-formed type whatever they refer to, and where it
-- declares a tag, it is that declaration's, without targets; it is no FUNC's
pub record IsFormed (label : Label) (targets : ℕ) : Type 0 where
  pub well : (refs : List Ref) → length refs ≡ targets
      → IsWellFormed (record { label = label; targets = refs })
  pub declares : (tag : Tag) → declared_tag label ≡ Some tag
      → (label ≡ declaration_label tag) × (targets ≡ 0)
  pub no_func : label.kind ≢ BTF_KIND_FUNC

-- of the types of a list
abbrev pub AreFormed : List SourceType → Type 0
AreFormed types = All (λ (t : SourceType). IsFormed t.label (length t.targets)) types
