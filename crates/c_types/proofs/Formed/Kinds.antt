-- The labels of each kind that a unit has.
use Rattle.std.proofs.Common.{◌≡◌, ◌≢◌, ℕ, ◌+◌, ◌<◌, ◌≤◌, ◌^◌, ◌==◌, ◌&&◌, nat_lt, Bool, true}
use Rattle.std.proofs.Common.{false, List, [], length, None, Some, if◌then◌else◌, IsTrue, refl, sym}
use Rattle.std.proofs.Common.{ap, ◌∙◌, arith}
use Rattle.std.proofs.lemmas.Option.{none-some, same_Some}
use Rattle.std.proofs.lemmas.List.Elements.{All-nil}
use Rattle.c_model.specs.declared.kinds.TheConstants.{BTF_KIND_FUNC, BTF_KIND_STRUCT}
use Rattle.c_model.specs.declared.kinds.TheConstants.{BTF_KIND_UNION}
use Rattle.c_model.specs.declared.label.Label.{Label}
use Rattle.c_model.specs.declared.label.Part.{Part}
use Rattle.c_model.specs.declared.label.Family.TheVariants.{Structure, Union, Enumeration}
use Rattle.c_model.specs.declared.graph.Ref.{Ref}
use Rattle.c_model.specs.Kinds.{Row, row_of, plain_row, linked_row, sized_row, members, parameters}
use Rattle.c_model.specs.Kinds.{enumerators, word, FitsParts, part_targets}
use Rattle.dw_base.specs.Texts.{HasNoNul}
use Rattle.c_model.specs.Forwards.{Tag, declared_tag}
use Rattle.type_attributes.specs.Labels.{plain_label}
use Rattle.c_types.specs.Arrays.{array_label}
use Rattle.c_types.specs.Functions.{function_label}
use Rattle.c_types.specs.Structures.{forward_label, structure_label}
use Rattle.c_types.specs.Enumerations.{enumeration_label}
use Rattle.c_types.specs.Formed.{declaration_label, IsFormed}

-- what a row asks of a label with so many targets
record Fits (row : Row) (label : Label) (count : ℕ) : Type 0 where
  pub name : HasNoNul label.name
  pub flag : IsTrue label.flag → IsTrue row.flag
  pub size : label.size < row.size
  pub extra : label.extra < row.extra
  pub targets : count ≡ row.targets + part_targets row.parts (length label.parts)
  pub few : length label.parts ≤ 65535
  pub parts : FitsParts row.parts label.parts

fitting : (row : Row) (label : Label) (targets : ℕ) → row_of label.kind ≡ Some row
    → row.extra ≢ 3 → Fits row label targets → ((tag : Tag) → declared_tag label ≡ Some tag
    → (label ≡ declaration_label tag) × (targets ≡ 0)) → IsFormed label targets
fitting row label targets is other f declares =
    record {
      well = λ (refs : List Ref) (l : length refs ≡ targets). record {
        row = row;
        of_kind = is;
        name = f.name;
        flag = f.flag;
        size = f.size;
        extra = f.extra;
        targets = l ∙ f.targets;
        few = f.few;
        parts = f.parts;
      };
      declares = declares;
      no_func = λ (e : label.kind ≡ BTF_KIND_FUNC). other (ap (λ (r : Row). r.extra)
          (same_Some row (linked_row 3 false) (sym is ∙ ap row_of e)));
    }

pub no_name : HasNoNul []
no_name = All-nil (λ (byte : ℕ). byte ≢ 0)

unset : {R : Type 0} → IsTrue false → R
unset t = absurd (cc)

pub int_formed : (name : List ℕ) (size extra : ℕ) → HasNoNul name → size < 2 ^ 32
    → extra < 2 ^ 32 → IsFormed
    (record { kind = 1; name = name; flag = false; size = size; extra = extra; parts = [] }) 0
int_formed name size extra clean s x =
    fitting (plain_row word word false) (record {
      kind = 1;
      name = name;
      flag = false;
      size = size;
      extra = extra;
      parts = [];
    }) 0 refl (λ e. omega (arith, e))
    (record {
      name = clean;
      flag = λ t. unset t;
      size = s;
      extra = x;
      targets = refl;
      few = omega arith;
      parts = refl;
    })
    (λ (tag : Tag) (e : declared_tag (record {
      kind = 1;
      name = name;
      flag = false;
      size = size;
      extra = extra;
      parts = [];
    }) ≡ Some tag). absurd (none-some tag e))

pub float_formed : (name : List ℕ) (size : ℕ) → HasNoNul name → size < 2 ^ 32
    → IsFormed (plain_label 16 name size) 0
float_formed name size clean s =
    fitting (plain_row word 1 false) (plain_label 16 name size) 0 refl (λ e. omega (arith, e))
    (record {
      name = clean;
      flag = λ t. unset t;
      size = s;
      extra = omega arith;
      targets = refl;
      few = omega arith;
      parts = refl;
    })
    (λ (tag : Tag) (e : declared_tag (plain_label 16 name size) ≡ Some tag).
    absurd (none-some tag e))

pub opaque_formed : (name : List ℕ) (size : ℕ) → HasNoNul name → size < 2 ^ 32
    → IsFormed (plain_label 4 name size) 0
opaque_formed name size clean s =
    fitting (sized_row true members) (plain_label 4 name size) 0 refl (λ e. omega (arith, e))
    (record {
      name = clean;
      flag = λ t. unset t;
      size = s;
      extra = omega arith;
      targets = refl;
      few = omega arith;
      parts = All-nil _;
    })
    (λ (tag : Tag) (e : declared_tag (plain_label 4 name size) ≡ Some tag).
    absurd (none-some tag e))

-- a kind that refers to one type and has nothing else but a name
pub linked_formed : (kind : ℕ) (name : List ℕ) (flag : Bool) → row_of kind ≡ Some
    (linked_row 1 flag) → ((tag : Tag) → declared_tag (plain_label kind name 0) ≡ Some tag → ⊥)
    → HasNoNul name → IsFormed (plain_label kind name 0) 1
linked_formed kind name flag is none clean =
    fitting (linked_row 1 flag) (plain_label kind name 0) 1 is (λ e. omega (arith, e))
    (record {
      name = clean;
      flag = λ t. unset t;
      size = omega arith;
      extra = omega arith;
      targets = refl;
      few = omega arith;
      parts = refl;
    })
    (λ (tag : Tag) (e : declared_tag (plain_label kind name 0) ≡ Some tag). absurd (none tag e))

pub array_formed : (elements : ℕ) → elements < 2 ^ 32 → IsFormed (array_label elements) 2
array_formed elements x =
    fitting (record { size = 1; extra = word; flag = false; targets = 2; parts = None })
    (array_label elements) 2 refl (λ e. omega (arith, e))
    (record {
      name = no_name;
      flag = λ t. unset t;
      size = omega arith;
      extra = x;
      targets = refl;
      few = omega arith;
      parts = refl;
    })
    (λ (tag : Tag) (e : declared_tag (array_label elements) ≡ Some tag). absurd (none-some tag e))

pub function_formed : (parts : List Part) (targets : ℕ) → targets ≡ 1 + length parts
    → length parts ≤ 65535 → FitsParts parameters parts → IsFormed (function_label parts) targets
function_formed parts targets count few fit =
    fitting (record { size = 1; extra = 1; flag = false; targets = 1; parts = parameters })
    (function_label parts) targets refl (λ e. omega (arith, e))
    (record {
      name = no_name;
      flag = λ t. unset t;
      size = omega arith;
      extra = omega arith;
      targets = count;
      few = few;
      parts = fit;
    })
    (λ (tag : Tag) (e : declared_tag (function_label parts) ≡ Some tag). absurd (none-some tag e))

-- structures and unions have members, and declare no tag
structure_row : (union : Bool) → row_of (if union then BTF_KIND_UNION else BTF_KIND_STRUCT)
    ≡ Some (sized_row true members)
structure_row true = refl
structure_row false = refl

structure_declares : (union : Bool) (name : List ℕ) (size : ℕ) (fields : Bool) (parts : List Part)
    → declared_tag (structure_label union name size fields parts) ≡ None
structure_declares true name size fields parts = refl
structure_declares false name size fields parts = refl

pub structure_formed : (union : Bool) (name : List ℕ) (size : ℕ) (fields : Bool) (parts : List Part)
    (targets : ℕ) → HasNoNul name → size < 2 ^ 32 → targets ≡ length parts → length parts ≤ 65535
    → FitsParts members parts → IsFormed (structure_label union name size fields parts) targets
structure_formed union name size fields parts targets clean s count few fit =
    fitting (sized_row true members) (structure_label union name size fields parts) targets
    (structure_row union) (λ e. omega (arith, e))
    (record {
      name = clean;
      flag = λ t. refl;
      size = s;
      extra = omega arith;
      targets = omega arith;
      few = few;
      parts = fit;
    })
    (λ (tag : Tag) (e : declared_tag (structure_label union name size fields parts) ≡ Some tag).
    absurd (none-some tag (sym (structure_declares union name size fields parts) ∙ e)))

declares_forward : (union : Bool) (name : List ℕ) (tag : Tag) → declared_tag
    (forward_label union name) ≡ Some tag → forward_label union name ≡ declaration_label tag
declares_forward true name tag e = ap declaration_label (same_Some (Union, name) tag e)
declares_forward false name tag e = ap declaration_label (same_Some (Structure, name) tag e)

pub forward_formed : (union : Bool) (name : List ℕ) → HasNoNul name
    → IsFormed (forward_label union name) 0
forward_formed union name clean =
    fitting (plain_row 1 1 true) (forward_label union name) 0 refl (λ e. omega (arith, e))
    (record {
      name = clean;
      flag = λ t. refl;
      size = omega arith;
      extra = omega arith;
      targets = refl;
      few = omega arith;
      parts = refl;
    })
    (λ (tag : Tag) (e : declared_tag (forward_label union name) ≡ Some tag).
    (declares_forward union name tag e, refl))

declares_bare : (name : List ℕ) (named : Bool) (tag : Tag)
    → (if named && true then Some (Enumeration, name) else None) ≡ Some tag
    → enumeration_label false name false 4 [] ≡ declaration_label tag
declares_bare name true tag e = ap declaration_label (same_Some (Enumeration, name) tag e)
declares_bare name false tag e = absurd (none-some tag e)

pub bare_formed : (name : List ℕ) → HasNoNul name
    → IsFormed (enumeration_label false name false 4 []) 0
bare_formed name clean =
    fitting (sized_row true (enumerators word)) (enumeration_label false name false 4 []) 0 refl
    (λ e. omega (arith, e))
    (record {
      name = clean;
      flag = λ t. refl;
      size = omega arith;
      extra = omega arith;
      targets = refl;
      few = omega arith;
      parts = All-nil _;
    })
    (λ (tag : Tag) (e : declared_tag (enumeration_label false name false 4 []) ≡ Some tag).
    (declares_bare name (nat_lt 0 (length name)) tag e, refl))

-- the limit of an enumerator's value
abbrev pub limit : Bool → ℕ
limit wide = if wide then 2 ^ 64 else 2 ^ 32

pub enumeration_formed : (wide : Bool) (name : List ℕ) (signed : Bool) (size : ℕ)
    (parts : List Part) → HasNoNul name → size < 2 ^ 32 → length parts ≤ 65535 → FitsParts
    (enumerators (limit wide)) parts → ((nat_lt 0 (length name) && (length parts == 0)) ≡ false)
    → IsFormed (enumeration_label wide name signed size parts) 0
enumeration_formed true name signed size parts clean s few fit named =
    fitting (sized_row true (enumerators (2 ^ 64)))
    (enumeration_label true name signed size parts) 0 refl (λ e. omega (arith, e))
    (record {
      name = clean;
      flag = λ t. refl;
      size = s;
      extra = omega arith;
      targets = refl;
      few = few;
      parts = fit;
    })
    (λ (tag : Tag) (e : declared_tag (enumeration_label true name signed size parts) ≡ Some tag).
    absurd (none-some tag e))
enumeration_formed false name signed size parts clean s few fit named =
    fitting (sized_row true (enumerators word))
    (enumeration_label false name signed size parts) 0 refl (λ e. omega (arith, e))
    (record {
      name = clean;
      flag = λ t. refl;
      size = s;
      extra = omega arith;
      targets = refl;
      few = few;
      parts = fit;
    })
    (λ (tag : Tag) (e : declared_tag (enumeration_label false name signed size parts) ≡ Some tag).
    absurd (none-some tag
    (sym (ap (λ (b : Bool). if b then Some (Enumeration, name) else None) named) ∙ e)))
