-- Types that are made of rows, and a ring of them.
use Rattle.std.specs.Prelude.{ℕ, ◌+◌, ◌%◌, ◌==◌, false, List, [], ◌∷◌, map, codes, if◌then◌else◌}
use Rattle.std.specs.List.{range_with_len}
use denote.Bor.{Bor}
use Rattle.c_model.specs.declared.graph.CType.{CType}
use Rattle.c_model.specs.declared.graph.Ref.{Ref}
use Rattle.c_model.specs.declared.graph.Ref.TheVariants.{Node}
use Rattle.c_model.specs.declared.kinds.TheConstants.{BTF_KIND_PTR, BTF_KIND_STRUCT}
use Rattle.c_model.specs.declared.label.Label.{Label}
use Rattle.c_model.specs.declared.label.Part.{Part}
use Rattle.small_graphs.specs.declared.rows.TypeHead.{TypeHead}

-- parts of these names and values
abbrev pub parts_in : List (Bor (List ℕ) × ℕ) → List Part
parts_in pieces = map (λ (p : Bor (List ℕ) × ℕ). record { name = p.0.now; value = p.1 }) pieces

abbrev pub label_in : TypeHead → Label
label_in head = record {
  kind = head.kind;
  name = head.name.now;
  flag = head.flag;
  size = head.size;
  extra = head.extra;
  parts = parts_in head.pieces.now;
}

abbrev pub type_in : TypeHead → List Ref → CType
type_in head targets = record { label = label_in head; targets = targets }

-- the structure of a ring, of one member, and its pointer
abbrev pub ring_structure : Label
ring_structure = record {
  kind = BTF_KIND_STRUCT;
  name = codes "ring";
  flag = false;
  size = 8;
  extra = 0;
  parts = (record { name = codes "next"; value = 0 }) ∷ [];
}

abbrev pub ring_pointer : Label
ring_pointer = record {
  kind = BTF_KIND_PTR;
  name = [];
  flag = false;
  size = 0;
  extra = 0;
  parts = [];
}

-- a type of a ring of so many refers to the next one, the last to the first
abbrev pub ring_type : ℕ → ℕ → CType
ring_type count x = record {
  label = if x % 2 == 0 then ring_structure else ring_pointer;
  targets = Node ((x + 1) % count) ∷ [];
}

abbrev pub ring_types : ℕ → List CType
ring_types count = map (ring_type count) (range_with_len 0 count)

-- the structures are of one class, the pointers of another
abbrev pub classes_in_ring : ℕ → List ℕ
classes_in_ring count = map (λ (x : ℕ). x % 2) (range_with_len 0 count)
