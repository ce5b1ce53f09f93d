-- The table of kinds and the layouts go together.
use Rattle.std.proofs.Common.{◌≡◌, ℕ, ◌≤◌, ◌^◌, ◌==◌, Bool, true, false, Option, None, Some}
use Rattle.std.proofs.Common.{if◌then◌else◌, refl, arith}
use Rattle.std.proofs.lemmas.Bool.{eqb-false, eqb-true, ne_eqb}
use Rattle.c_model.specs.Kinds.{PartRow, Row, row_of}
use Rattle.btf_codec.specs.Fields.{layout_of}
use Rattle.btf_codec.specs.declared.layout.KindLayout.{KindLayout}
use Rattle.btf_codec.specs.declared.layout.KindLayout.TheVariants.{Int, Link, Array, Forward}
use Rattle.btf_codec.specs.declared.layout.KindLayout.TheVariants.{TaggedLink, Float, Sized}
use Rattle.btf_codec.specs.declared.layout.KindLayout.TheVariants.{Prototype}
use Rattle.btf_codec.specs.declared.layout.PartLayout.{PartLayout}
use Rattle.btf_codec.specs.declared.layout.PartLayout.TheVariants.{Member, Enumerator}
use Rattle.btf_codec.specs.declared.layout.PartLayout.TheVariants.{WideEnumerator, Parameter}
use Rattle.btf_codec.specs.declared.layout.PartLayout.TheVariants.{Variable}

-- whether the parts of a layout refer to types
abbrev pub refers : PartLayout → Bool
refers Member = true
refers Enumerator = false
refers WideEnumerator = false
refers Parameter = true
refers Variable = true

-- the values that the words of a part can hold
abbrev pub PartShape : PartLayout → PartRow → Type 0
PartShape Member r = r.value ≤ 2 ^ 32
PartShape Enumerator r = r.value ≤ 2 ^ 32
PartShape WideEnumerator r = r.value ≤ 2 ^ 64
PartShape Parameter r = r.value ≡ 1
PartShape Variable r = (r.value ≤ 2 ^ 64) × (r.named ≡ false)

pub record HasParts (layout : PartLayout) (row : Row) : Type 0 where
  pub parts : PartRow
  pub is : row.parts ≡ Some parts
  pub refer : parts.refers ≡ refers layout
  pub shape : PartShape layout parts

-- what a layout leaves out is 0 or absent in the row of its kind
abbrev pub PartsAre : Option PartLayout → Row → Type 0
PartsAre None row = row.parts ≡ None
PartsAre (Some layout) row = HasParts layout row

-- only a link can be a FUNC, whose linkage is its vlen
pub record Shape (link size extra : Bool) (targets : ℕ) (parts : Option PartLayout) (k : ℕ)
    (row : Row) : Type 0 where
  pub plain : link ≡ false → (k == 12) ≡ false
  pub size_is : size ≡ false → row.size ≡ 1
  pub extra_is : extra ≡ false → (k == 12) ≡ false → row.extra ≡ 1
  pub targets_is : row.targets ≡ targets
  pub parts_is : PartsAre parts row

abbrev pub ShapeOf : KindLayout → ℕ → Row → Type 0
ShapeOf Int k row = Shape false true true 0 None k row
ShapeOf Link k row = Shape true false false 1 None k row
ShapeOf Array k row = Shape false false true 2 None k row
ShapeOf Forward k row = Shape false false false 0 None k row
ShapeOf TaggedLink k row = Shape false false true 1 None k row
ShapeOf Float k row = Shape false true false 0 None k row
ShapeOf (Sized parts) k row = Shape false true false 0 (Some parts) k row
ShapeOf Prototype k row = Shape false false false 1 (Some Parameter) k row

-- a row and a layout of one kind
unfoldable pub Together : ℕ → Option Row → Option KindLayout → Type 0
Together k None o = Unit {0}
Together k (Some row) None = ⊥
Together k (Some row) (Some layout) = ShapeOf layout k row

chosen : (k j : ℕ) (row : Row) (layout : KindLayout) (o : Option Row) (m : Option KindLayout)
    (t : Bool)
    → (k == j) ≡ t → (k ≡ j → ShapeOf layout k row) → Together k o m
    → Together k (if t then Some row else o) (if t then Some layout else m)
unfolding Together
chosen k j row layout o m true e here rest = here (eqb-true k j e)
chosen k j row layout o m false e here rest = rest

step : (k j : ℕ) (row : Row) (layout : KindLayout) (o : Option Row) (m : Option KindLayout)
    → (k ≡ j → ShapeOf layout k row) → Together k o m
    → Together k (if k == j then Some row else o) (if k == j then Some layout else m)
step k j row layout o m here rest = chosen k j row layout o m (k == j) refl here rest

none : (k : ℕ) → Together k None None
unfolding Together
none k = tt

not_twelve : (k : ℕ) → (k ≡ 12 → ⊥) → (k == 12) ≡ false
not_twelve k h = ne_eqb k 12 h

pub together : (k : ℕ) → Together k (row_of k) (layout_of k)
together k =
    step k 1 _ Int _ _ (λ (e : k ≡ 1). record {
      plain = λ (f : false ≡ false). not_twelve k
          (λ (n : k ≡ 12). omega (arith, e, n));
      size_is = λ (f : true ≡ false). cc;
      extra_is =
          λ (f : true ≡ false) (g : (k == 12) ≡ false). cc;
      targets_is = refl;
      parts_is = refl;
    }) (
    step k 2 _ Link _ _ (λ (e : k ≡ 2).
    record {
      plain = λ (f : true ≡ false). cc;
      size_is = λ (f : false ≡ false). refl;
      extra_is =
          λ (f : false ≡ false) (g : (k == 12) ≡ false). refl;
      targets_is = refl;
      parts_is = refl;
    }) (
    step k 3 _ Array _ _ (λ (e : k ≡ 3). record {
      plain = λ (f : false ≡ false). not_twelve k
          (λ (n : k ≡ 12). omega (arith, e, n));
      size_is = λ (f : false ≡ false). refl;
      extra_is =
          λ (f : true ≡ false) (g : (k == 12) ≡ false). cc;
      targets_is = refl;
      parts_is = refl;
    }) (
    step k 4 _ (Sized Member) _ _ (λ (e : k ≡ 4). record {
      plain = λ (f : false ≡ false).
          not_twelve k (λ (n : k ≡ 12). omega (arith, e, n));
      size_is = λ (f : true ≡ false). cc;
      extra_is = λ (f : false ≡ false) (g : (k == 12) ≡ false). refl;
      targets_is = refl;
      parts_is = record { parts = _; is = refl; refer = refl; shape = omega arith };
    }) (
    step k 5 _ (Sized Member) _ _ (λ (e : k ≡ 5). record {
      plain = λ (f : false ≡ false).
          not_twelve k (λ (n : k ≡ 12). omega (arith, e, n));
      size_is = λ (f : true ≡ false). cc;
      extra_is = λ (f : false ≡ false) (g : (k == 12) ≡ false). refl;
      targets_is = refl;
      parts_is = record { parts = _; is = refl; refer = refl; shape = omega arith };
    }) (
    step k 6 _ (Sized Enumerator) _ _ (λ (e : k ≡ 6). record {
      plain = λ (f : false ≡ false).
          not_twelve k (λ (n : k ≡ 12). omega (arith, e, n));
      size_is = λ (f : true ≡ false). cc;
      extra_is = λ (f : false ≡ false) (g : (k == 12) ≡ false). refl;
      targets_is = refl;
      parts_is = record { parts = _; is = refl; refer = refl; shape = omega arith };
    }) (
    step k 7 _ Forward _ _ (λ (e : k ≡ 7). record {
      plain = λ (f : false ≡ false). not_twelve k
          (λ (n : k ≡ 12). omega (arith, e, n));
      size_is = λ (f : false ≡ false). refl;
      extra_is =
          λ (f : false ≡ false) (g : (k == 12) ≡ false). refl;
      targets_is = refl;
      parts_is = refl;
    }) (
    step k 8 _ Link _ _ (λ (e : k ≡ 8).
    record {
      plain = λ (f : true ≡ false). cc;
      size_is = λ (f : false ≡ false). refl;
      extra_is =
          λ (f : false ≡ false) (g : (k == 12) ≡ false). refl;
      targets_is = refl;
      parts_is = refl;
    }) (
    step k 9 _ Link _ _ (λ (e : k ≡ 9).
    record {
      plain = λ (f : true ≡ false). cc;
      size_is = λ (f : false ≡ false). refl;
      extra_is =
          λ (f : false ≡ false) (g : (k == 12) ≡ false). refl;
      targets_is = refl;
      parts_is = refl;
    }) (
    step k 10 _ Link _ _ (λ (e : k ≡ 10).
    record {
      plain = λ (f : true ≡ false). cc;
      size_is = λ (f : false ≡ false). refl;
      extra_is =
          λ (f : false ≡ false) (g : (k == 12) ≡ false). refl;
      targets_is = refl;
      parts_is = refl;
    }) (
    step k 11 _ Link _ _ (λ (e : k ≡ 11).
    record {
      plain = λ (f : true ≡ false). cc;
      size_is = λ (f : false ≡ false). refl;
      extra_is =
          λ (f : false ≡ false) (g : (k == 12) ≡ false). refl;
      targets_is = refl;
      parts_is = refl;
    }) (
    step k 12 _ Link _ _ (λ (e : k ≡ 12). record {
      plain = λ (f : true ≡ false). cc;
      size_is =
          λ (f : false ≡ false). refl;
      extra_is = λ (f : false ≡ false) (g : (k == 12) ≡ false).
          absurd (eqb-false k 12 g e);
      targets_is = refl;
      parts_is = refl;
    }) (
    step k 13 _ Prototype _ _ (λ (e : k ≡ 13). record {
      plain = λ (f : false ≡ false).
          not_twelve k (λ (n : k ≡ 12). omega (arith, e, n));
      size_is = λ (f : false ≡ false). refl;
      extra_is = λ (f : false ≡ false) (g : (k == 12) ≡ false). refl;
      targets_is = refl;
      parts_is = record { parts = _; is = refl; refer = refl; shape = refl };
    }) (
    step k 14 _ TaggedLink _ _ (λ (e : k ≡ 14). record {
      plain = λ (f : false ≡ false). not_twelve k
          (λ (n : k ≡ 12). omega (arith, e, n));
      size_is = λ (f : false ≡ false). refl;
      extra_is =
          λ (f : true ≡ false) (g : (k == 12) ≡ false). cc;
      targets_is = refl;
      parts_is = refl;
    }) (
    step k 15 _ (Sized Variable) _ _ (λ (e : k ≡ 15). record {
      plain = λ (f : false ≡ false).
          not_twelve k (λ (n : k ≡ 12). omega (arith, e, n));
      size_is = λ (f : true ≡ false). cc;
      extra_is = λ (f : false ≡ false) (g : (k == 12) ≡ false). refl;
      targets_is = refl;
      parts_is = record { parts = _; is = refl; refer = refl; shape = (omega arith, refl) };
    }) (
    step k 16 _ Float _ _ (λ (e : k ≡ 16). record {
      plain = λ (f : false ≡ false). not_twelve k
          (λ (n : k ≡ 12). omega (arith, e, n));
      size_is = λ (f : true ≡ false). cc;
      extra_is =
          λ (f : false ≡ false) (g : (k == 12) ≡ false). refl;
      targets_is = refl;
      parts_is = refl;
    }) (
    step k 17 _ TaggedLink _ _ (λ (e : k ≡ 17). record {
      plain = λ (f : false ≡ false). not_twelve k
          (λ (n : k ≡ 12). omega (arith, e, n));
      size_is = λ (f : false ≡ false). refl;
      extra_is =
          λ (f : true ≡ false) (g : (k == 12) ≡ false). cc;
      targets_is = refl;
      parts_is = refl;
    }) (
    step k 18 _ Link _ _ (λ (e : k ≡ 18).
    record {
      plain = λ (f : true ≡ false). cc;
      size_is = λ (f : false ≡ false). refl;
      extra_is =
          λ (f : false ≡ false) (g : (k == 12) ≡ false). refl;
      targets_is = refl;
      parts_is = refl;
    }) (
    step k 19 _ (Sized WideEnumerator) _ _ (λ (e : k ≡ 19). record {
      plain = λ (f : false ≡ false).
          not_twelve k (λ (n : k ≡ 12). omega (arith, e, n));
      size_is = λ (f : true ≡ false). cc;
      extra_is = λ (f : false ≡ false) (g : (k == 12) ≡ false). refl;
      targets_is = refl;
      parts_is = record { parts = _; is = refl; refer = refl; shape = omega arith };
    }) (
    none k)))))))))))))))))))
