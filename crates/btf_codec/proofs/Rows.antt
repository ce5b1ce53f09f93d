-- The row of each kind that has a layout.
use Rattle.std.proofs.Common.{◌≡◌, ℕ, ◌^◌, ◌==◌, Bool, true, false, Option, None, Some}
use Rattle.std.proofs.Common.{if◌then◌else◌, refl, sym, ap, subst, ◌∙◌}
use Rattle.std.proofs.lemmas.Bool.{eqb-true}
use Rattle.c_model.specs.Kinds.{PartRow, Row, IsWellFormed, row_of}
use Rattle.c_model.specs.declared.graph.CType.{CType}
use Rattle.btf_codec.specs.Fields.{layout_of}
use Rattle.btf_codec.specs.Reading.{may_flag}
use Rattle.btf_codec.proofs.Shapes.{Together, refers, together}
use Rattle.btf_codec.specs.declared.layout.KindLayout.{KindLayout}
use Rattle.btf_codec.specs.declared.layout.KindLayout.TheVariants.{Int, Link, Array, Forward}
use Rattle.btf_codec.specs.declared.layout.KindLayout.TheVariants.{TaggedLink, Float, Sized}
use Rattle.btf_codec.specs.declared.layout.KindLayout.TheVariants.{Prototype}
use Rattle.btf_codec.specs.declared.layout.PartLayout.{PartLayout}
use Rattle.btf_codec.specs.declared.layout.PartLayout.TheVariants.{Member, Enumerator}
use Rattle.btf_codec.specs.declared.layout.PartLayout.TheVariants.{WideEnumerator, Parameter}
use Rattle.btf_codec.specs.declared.layout.PartLayout.TheVariants.{Variable}

-- one above the largest value of a part
abbrev pub value_limit : PartLayout → ℕ
value_limit Member = 2 ^ 32
value_limit Enumerator = 2 ^ 32
value_limit WideEnumerator = 2 ^ 64
value_limit Parameter = 1
value_limit Variable = 2 ^ 64

abbrev pub is_named : PartLayout → Bool
is_named Member = true
is_named Enumerator = true
is_named WideEnumerator = true
is_named Parameter = true
is_named Variable = false

abbrev pub part_row : PartLayout → PartRow
part_row p = record { named = is_named p; refers = refers p; value = value_limit p }

abbrev pub row_with : ℕ → ℕ → ℕ → Option PartRow → ℕ → Row
row_with size extra targets parts k =
    record { size = size; extra = extra; flag = may_flag k; targets = targets; parts = parts }

abbrev pub row_by : KindLayout → ℕ → Row
row_by Int k = row_with (2 ^ 32) (2 ^ 32) 0 None k
row_by Link k = row_with 1 (if k == 12 then 3 else 1) 1 None k
row_by Array k = row_with 1 (2 ^ 32) 2 None k
row_by Forward k = row_with 1 1 0 None k
row_by TaggedLink k = row_with 1 (2 ^ 32) 1 None k
row_by Float k = row_with (2 ^ 32) 1 0 None k
row_by (Sized p) k = row_with (2 ^ 32) 1 0 (Some (part_row p)) k
row_by Prototype k = row_with 1 1 1 (Some (part_row Parameter)) k

-- a row and a layout of one kind
unfoldable pub Agree : ℕ → Option Row → Option KindLayout → Type 0
Agree k o None = Unit {0}
Agree k o (Some layout) = o ≡ Some (row_by layout k)

chosen : (k j : ℕ) (row : Row) (layout : KindLayout) (o : Option Row) (m : Option KindLayout)
    (t : Bool)
    → (k == j) ≡ t → row ≡ row_by layout j → Agree k o m
    → Agree k (if t then Some row else o) (if t then Some layout else m)
unfolding Agree
chosen k j row layout o m true e here rest = let s : j ≡ k = sym (eqb-true k j e) in
    λ i. Some ((here ∙ ap (λ (n : ℕ). row_by layout n) s) i)
chosen k j row layout o m false e here rest = rest

step : (k j : ℕ) (row : Row) (layout : KindLayout) (o : Option Row) (m : Option KindLayout)
    → row ≡ row_by layout j → Agree k o m
    → Agree k (if k == j then Some row else o) (if k == j then Some layout else m)
step k j row layout o m here rest = chosen k j row layout o m (k == j) refl here rest

none : (k : ℕ) → Agree k None None
unfolding Agree
none k = tt

agree : (k : ℕ) → Agree k (row_of k) (layout_of k)
agree k =
    step k 1 _ Int _ _ refl (
    step k 2 _ Link _ _ refl (
    step k 3 _ Array _ _ refl (
    step k 4 _ (Sized Member) _ _ refl (
    step k 5 _ (Sized Member) _ _ refl (
    step k 6 _ (Sized Enumerator) _ _ refl (
    step k 7 _ Forward _ _ refl (
    step k 8 _ Link _ _ refl (
    step k 9 _ Link _ _ refl (
    step k 10 _ Link _ _ refl (
    step k 11 _ Link _ _ refl (
    step k 12 _ Link _ _ refl (
    step k 13 _ Prototype _ _ refl (
    step k 14 _ TaggedLink _ _ refl (
    step k 15 _ (Sized Variable) _ _ refl (
    step k 16 _ Float _ _ refl (
    step k 17 _ TaggedLink _ _ refl (
    step k 18 _ Link _ _ refl (
    step k 19 _ (Sized WideEnumerator) _ _ refl (
    none k)))))))))))))))))))

pub row_known : (k : ℕ) (layout : KindLayout) → layout_of k ≡ Some layout
    → row_of k ≡ Some (row_by layout k)
unfolding Agree
row_known k layout e = let P : Option KindLayout → Type 0 = Agree k (row_of k) in subst P e
    (agree k)

-- a well-formed type has a layout, and the row of that layout
pub record Laid (t : CType) (row : Row) : Type 0 where
  pub layout : KindLayout
  pub laid : layout_of t.label.kind ≡ Some layout
  pub row_is : row ≡ row_by layout t.label.kind

laid_by : (t : CType) (w : IsWellFormed t) (o : Option KindLayout) → layout_of t.label.kind ≡ o
    → Together t.label.kind (Some w.row) o → Laid t w.row
unfolding Together
laid_by t w None e h = absurd h
laid_by t w (Some layout) e h =
    let s : Some w.row ≡ Some (row_by layout t.label.kind) =
    sym w.of_kind ∙ row_known t.label.kind layout e in
    record { layout = layout; laid = e; row_is = cc }

pub well_laid : (t : CType) (w : IsWellFormed t) → Laid t w.row
well_laid t w = laid_by t w (layout_of t.label.kind) refl (subst (λ (o : Option Row).
    Together t.label.kind o (layout_of t.label.kind)) w.of_kind (together t.label.kind))

-- no kind has parameters behind a size
other_by : (layout : KindLayout) (m : Option KindLayout) (t : Bool) → (layout ≡ Sized Parameter → ⊥)
    → (m ≡ Some (Sized Parameter) → ⊥) → (if t then Some layout else m) ≡ Some (Sized Parameter) → ⊥
other_by layout m true ne rest e = let q : layout ≡ Sized Parameter = cc in ne q
other_by layout m false ne rest e = rest e

other : (k j : ℕ) (layout : KindLayout) (m : Option KindLayout) → (layout ≡ Sized Parameter → ⊥)
    → (m
    ≡ Some (Sized Parameter) → ⊥) → (if k == j then Some layout else m) ≡ Some (Sized Parameter) → ⊥
other k j layout m ne rest e = other_by layout m (k == j) ne rest e

pub never_sized : (k : ℕ) → layout_of k ≡ Some (Sized Parameter) → ⊥
never_sized k =
    other k 1 Int _ (λ (e : ◌≡◌ {A = KindLayout} Int (Sized Parameter)). cc) (
    other k 2 Link _ (λ (e : ◌≡◌ {A = KindLayout} Link (Sized Parameter)). cc) (
    other k 3 Array _ (λ (e : ◌≡◌ {A = KindLayout} Array (Sized Parameter)). cc) (
    other k 4 (Sized Member) _ (λ (e : ◌≡◌ {A = KindLayout} (Sized Member) (Sized Parameter)). cc) (
    other k 5 (Sized Member) _ (λ (e : ◌≡◌ {A = KindLayout} (Sized Member) (Sized Parameter)). cc) (
    other k 6 (Sized Enumerator) _
    (λ (e : ◌≡◌ {A = KindLayout} (Sized Enumerator) (Sized Parameter)). cc) (
    other k 7 Forward _ (λ (e : ◌≡◌ {A = KindLayout} Forward (Sized Parameter)). cc) (
    other k 8 Link _ (λ (e : ◌≡◌ {A = KindLayout} Link (Sized Parameter)). cc) (
    other k 9 Link _ (λ (e : ◌≡◌ {A = KindLayout} Link (Sized Parameter)). cc) (
    other k 10 Link _ (λ (e : ◌≡◌ {A = KindLayout} Link (Sized Parameter)). cc) (
    other k 11 Link _ (λ (e : ◌≡◌ {A = KindLayout} Link (Sized Parameter)). cc) (
    other k 12 Link _ (λ (e : ◌≡◌ {A = KindLayout} Link (Sized Parameter)). cc) (
    other k 13 Prototype _ (λ (e : ◌≡◌ {A = KindLayout} Prototype (Sized Parameter)). cc) (
    other k 14 TaggedLink _ (λ (e : ◌≡◌ {A = KindLayout} TaggedLink (Sized Parameter)). cc) (
    other k 15 (Sized Variable) _
    (λ (e : ◌≡◌ {A = KindLayout} (Sized Variable) (Sized Parameter)). cc) (
    other k 16 Float _ (λ (e : ◌≡◌ {A = KindLayout} Float (Sized Parameter)). cc) (
    other k 17 TaggedLink _ (λ (e : ◌≡◌ {A = KindLayout} TaggedLink (Sized Parameter)). cc) (
    other k 18 Link _ (λ (e : ◌≡◌ {A = KindLayout} Link (Sized Parameter)). cc) (
    other k 19 (Sized WideEnumerator) _
    (λ (e : ◌≡◌ {A = KindLayout} (Sized WideEnumerator) (Sized Parameter)). cc) (
    λ (e : ◌≡◌ {A = Option KindLayout} None (Some (Sized Parameter))). cc)))))))))))))))))))
