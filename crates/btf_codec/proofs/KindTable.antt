-- What the table of kinds says of every kind.
use Rattle.std.proofs.Common.{◌≡◌, ℕ, ◌<◌, ◌≤◌, ◌^◌, ◌==◌, Bool, true, false, length, Option, None}
use Rattle.std.proofs.Common.{Some, if◌then◌else◌, refl, ap, subst, arith}
use Rattle.std.proofs.lemmas.Bool.{eqb-true}
use Rattle.c_model.specs.Kinds.{IsWellFormed, PartRow, Row, linked_row, row_of}
use Rattle.c_model.specs.declared.graph.CType.{CType}
use Rattle.c_model.specs.declared.kinds.TheConstants.{BTF_KIND_FUNC}
use Rattle.btf_codec.specs.Fields.{bit_of, info_of, vlen_of}

-- the numbers of a row fit their words
pub record AreLimits (row : Row) : Type 0 where
  pub size : row.size ≤ 2 ^ 32
  pub extra : row.extra ≤ 2 ^ 32
  pub value : (parts : PartRow) → row.parts ≡ Some parts → parts.value ≤ 2 ^ 64

-- a kind with a row is below 20, and its limits are limits
pub IsLimited : ℕ → Option Row → Type 0
IsLimited k None = Unit {0}
IsLimited k (Some row) = (k < 20) × AreLimits row

chosen : (k j : ℕ) (row : Row) (o : Option Row) (t : Bool) → (k == j) ≡ t → j < 20 → AreLimits row
    → IsLimited k o → IsLimited k (if t then Some row else o)
unfolding IsLimited
chosen k j row o true e lt limits rest = (omega (arith, eqb-true k j e), limits)
chosen k j row o false e lt limits rest = rest

step : (k j : ℕ) (row : Row) (o : Option Row) → j < 20 → AreLimits row → IsLimited k o
    → IsLimited k (if k == j then Some row else o)
step k j row o lt limits rest = chosen k j row o (k == j) refl lt limits rest

none : (k : ℕ) → IsLimited k None
unfolding IsLimited
none k = tt

-- a row without parts
bare : (row : Row) → row.size ≤ 2 ^ 32 → row.extra ≤ 2 ^ 32 → row.parts ≡ None → AreLimits row
bare row s x e =
    record { size = s; extra = x; value = λ (parts : PartRow) (p : row.parts ≡ Some parts). cc }

-- a row with parts
with_parts : (row : Row) (r : PartRow) → row.size ≤ 2 ^ 32 → row.extra ≤ 2 ^ 32 → row.parts ≡ Some r
    → r.value ≤ 2 ^ 64 → AreLimits row
with_parts row r s x e v = record {
  size = s;
  extra = x;
  value = λ (parts : PartRow) (p : row.parts ≡ Some parts). let q : r ≡ parts = cc in
      subst (λ (u : PartRow). u.value ≤ 2 ^ 64) q v;
}

pub limited : (k : ℕ) → IsLimited k (row_of k)
limited k =
    step k 1 _ _ (omega arith) (bare _ (omega arith) (omega arith) refl) (
    step k 2 _ _ (omega arith) (bare _ (omega arith) (omega arith) refl) (
    step k 3 _ _ (omega arith) (bare _ (omega arith) (omega arith) refl) (
    step k 4 _ _ (omega arith) (with_parts _ _ (omega arith) (omega arith) refl (omega arith)) (
    step k 5 _ _ (omega arith) (with_parts _ _ (omega arith) (omega arith) refl (omega arith)) (
    step k 6 _ _ (omega arith) (with_parts _ _ (omega arith) (omega arith) refl (omega arith)) (
    step k 7 _ _ (omega arith) (bare _ (omega arith) (omega arith) refl) (
    step k 8 _ _ (omega arith) (bare _ (omega arith) (omega arith) refl) (
    step k 9 _ _ (omega arith) (bare _ (omega arith) (omega arith) refl) (
    step k 10 _ _ (omega arith) (bare _ (omega arith) (omega arith) refl) (
    step k 11 _ _ (omega arith) (bare _ (omega arith) (omega arith) refl) (
    step k 12 _ _ (omega arith) (bare _ (omega arith) (omega arith) refl) (
    step k 13 _ _ (omega arith) (with_parts _ _ (omega arith) (omega arith) refl (omega arith)) (
    step k 14 _ _ (omega arith) (bare _ (omega arith) (omega arith) refl) (
    step k 15 _ _ (omega arith) (with_parts _ _ (omega arith) (omega arith) refl (omega arith)) (
    step k 16 _ _ (omega arith) (bare _ (omega arith) (omega arith) refl) (
    step k 17 _ _ (omega arith) (bare _ (omega arith) (omega arith) refl) (
    step k 18 _ _ (omega arith) (bare _ (omega arith) (omega arith) refl) (
    step k 19 _ _ (omega arith) (with_parts _ _ (omega arith) (omega arith) refl (omega arith)) (
    none k)))))))))))))))))))

limits_of : (k : ℕ) (row : Row) → row_of k ≡ Some row → (k < 20) × AreLimits row
unfolding IsLimited
limits_of k row e = let P : Option Row → Type 0 = IsLimited k in subst P e (limited k)

pub kind_known : (t : CType) → IsWellFormed t → t.label.kind < 20
kind_known t w = (limits_of t.label.kind w.row w.of_kind).0

pub row_limits : (t : CType) (w : IsWellFormed t) → AreLimits w.row
row_limits t w = (limits_of t.label.kind w.row w.of_kind).1

-- a FUNC's linkage is below 3
linkage : (row : Row) (k extra : ℕ) → k ≡ 12 → row_of k ≡ Some row → extra < row.extra
    → extra ≤ 65535
linkage row k extra is e lt =
    let s : row_of k ≡ Some (linked_row 3 false) = ap row_of is in
    let q : linked_row 3 false ≡ row = cc in
    let x : 3 ≡ row.extra = ap (λ (r : Row). r.extra) q in
    omega arith

vlen_by : (t : CType) (b : Bool) → (t.label.kind == BTF_KIND_FUNC) ≡ b → IsWellFormed t
    → (if b then t.label.extra else length t.label.parts) ≤ 65535
vlen_by t true e w =
    linkage w.row t.label.kind t.label.extra (eqb-true t.label.kind 12 e) w.of_kind w.extra
vlen_by t false e w = w.few

pub vlen_few : (t : CType) → IsWellFormed t → vlen_of t.label ≤ 65535
vlen_few t w = vlen_by t (t.label.kind == BTF_KIND_FUNC) refl w

bit_small : (b : Bool) → bit_of b ≤ 1
bit_small true = omega arith
bit_small false = omega arith

pub info_narrow : (t : CType) → IsWellFormed t → info_of t.label < 2 ^ 32
info_narrow t w = omega (arith, kind_known t w, vlen_few t w, bit_small t.label.flag)
