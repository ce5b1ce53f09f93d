-- Groups of definitions dealt out to shares.
use Rattle.std.proofs.Common.{◌≡◌, ◌<◌, ◌≤◌, ◌*◌, ◌/◌, ◌%◌, ℕ, zero, suc, List, [], Option}
use Rattle.std.proofs.Common.{All, map, length, get_or, refl, sym, ◌∙◌, ap, arith}
use Rattle.std.proofs.Math.Nat.{mod-lt, div-lt_iff_lt-mul, mul_comm}
use Rattle.std.proofs.lemmas.Nat.{mul-add-lt, mod-mul-add, div-mul-add, div-add-mod'}
use Rattle.type_signature.specs.Placing.{common_of, common_at, or_own, IsPlacedBy}
use Rattle.type_signature.specs.Dealing.{turned, dealt_at, AreDealt}
use Rattle.type_signature.proofs.Commons.{common-group}

module _ (rows columns x : ℕ) (some : 0 < rows) (lt : x < rows * columns) where
  column : x / rows < columns
  column = (div-lt_iff_lt-mul some).1 (rw (mul_comm columns rows) lt)

  row : x % rows < rows
  row = mod-lt x some

  pub turned-below : turned rows columns x < rows * columns
  turned-below = rw (mul_comm rows columns) (mul-add-lt (x % rows) columns (x / rows) rows row
      column)

  pub turned-back : turned columns rows (turned rows columns x) ≡ x
  turned-back = rw (
    mod-mul-add (x % rows) columns (x / rows) column,
    div-mul-add (x % rows) columns (x / rows) column,
  ) (div-add-mod' x rows)

-- what the groups that are dealt out have in common is what they have in their order
module _ (raw : List ℕ) (groups : List (List ℕ)) (shares size : ℕ) (cs : List (Option ℕ))
    (some : 0 < shares) (fits : length groups < shares * size)
    (d : AreDealt raw groups shares size cs) where
  dealt-common : (t : ℕ) → t ≤ length groups
      → dealt_at cs shares size t ≡ common_at (map (common_of raw) groups) t
  dealt-common zero le = refl
  dealt-common (suc i) le =
      let lt : i < shares * size = omega (arith, fits, le) in
      let below : turned shares size i < size * shares =
      rw (mul_comm size shares) (turned-below shares size i some lt) in
      d.at (turned shares size i) below
      ∙ (ap (λ k. common_of raw (get_or groups k [])) (turned-back shares size i some lt)
      ∙ sym (common-group raw groups (suc i)))

  pub IsPlacedBy-dealt : (tags v : List ℕ) → length tags ≡ length raw
      → All (λ t. t ≤ length groups) tags → length v ≡ length raw → ((x : ℕ) → x < length raw
      → get_or v x 0 ≡ or_own (get_or raw x 0) (dealt_at cs shares size (get_or tags x 0)))
      → IsPlacedBy raw tags groups v
  IsPlacedBy-dealt tags v same all covers at = record {
    covers = covers;
    at = λ x h. at x h ∙ ap (or_own (get_or raw x 0))
        (dealt-common (get_or tags x 0) (all x 0 (omega (arith, same, h))));
  }
