-- How many references the first nodes have.
use Rattle.std.proofs.Common.{◌≡◌, ◌<◌, ◌+◌, ℕ, zero, suc, List, [], ◌∷◌, ◌++◌, Option, Some, None}
use Rattle.std.proofs.Common.{length, take, get_or, refl, sym, ◌∙◌, ap, arith}
use Rattle.std.specs.List.{slice_get}
use Rattle.std.specs.Option.{option_map_or}
use Rattle.std.proofs.lemmas.Option.{slice_get_within, get_or_from_slice_get, none-some}
use Rattle.std.proofs.lemmas.List.{take_more}
use Rattle.std.proofs.lemmas.List.Sums.{sum_by-append}
use Rattle.c_model.specs.declared.graph.CType.{CType}
use Rattle.c_model.specs.Partition.{targets_at}
use Rattle.c_model.specs.Graph.{references}

references-node : (nodes : List CType) (x : ℕ) (t : CType) → slice_get nodes x ≡ Some t
    → references (take (x + 1) nodes) ≡ references (take x nodes) + length (targets_at nodes x)
references-node nodes x t at =
    let lt : x < length nodes = slice_get_within nodes x t at in
    let e : get_or nodes x t ≡ t = get_or_from_slice_get nodes x t t at in
    let s : references (take x nodes ++ get_or nodes x t ∷ [])
    ≡ references (take x nodes) + references (get_or nodes x t ∷ []) =
    sum_by-append (λ (u : CType). length u.targets) (take x nodes) (get_or nodes x t ∷ []) in
    let l : references (get_or nodes x t ∷ []) ≡ 0 + length t.targets =
    ap (λ (u : CType). 0 + length u.targets) e in
    let k : length (targets_at nodes x) ≡ length t.targets =
    ap (λ o. length (option_map_or (λ (u : CType). u.targets) o [])) at in
    ap references (take_more nodes x t lt) ∙ (s ∙ omega arith)

pub references-more : (nodes : List CType) (x : ℕ) → x < length nodes
    → references (take (x + 1) nodes) ≡ references (take x nodes) + length (targets_at nodes x)
references-more nodes x lt = by (slice_get nodes x) refl
  where
    within : (ts : List CType) (k : ℕ) → k < length ts → slice_get ts k ≡ None → ⊥
    within [] k h e = omega arith
    within (t ∷ ts) zero h e = none-some t (sym e)
    within (t ∷ ts) (suc k) h e = within ts k (omega arith) e

    by : (o : Option CType) → slice_get nodes x ≡ o
        → references (take (x + 1) nodes) ≡ references (take x nodes) + length (targets_at nodes x)
    by None e = absurd (within nodes x lt e)
    by (Some t) e = references-node nodes x t e
