use Rattle.std.proofs.Common.{◌≡◌, ◌<◌, ◌+◌, ℕ, Bool, true, false, nat_lt, length, subst}
use Rattle.std.proofs.Common.{refl, ap, arith}
use Rattle.std.proofs.lemmas.Bool.{ltb-true, ltb-false}
use Rattle.small_graphs.proofs.fitting.is_fitting.Goals as goal
use Rattle.small_graphs.proofs.fitting.is_fitting.Goals.{then-not-is_leaf-via-then-not-is_leaf}
use Rattle.small_graphs.proofs.fitting.is_fitting.Goals.{then-not-is_leaf-via-else-not-is_leaf+then-not-are_like}

pub returns-then-not-is_leaf : goal.returns-then-not-is_leaf
returns-then-not-is_leaf c = (
  λ t. absurd (cc),
  λ fitting.
      let g = c.args.graph.now in
      let within : c.loop-x.x < length g.nodes =
      omega (arith, c.loop-x-test.true, c.len-x-end.ensures.len) in
      elim c.then-not-is_leaf.branch [
        | then-not-is_leaf-via-then-not-is_leaf w ↦
            let leaf = c.is_leaf.ensures.1 (λ tag declared.
            ap length (fitting.leaves c.loop-x.x tag within declared)) in absurd (cc)
        | then-not-is_leaf-via-else-not-is_leaf+then-not-are_like w ↦
            let like = w.are_like.ensures.1 (λ y tag below declares same.
            fitting.labels c.loop-x.x y tag within below declares same) in absurd (cc)
      ],
)

-- what holds below a number and at it holds up to it
up_to : {P : ℕ → Type 0} (n : ℕ) → ((x : ℕ) → x < n → P x) → P n → (x : ℕ) → x < n + 1 → P x
up_to {P} n below last x h = by (nat_lt x n) refl
  where
    by : (b : Bool) → nat_lt x n ≡ b → P x
    by true e = below x (ltb-true x n e)
    by false e = let same : n ≡ x = omega (arith, h, ltb-false x n e) in subst P same last

pub loop-x-preserved : goal.loop-x-preserved
loop-x-preserved c = (
  λ x tag h. up_to c.loop-x.x (λ y l. c.loop-x.invariant.0 y tag l)
      (c.is_leaf.ensures.0 c.if-not-is_leaf.false tag) x h,
  λ x y tag h. up_to c.loop-x.x (λ z l. c.loop-x.invariant.1 z y tag l)
      (c.are_like.ensures.0 c.if-not-are_like.false y tag) x h,
)
