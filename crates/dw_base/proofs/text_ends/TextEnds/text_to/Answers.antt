use Rattle.std.proofs.Common.{◌-◌, List, ℕ, Some, length, take, drop, ap, sym, ◌∙◌, subst}
use Rattle.std.proofs.Common.{arith}
use Rattle.dw_base.specs.Ends.{IsFirstNul}
use Rattle.dw_base.proofs.FirstNul.{text_up_to, no_text}
use Rattle.dw_base.proofs.text_ends.TextEnds.text_to.Goals as goal

pub returns-then-end-self : goal.returns-then-end-self
returns-then-end-self c = sym (no_text c.args.self.now c.args.at
    (subst (λ n. IsFirstNul c.args.self.now c.args.at n)
    (c.if-end-self.true ∙ ap (λ (xs : List ℕ). length xs) c.self.view_is) c.requires))

pub returns-then-end-at : goal.returns-then-end-at
returns-then-end-at c =
    let long = ap (λ (xs : List ℕ). length xs) c.self.view_is in
    ap (λ (xs : List ℕ). Some xs) (c.new.ensures
    ∙ ap (λ (b : List ℕ). take (c.args.end - c.args.at) (drop c.args.at b)) c.self.view_is)
    ∙ sym (text_up_to c.args.self.now c.args.at c.args.end c.requires
    (omega (arith, long, c.requires.inside, c.if-end-self.false)))

pub returns-else-end-at : goal.returns-else-end-at
returns-else-end-at c =
    let long = ap (λ (xs : List ℕ). length xs) c.self.view_is in
    ap (λ (xs : List ℕ). Some xs) c.long_text.ensures
    ∙ sym (text_up_to c.args.self.now c.args.at c.args.end c.requires
    (omega (arith, long, c.requires.inside, c.if-end-self.false)))
