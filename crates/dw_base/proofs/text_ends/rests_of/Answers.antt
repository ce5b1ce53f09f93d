use Rattle.std.proofs.Common.{ℕ, List, length, ap, sym, ◌∙◌, arith}
use Rattle.std.proofs.lemmas.Option.{none-some}
use Rattle.dw_base.proofs.Terminated.{text_past}
use Rattle.dw_base.proofs.text_ends.rests_of.Goals as goal

pub loop-j-init : goal.loop-j-init
loop-j-init c =
    let none = ap (λ (rs : List ℕ). length rs) c.in_ok-rests.ensures.items in
    record {
      rests = λ j lt. absurd (omega (arith, none));
      count = none;
      behind = λ t e. absurd (none-some t (sym (text_past c.args.bytes.now _ (omega arith)) ∙ e));
    }
