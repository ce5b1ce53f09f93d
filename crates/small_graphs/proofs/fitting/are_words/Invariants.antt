use Rattle.std.proofs.Common.{ℕ, ◌<◌, ◌^◌, get_or}
use Rattle.dw_base.specs.Texts.{HasNoNul}
use Rattle.c_model.specs.declared.label.Part.{Part}
use Rattle.small_graphs.proofs.fitting.are_words.Given as goal

abbrev pub invariant-loop-part : goal.invariant-loop-part
invariant-loop-part l = (k : ℕ) (d : Part) → k < l.part-index
    → HasNoNul (get_or l.parts k d).name × ((get_or l.parts k d).value < 2 ^ 32)
