use Rattle.std.proofs.Common.{◌≡◌, drop}
use Rattle.pahole_help.specs.Asked.{text_under}
use Rattle.pahole_help.proofs.pages.text_under.Given as goal

-- none of the explanations so far has the key
abbrev pub invariant-loop-explanation : goal.invariant-loop-explanation
invariant-loop-explanation l =
    text_under l.explanations l.key ≡ text_under (drop l.explanation-index l.explanations) l.key
