use Rattle.layout_printer.proofs.Knowing.{IsFollowing}
use Rattle.layout_printer.proofs.Ways.{unknown_count}
use Rattle.layout_printer.proofs.finding.follow.Given as goal

-- the types so far, each behind the one before it
abbrev pub invariant-loop-y : goal.invariant-loop-y
invariant-loop-y l = IsFollowing l.types l.fn.found l.found l.path.items l.at l.x

-- less is unknown each time
abbrev pub decreases-loop-y : goal.decreases-loop-y
decreases-loop-y l = unknown_count l.found
