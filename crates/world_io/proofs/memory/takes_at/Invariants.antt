use Rattle.std.proofs.Common.{◌≡◌, drop}
use Rattle.world_io.specs.Cuts.{stop_at}
use Rattle.world_io.proofs.memory.takes_at.Given as goal

-- none of the stops so far names the call
abbrev pub invariant-loop-stop : goal.invariant-loop-stop
invariant-loop-stop l = stop_at l.stops l.call ≡ stop_at (drop l.stop-index l.stops) l.call
