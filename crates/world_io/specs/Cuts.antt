-- What a stop cuts off.
use Rattle.std.specs.Prelude.{ℕ, ◌==◌, List, [], ◌∷◌, take, Option, None, Some, if◌then◌else◌}
use Rattle.world_io.specs.declared.files.Stop.{Stop}

-- how many bytes the call of a number takes before it fails, where a stop names it; the first such
-- stop counts
abbrev pub stop_at : List Stop → ℕ → Option ℕ
stop_at [] call = None
stop_at (s ∷ ss) call = if s.call == call then Some s.takes else stop_at ss call

-- what a call takes of some bytes
abbrev pub cut : Option ℕ → List ℕ → List ℕ
cut None xs = xs
cut (Some takes) xs = take takes xs
