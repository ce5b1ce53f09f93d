-- What comes of a page that is asked for.
use Rattle.std.specs.Prelude.{ℕ, ◌≡◌, ◌≢◌, ◌<◌, ◌⊎◌, List, Option, None, Some, codes}
use Rattle.world_io.specs.Meaning.{Meaning}
use Rattle.world_io.specs.Calls.{Gains, GainsPart, Rose, more_calls, raised}

-- the lines that are complained
abbrev pub unexplained_line : List ℕ
unexplained_line =
    codes "pahole: --explain takes the number of an error, or usage1 to usage7\n"

abbrev pub print_line : List ℕ
print_line = codes "pahole: cannot print\n"

abbrev pub memory_line : List ℕ
memory_line = codes "pahole: out of memory\n"

-- a line was complained, or a beginning of it where that failed
pub record Complained (line : List ℕ) (before after : Meaning) : Type 0 where
  pub part : GainsPart line before.complained after.complained
  pub whole :
      after.complaints < raised before.complaints
      → Gains line before.complained after.complained

-- by one print, nothing was loaded or stored, and no other call made
abbrev pub OnlyPrints : Meaning → Meaning → Type 0
OnlyPrints before after =
    after
    ≡ record before {
      printed = after.printed;
      complained = after.complained;
      calls = more_calls before.calls;
      prints = after.prints;
      complaints = after.complaints;
    }

-- a text was printed whole, and the status is 0; or the print failed after a beginning of it, and
-- the status is 3; or there was no memory for it, and the status is 4
pub record Shows (text : List ℕ) (before after : Meaning) (status : ℕ) : Type 0 where
  pub only : OnlyPrints before after
  pub statuses : (status ≡ 0) ⊎ ((status ≡ 3) ⊎ (status ≡ 4))
  pub done : status ≡ 0 → Gains text before.printed after.printed
  pub quiet : status ≡ 0 → after.complained ≡ before.complained
  pub failed : status ≡ 3 → Rose before.prints after.prints
  pub part : status ≡ 3 → GainsPart text before.printed after.printed
  pub told : status ≡ 3 → Complained print_line before after
  pub still : status ≢ 3 → after.prints ≡ before.prints
  pub memory : status ≡ 4 → after.printed ≡ before.printed
  pub memory_told : status ≡ 4 → Complained memory_line before after

-- nothing but a complaint was made, and the status is 2
pub record Unexplains (before after : Meaning) (status : ℕ) : Type 0 where
  pub is_usage : status ≡ 2
  pub only : after ≡ record before { complained = after.complained; complaints = after.complaints }
  pub told : Complained unexplained_line before after

-- what comes of a page: a text that is shown, or none
abbrev pub Gives : Option (List ℕ) → Meaning → Meaning → ℕ → Type 0
Gives (Some text) before after status = Shows text before after status
Gives None before after status = Unexplains before after status

-- where words ask for a page, what comes of it; else nothing happened
abbrev pub Answers : Option (Option (List ℕ)) → Meaning → Meaning → Option ℕ → Type 0
Answers None before after status = (status ≡ None) × (after ≡ before)
Answers (Some page) before after None = ⊥
Answers (Some page) before after (Some status) = Gives page before after status
