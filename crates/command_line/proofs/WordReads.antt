-- What the reading of one word gives.
use Rattle.std.proofs.Common.{Bool, true, false, ◌≡◌, ◌⊎◌, inl, inr, ℕ, ◌+◌, ◌<◌, List, [], ◌∷◌}
use Rattle.std.proofs.Common.{◌++◌, drop, Some, None, Result, Ok, Err, ap, ◌∙◌, sym, refl, arith}
use Rattle.std.proofs.Common.{append-nil}
use Rattle.std.specs.Prelude.{codes}
use Rattle.std.specs.Str.{bytes_eq}
use Rattle.command_line.specs.declared.job.JobFault.{JobFault}
use Rattle.command_line.specs.declared.job.JobFault.TheVariants.{Usage, Memory}
use Rattle.command_line.specs.declared.job.UsageFault.{UsageFault}
use Rattle.command_line.specs.declared.scan.Seen.{Seen}
use Rattle.command_line.specs.declared.options.Setting.{Setting}
use Rattle.command_line.specs.declared.options.ValuePlace.{ValuePlace}
use Rattle.command_line.specs.declared.options.ValuePlace.TheVariants.{Nowhere, NextWord, SameWord}
use Rattle.command_line.specs.Options.{row, settings}
use Rattle.command_line.specs.Words.{unknown, dashes, file, nothing, only_files, first_of, is_file}
use Rattle.command_line.specs.Words.{spelled_as, option_role, role, roles, usage, word_fault}
use Rattle.command_line.specs.Reading.{Reached, before_by, IsAt, ReadsOn, ReadsOption, width}
use Rattle.command_line.proofs.Steps.{stepped, stopped, option_stepped}

-- a word that is a file
pub file_read :
    (ws : List (List ℕ)) (at : ℕ) (us vs : List (Setting × List ℕ)) (fs gs : List (List ℕ))
    (w : List ℕ) (plain now : Bool)
    → first_of (drop at ws) ≡ Some w → (plain ≡ true) ⊎ (is_file w ≡ true)
    → vs ≡ us → gs ≡ fs ++ w ∷ [] → now ≡ plain → Reached ws (before_by plain) at us fs
    → Reached ws (before_by now) (at + 1) vs gs
file_read ws at us vs fs gs w true now first h e f n k =
    rw (e, f, n)
    (rw (append-nil us) at (stepped ws only_files at us fs w (file w) k first refl refl))
file_read ws at us vs fs gs w false now first (inl h) e f n k = absurd (cc)
file_read ws at us vs fs gs w false now first (inr h) e f n k =
    let is : role nothing w (drop (at + 1) ws) ≡ file w = rw h in
    rw (e, f, n) (rw (append-nil us) at (stepped ws nothing at us fs w (file w) k first is refl))

-- the first `--`
pub dashes_read :
    (ws : List (List ℕ)) (at : ℕ) (us : List (Setting × List ℕ)) (fs : List (List ℕ)) (w : List ℕ)
    (plain : Bool)
    → first_of (drop at ws) ≡ Some w → plain ≡ false → false ≡ is_file w
    → true ≡ bytes_eq w (codes "--")
    → Reached ws (before_by plain) at us fs → Reached ws only_files (at + 1) us fs
dashes_read ws at us fs w plain first p h d k =
    let is : role nothing w (drop (at + 1) ws) ≡ dashes = rw (← h, ← d) in
    let begun : Reached ws nothing at us fs = rw p at k in
    rw (append-nil fs) at
    (rw (append-nil us) at (stepped ws nothing at us fs w dashes begun first is refl))

-- a word that is an option of the table or an unknown one
role_of_option :
    (w : List ℕ) (ws : List (List ℕ)) → false ≡ is_file w → false ≡ bytes_eq w (codes "--")
    → role nothing w ws ≡ option_role (spelled_as settings w) ws
role_of_option w ws h d = rw (← h, ← d)

-- an unknown option
pub unknown_read :
    (ws : List (List ℕ)) (at : ℕ) (us : List (Setting × List ℕ)) (fs : List (List ℕ)) (w : List ℕ)
    (plain : Bool) (u : UsageFault)
    → first_of (drop at ws) ≡ Some w → plain ≡ false → false ≡ is_file w
    → false ≡ bytes_eq w (codes "--") → None ≡ spelled_as settings w
    → u.word ≡ at → u.code ≡ 1
    → Reached ws (before_by plain) at us fs → word_fault [] (roles nothing ws) ≡ Some u
unknown_read ws at us fs w plain u first p h d none e f k =
    let is : role nothing w (drop (at + 1) ws) ≡ unknown =
    role_of_option w (drop (at + 1) ws) h d
    ∙ ap (λ o. option_role o (drop (at + 1) ws)) (sym none) in
    let begun : Reached ws nothing at us fs = rw p at k in
    stopped ws nothing at us fs w unknown 1 begun first is refl ∙ ap (λ n. Some (usage n 1)) (sym e)
    ∙ ap (λ n. Some (usage u.word n)) (sym f)

wide : (p : ValuePlace) → 0 < width p
wide SameWord = omega arith
wide NextWord = omega arith
wide Nowhere = omega arith

-- an option of the table
pub option_read :
    (ws : List (List ℕ)) (at : ℕ) (old new : Seen) (w : List ℕ) (o : Setting × List ℕ)
    (r : Result ℕ JobFault)
    → first_of (drop at ws) ≡ Some w → old.only_files ≡ false → false ≡ is_file w
    → false ≡ bytes_eq w (codes "--") → Some o ≡ spelled_as settings w
    → ReadsOption (drop (at + 1) ws) at o old new r
    → ReadsOn ws at old new r
option_read ws at old new w o (Ok next) first p h d some k =
    let is : role nothing w (drop (at + 1) ws) ≡ option_role (Some o) (drop (at + 1) ws) =
    role_of_option w (drop (at + 1) ws) h d
    ∙ ap (λ q. option_role q (drop (at + 1) ws)) (sym some) in (
      omega (arith, wide (row o.0).place, k.0),
      λ (b : IsAt ws at old).
          let begun : Reached ws nothing at old.uses.items old.files.items = rw p at b in
          let reached =
          option_stepped ws at old.uses.items old.files.items w o begun first is k.1 in
          rw (k.2, k.3, k.4, p, k.0) reached,
    )
option_read ws at old new w o (Err (Usage u)) first p h d some k =
    let is : role nothing w (drop (at + 1) ws) ≡ option_role (Some o) (drop (at + 1) ws) =
    role_of_option w (drop (at + 1) ws) h d
    ∙ ap (λ q. option_role q (drop (at + 1) ws)) (sym some) in
    λ (b : IsAt ws at old).
    let begun : Reached ws nothing at old.uses.items old.files.items = rw p at b in
    stopped ws nothing at old.uses.items old.files.items w
    (option_role (Some o) (drop (at + 1) ws)) u.code begun first is k.1
    ∙ ap (λ n. Some (usage n u.code)) (sym k.0)
option_read ws at old new w o (Err Memory) first p h d some k = tt
