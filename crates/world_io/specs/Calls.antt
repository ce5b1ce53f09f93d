-- What a call of a world does. In each record `rest` says what stays as it was.
use Rattle.std.specs.Prelude.{ℕ, ◌≡◌, ◌≢◌, ◌+◌, ◌-◌, ◌^◌, ◌<◌, ◌≤◌, ◌++◌, ◌⊎◌, min, List, []}
use Rattle.std.specs.Prelude.{length, Option, None, Some, is_some, unwrap_or, Result, Err, IsOk}
use Rattle.std.specs.Prelude.{OnOk, OnErr, IfSome, IsErrOf, IsSomeAnd}
use Rattle.std.specs.Option.{option_map}
use Rattle.std.specs.Io.{StartsWith}
use Rattle.world_io.specs.Meaning.{Meaning, file_of}
use Rattle.world_io.specs.declared.files.HeldFile.{HeldFile}
use Rattle.world_io.specs.declared.fault.LoadFault.{LoadFault}
use Rattle.world_io.specs.declared.fault.LoadFault.TheVariants.{Failed as LoadFailed, Missing}
use Rattle.world_io.specs.declared.fault.LoadFault.TheVariants.{TooLarge, Memory as LoadMemory}
use Rattle.world_io.specs.declared.fault.OutFault.{OutFault}
use Rattle.world_io.specs.declared.fault.OutFault.TheVariants.{Failed as OutFailed}
use Rattle.world_io.specs.declared.fault.OutFault.TheVariants.{Memory as OutMemory}
use Rattle.world_io.specs.declared.fault.Failed.{Failed}

-- a count one higher, which stands still at the end of a u64
abbrev pub raised : ℕ → ℕ
raised n = min (n + 1) (2 ^ 64 - 1)

-- a count became greater, or stands at its end
abbrev pub Rose : ℕ → ℕ → Type 0
Rose before now = raised before ≤ now

-- one call more, where calls are told
abbrev pub more_calls : Option ℕ → Option ℕ
more_calls calls = option_map raised calls

-- the told files have none of the name
abbrev pub IsMissing : Meaning → List ℕ → Type 0
IsMissing w name = IsSomeAnd w.files (λ (fs : List HeldFile). file_of name fs ≡ None)

-- the told file of the name has more bytes than `most`
abbrev pub IsTooLarge : Meaning → List ℕ → ℕ → Type 0
IsTooLarge w name most =
    IsSomeAnd w.files
    (λ (fs : List HeldFile). IsSomeAnd (file_of name fs) (λ (bs : List ℕ). most < length bs))

-- a file was loaded, or not
pub record Loads (before after : Meaning) (name : List ℕ) (most : ℕ) (into : List ℕ)
    (result : Result (Unit {0}) LoadFault) : Type 0 where
  pub later : before.loads ≤ after.loads
  pub rest : after ≡ record before { calls = more_calls before.calls; loads = after.loads }
  pub still : result ≢ Err LoadFailed → after.loads ≡ before.loads
  pub few : OnOk result (length into ≤ most)
  pub told : OnOk result (IfSome before.files (λ (fs : List HeldFile). file_of name fs ≡ Some into))
  pub failed : IsErrOf result LoadFailed → Rose before.loads after.loads
  pub missing : IsErrOf result Missing → IsMissing before name × (into ≡ [])
  pub too_large : IsErrOf result TooLarge → length into ≡ most + 1
  pub large :
      IsErrOf result TooLarge
      → IfSome before.files
      (λ (fs : List HeldFile). IsSomeAnd (file_of name fs) (λ (bs : List ℕ). most < length bs))
  pub part :
      OnErr result
      (IfSome before.files
      (λ (fs : List HeldFile). StartsWith (unwrap_or (file_of name fs) []) into))
  pub always_missing :
      IsMissing before name → after.loads < raised before.loads
      → IsErrOf result Missing ⊎ IsErrOf result LoadMemory
  pub always_too_large :
      IsTooLarge before name most → after.loads < raised before.loads
      → IsErrOf result TooLarge ⊎ IsErrOf result LoadMemory

-- a piece came after the others, where they are told
abbrev pub Gains : List ℕ → Option (List ℕ) → Option (List ℕ) → Type 0
Gains piece before after = after ≡ option_map (λ (xs : List ℕ). xs ++ piece) before

-- a beginning of a piece came after the others
abbrev pub GainsPart : List ℕ → Option (List ℕ) → Option (List ℕ) → Type 0
GainsPart piece before after = (part : List ℕ) × StartsWith piece part × Gains part before after

-- a piece was printed, or a part of it with a fault
pub record Prints (before after : Meaning) (piece : List ℕ)
    (result : Result (Unit {0}) OutFault) : Type 0 where
  pub later : before.prints ≤ after.prints
  pub rest :
      after ≡ record before {
        printed = after.printed;
        calls = more_calls before.calls;
        prints = after.prints;
      }
  pub still : result ≢ Err OutFailed → after.prints ≡ before.prints
  pub ok : OnOk result (Gains piece before.printed after.printed)
  pub failed : IsErrOf result OutFailed → Rose before.prints after.prints
  pub part : IsErrOf result OutFailed → GainsPart piece before.printed after.printed
  pub memory : IsErrOf result OutMemory → after.printed ≡ before.printed

-- a piece was complained, or a part of it with a fault
pub record Complains (before after : Meaning) (piece : List ℕ)
    (result : Result (Unit {0}) Failed) : Type 0 where
  pub later : before.complaints ≤ after.complaints
  pub rest : after ≡ record before { complained = after.complained; complaints = after.complaints }
  pub still : IsOk result → after.complaints ≡ before.complaints
  pub ok : OnOk result (Gains piece before.complained after.complained)
  pub failed : OnErr result (Rose before.complaints after.complaints)
  pub part : OnErr result (GainsPart piece before.complained after.complained)

-- what is stored under a name, where it is told
abbrev pub under : List ℕ → Option (List HeldFile) → Option (Option (List ℕ))
under name stored = option_map (λ (fs : List HeldFile). file_of name fs) stored

-- what a failed store leaves: a beginning of the bytes, or nothing where nothing was stored
abbrev pub IsLeft : List ℕ → Option (List ℕ) → Option (List ℕ) → Type 0
IsLeft bytes before None = before ≡ None
IsLeft bytes before (Some now) = StartsWith bytes now

-- bytes were stored under a name, or a part of them with a fault
pub record Stores (before after : Meaning) (name bytes : List ℕ)
    (result : Result (Unit {0}) OutFault) : Type 0 where
  pub later : before.stores ≤ after.stores
  pub rest : after ≡ record before {
    stored = after.stored;
    calls = more_calls before.calls;
    stores = after.stores;
  }
  pub still : result ≢ Err OutFailed → after.stores ≡ before.stores
  pub tells : is_some after.stored ≡ is_some before.stored
  pub others : (q : List ℕ) → q ≢ name → under q after.stored ≡ under q before.stored
  pub ok : OnOk result
      (IfSome (under name after.stored) (λ (now : Option (List ℕ)). now ≡ Some bytes))
  pub failed : IsErrOf result OutFailed → Rose before.stores after.stores
  pub part :
      IsErrOf result OutFailed
      → IfSome (under name before.stored)
      (λ (old : Option (List ℕ)).
      IfSome (under name after.stored) (λ (now : Option (List ℕ)). IsLeft bytes old now))
  pub memory : IsErrOf result OutMemory → after.stored ≡ before.stored
