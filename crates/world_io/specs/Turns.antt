-- The turns of a world in memory: where its calls fail, and what they take then.
use Rattle.std.specs.Prelude.{ℕ, ◌≡◌, ◌+◌, ◌-◌, ◌<◌, ◌++◌, ◌⊎◌, List, [], length, take, Option}
use Rattle.std.specs.Prelude.{Some, IsSome, unwrap_or, Result, IsErr, IsErrOf, OnErr}
use Rattle.world_io.specs.Meaning.{file_of}
use Rattle.world_io.specs.Calls.{raised}
use Rattle.world_io.specs.Cuts.{stop_at, cut}
use Rattle.world_io.specs.declared.files.Stop.{Stop}
use Rattle.world_io.specs.declared.memory.MemoryWorld.{MemoryWorld}
use Rattle.world_io.specs.declared.fault.LoadFault.{LoadFault}
use Rattle.world_io.specs.declared.fault.LoadFault.TheVariants.{Failed as LoadFailed}
use Rattle.world_io.specs.declared.fault.LoadFault.TheVariants.{Memory as LoadMemory}
use Rattle.world_io.specs.declared.fault.OutFault.{OutFault}
use Rattle.world_io.specs.declared.fault.OutFault.TheVariants.{Failed as OutFailed}
use Rattle.world_io.specs.declared.fault.OutFault.TheVariants.{Memory as OutMemory}
use Rattle.world_io.specs.declared.fault.Failed.{Failed}

-- the stop of the next call
abbrev pub stop_of : MemoryWorld → Option ℕ
stop_of w = stop_at w.stops w.turn

-- the stops of a world that has made no call
pub record Begins (given : List Stop) (w : MemoryWorld) : Type 0 where
  pub turn : w.turn ≡ 0
  pub stops : w.stops ≡ given

-- one call of any kind was made
pub record TakesTurn (before after : MemoryWorld) : Type 0 where
  pub turn : after.turn ≡ raised before.turn
  pub stops : after.stops ≡ before.stops

-- an output answers `Failed` at a stop and nowhere else; at one only want of memory stands before
-- it
pub record StopsOut (before after : MemoryWorld)
    (result : Result (Unit {0}) OutFault) : Type 0 where
  pub turn : TakesTurn before after
  pub only : IsErrOf result OutFailed → IsSome (stop_of before)
  pub always : IsSome (stop_of before) → IsErrOf result OutFailed ⊎ IsErrOf result OutMemory

-- a load answers `Failed` at a stop and nowhere else; of the bytes that it would give at most, it
-- then took a part
pub record StopsLoad
    (before after : MemoryWorld) (name : List ℕ) (most : ℕ) (into : List ℕ)
    (result : Result (Unit {0}) LoadFault)
    : Type 0 where
  pub turn : TakesTurn before after
  pub only : IsErrOf result LoadFailed → IsSome (stop_of before)
  pub always : IsSome (stop_of before) → IsErrOf result LoadFailed ⊎ IsErrOf result LoadMemory
  pub took :
      IsErrOf result LoadFailed
      → into ≡ cut (stop_of before) (take (most + 1) (unwrap_or (file_of name before.files) []))

-- a print that failed took a part
pub record StopsPrint (before after : MemoryWorld) (piece : List ℕ)
    (result : Result (Unit {0}) OutFault) : Type 0 where
  pub out : StopsOut before after result
  pub took : IsErrOf result OutFailed
      → after.printed.items ≡ before.printed.items ++ cut (stop_of before) piece

-- a store that failed took a part
pub record StopsStore
    (before after : MemoryWorld) (name bytes : List ℕ) (result : Result (Unit {0}) OutFault)
    : Type 0 where
  pub out : StopsOut before after result
  pub took : IsErrOf result OutFailed
      → file_of name after.stored.items ≡ Some (cut (stop_of before) bytes)

-- how many bytes may still be complained, of 65,536 in all
abbrev pub room_of : MemoryWorld → ℕ
room_of w = 65536 - length w.complained.items

-- a complaint fails at a stop or past the room, and nowhere else, and takes what it may
pub record StopsComplaint (before after : MemoryWorld) (piece : List ℕ)
    (result : Result (Unit {0}) Failed) : Type 0 where
  pub turn : TakesTurn before after
  pub only : IsErr result
      → IsSome (stop_of before) ⊎ (room_of before < length (cut (stop_of before) piece))
  pub stopped : IsSome (stop_of before) → IsErr result
  pub full : room_of before < length (cut (stop_of before) piece) → IsErr result
  pub took :
      OnErr result
      (after.complained.items
      ≡ before.complained.items ++ take (room_of before) (cut (stop_of before) piece))
