-- What a world in memory tells: all of it.
use Rattle.std.specs.Prelude.{◌≡◌, List, [], Some}
use Rattle.world_io.specs.Meaning.{Meaning}
use Rattle.world_io.specs.declared.files.HeldFile.{HeldFile}
use Rattle.world_io.specs.declared.memory.MemoryWorld.{MemoryWorld}

abbrev pub meaning_of : MemoryWorld → Meaning
meaning_of w =
    record {
      files = Some w.files;
      printed = Some w.printed.items;
      complained = Some w.complained.items;
      stored = Some w.stored.items;
      calls = Some w.calls;
      loads = w.faults.loads;
      prints = w.faults.prints;
      complaints = w.faults.complaints;
      stores = w.faults.stores;
    }

-- the files are told, nothing is printed, complained or stored, and all numbers are 0
abbrev pub IsNew : List HeldFile → Meaning → Type 0
IsNew files w =
    w
    ≡ record {
      files = Some files;
      printed = Some [];
      complained = Some [];
      stored = Some [];
      calls = Some 0;
      loads = 0;
      prints = 0;
      complaints = 0;
      stores = 0;
    }
