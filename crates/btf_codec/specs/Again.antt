-- What was stored, and is read again.
use Rattle.std.specs.Prelude.{◌≡◌, ℕ, ◌<◌, List, slice_index, Option, None, Some, Ok, Err}
use Rattle.dw_base.specs.declared.numbers.Order.{Order}
use Rattle.c_model.specs.declared.graph.CType.{CType}
use Rattle.btf_codec.specs.Gives.{base_seen, table_over}
use Rattle.btf_codec.specs.Reading.{Before, Decoded, table_of}
use Rattle.btf_codec.specs.Spells.{Spells}
use Rattle.btf_codec.specs.declared.fault.BtfFault.TheVariants.{Memory}

-- a table that was read, as the one before another
abbrev pub before_decoded : Decoded → Before
before_decoded t = record { types = t.types; names = t.names }

-- a file without a base, read in whichever byte order it has, gives the types and the strings that
-- its bytes spell
abbrev pub StoredAloneIsRead : Type 0
StoredAloneIsRead =
    (order : Order) (own : List CType) (names bytes : List ℕ)
    → ((i : ℕ) → slice_index bytes i < 256) → Spells None order own names bytes
    → table_of None None bytes ≡ Ok (table_over None order own names)

-- a base that was read in a wanted byte order is the same, read in whichever it has; and a file
-- whose bytes spell types over it, read over it in its byte order, gives its types and then these
pub record IsReadOver (order : Order) (base bytes : List ℕ) (b : Decoded) (own : List CType)
    (names : List ℕ) : Type 0 where
  pub base_is : table_of None None base ≡ Ok b
  pub file_is : table_of (Some (before_decoded b)) (Some b.order) bytes
      ≡ Ok (table_over (Some (before_decoded b)) order own names)

abbrev pub StoredOverIsRead : Type 0
StoredOverIsRead =
    (order : Order) (base bytes : List ℕ) (b : Decoded) (own : List CType) (names : List ℕ)
    → ((i : ℕ) → slice_index bytes i < 256) → table_of None (Some order) base ≡ Ok b
    → Spells (base_seen (Some (before_decoded b))) order own names bytes
    → IsReadOver order base bytes b own names

-- no bytes are refused for want of memory
abbrev pub NoMemoryFault : Type 0
NoMemoryFault = (before : Option Before) (want : Option Order) (bytes : List ℕ)
    → table_of before want bytes ≡ Err Memory → ⊥
