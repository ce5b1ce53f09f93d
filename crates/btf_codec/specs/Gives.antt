-- What a call of the reader answers, against what reading gives.
use Rattle.std.specs.Prelude.{◌≡◌, ℕ, ◌*◌, ◌-◌, ◌<◌, ◌^◌, List, length, slice_get, ◌++◌}
use Rattle.std.specs.Prelude.{slice_index, Option, None, Some, Result, Ok, Err, ⊤}
use Rattle.btf_codec.specs.Reading.{Before, Decoded, types_before, layout_in, type_width, vlen_in}
use Rattle.btf_codec.specs.Reading.{word_in}
use Rattle.btf_codec.specs.declared.fault.BtfFault.{BtfFault}
use Rattle.btf_codec.specs.declared.fault.BtfFault.TheVariants.{Memory}
use Rattle.btf_codec.specs.declared.format.TheConstants.{INFO}
use Rattle.btf_codec.specs.declared.layout.KindLayout.{KindLayout}
use Rattle.c_model.specs.Graph.{RefersWithin}
use Rattle.c_model.specs.declared.graph.CType.{CType}
use Rattle.btf_codec.specs.declared.table.Table.{Table}
use Rattle.btf_codec.specs.Spells.{Base}
use Rattle.dw_base.specs.declared.numbers.Order.{Order}

-- the answer, seen by a view
abbrev pub map_ok : {A B : Type 0} → (A → B) → Result A BtfFault → Result B BtfFault
map_ok view (Ok x) = Ok (view x)
map_ok view (Err e) = Err e

-- the same where memory can run out
abbrev pub Fails : {Y : Type 0} → BtfFault → Result Y BtfFault → Type 0
Fails Memory read = ⊤
Fails e read = read ≡ Err e

abbrev pub Gives : {X Y : Type 0} → (X → Y) → Result X BtfFault → Result Y BtfFault → Type 0
Gives view (Ok x) read = read ≡ Ok (view x)
Gives view (Err e) read = Fails e read

-- a fault, if there is one
abbrev pub unless : Option BtfFault → Result (Unit {0}) BtfFault
unless None = Ok tt
unless (Some fault) = Err fault

-- a piece has the words of its layout
pub record IsPiece (order : Order) (piece : List ℕ) : Type 0 where
  pub layout : KindLayout
  pub laid : layout_in (word_in order piece) ≡ Some layout
  pub long : length piece ≡ 4 * type_width layout (vlen_in (word_in order piece INFO))

-- a string section that isn't empty ends with NUL
abbrev pub EndsWithNul : List ℕ → Type 0
EndsWithNul names = 0 < length names → slice_index names (length names - 1) ≡ 0

-- a table that can stand before another one: without a base, of few types that refer to one
-- another, with strings that begin and end with NUL
pub record IsBefore (table : Table) : Type 0 where
  pub base : table.base ≡ 0
  pub few : length table.types < 2 ^ 31
  pub within : RefersWithin (length table.types) table.types
  pub short : length table.names.now < 2 ^ 32
  pub begins : slice_get table.names.now 0 ≡ Some 0
  pub ends : EndsWithNul table.names.now

abbrev pub before_of : Table → Before
before_of t = record { types = t.types; names = t.names.now }

abbrev pub decoded_of : Table → Decoded
decoded_of t = record { order = t.order; base = t.base; types = t.types; names = t.names.now }

-- the table that the own types and strings go on from
abbrev pub base_seen : Option Before → Option Base
base_seen None = None
base_seen (Some before) = Some (record { types = length before.types; names = before.names })

-- the table of own types and strings over the one before
abbrev pub table_over : Option Before → Order → List CType → List ℕ → Decoded
table_over before order own names = record {
  order = order;
  base = length (types_before before);
  types = types_before before ++ own;
  names = names;
}
