-- Rows of the table of kinds whose parts have a name and a word.
use Rattle.std.specs.Prelude.{Bool, true, Option, Some, None}
use Rattle.c_model.specs.Kinds.{PartRow, word}

-- such parts, that refer to a type each or not
abbrev pub words : Bool → PartRow
words refers = record { named = true; refers = refers; value = word }

abbrev pub parts_by : Option Bool → Option PartRow
parts_by None = None
parts_by (Some refers) = Some (words refers)
