-- Pieces of text.
use Rattle.std.specs.Prelude.{ℕ, ◌-◌, List, [], ◌∷◌, ◌++◌, decimal, replicate, length, nat_lt}
use Rattle.std.specs.Prelude.{if◌then◌else◌}
use Rattle.layout_printer.specs.declared.pieces.LinePiece.{LinePiece}
use Rattle.layout_printer.specs.declared.pieces.LinePiece.TheVariants.{Text, Left, Number, Wide}
use Rattle.layout_printer.specs.declared.pieces.LinePiece.TheVariants.{Right}

-- so many spaces
abbrev pub spaces : ℕ → List ℕ
spaces n = replicate n 32

-- bytes, and spaces up to a width behind them
abbrev pub left : List ℕ → ℕ → List ℕ
left bytes width = bytes ++ spaces (width - length bytes)

-- a number, and spaces up to a width before it
abbrev pub right : ℕ → ℕ → List ℕ
right number width = spaces (width - length (decimal number)) ++ decimal number

-- a count between two texts; nothing where it is 0
abbrev pub count_text : List ℕ → ℕ → List ℕ → List ℕ
count_text before count after = if nat_lt 0 count then before ++ (decimal count ++ after) else []

abbrev pub text_of : LinePiece → List ℕ
text_of (Text bytes) = bytes.now
text_of (Left bytes width) = left bytes.now width
text_of (Number n) = decimal n
text_of (Wide n) = decimal n
text_of (Right n width) = right n width

abbrev pub texts : List LinePiece → List ℕ
texts [] = []
texts (p ∷ ps) = text_of p ++ texts ps
