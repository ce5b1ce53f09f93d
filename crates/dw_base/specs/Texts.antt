-- Texts in bytes: those up to a NUL (DWARF 5, section 7.5.5, the form string).
use Rattle.std.specs.Prelude.{ℕ, ◌==◌, ◌≢◌, All, List, [], ◌∷◌, drop, Option, None, Some}
use Rattle.std.specs.Prelude.{if◌then◌else◌}
use Rattle.std.specs.Option.{option_map}

-- the bytes before the first NUL, where there is one
unfoldable pub text_from : List ℕ → Option (List ℕ)
text_from [] = None
text_from (b ∷ bs) =
    if b == 0 then Some [] else option_map (λ (rest : List ℕ). b ∷ rest) (text_from bs)

-- the text at a place
unfoldable pub text_of : List ℕ → ℕ → Option (List ℕ)
text_of bytes at = text_from (drop at bytes)

-- no byte of a text is NUL, so that it can stand in a section of texts
abbrev pub HasNoNul : List ℕ → Type 0
HasNoNul text = All (λ (byte : ℕ). byte ≢ 0) text
