use Rattle.std.proofs.Common.{ℕ, List, [], ◌∷◌, ◌&&◌, ◌≡◌, refl, ap, ◌∙◌, rules, tests}
use Rattle.std.proofs.lemmas.Iterator.Adapters.{YieldsList-from_bytes}
use Rattle.std.proofs.lemmas.Iterator.Search.{all_from_yields_List}
use Rattle.std.specs.Char.{is_ascii_digit}
use Rattle.std.specs.List.{list_all}
use Rattle.std.specs.Str.{all_ascii_digits}
use Rattle.command_line.proofs.values.are_digits.Goals as goal

all_by_list : (bs : List ℕ) → list_all is_ascii_digit bs ≡ all_ascii_digits bs
all_by_list [] = refl
all_by_list (b ∷ bs) = ap (λ r. is_ascii_digit b && r) (all_by_list bs)

pub returns : goal.returns
returns c =
    all_from_yields_List is_ascii_digit _ _ _ c.all.ensures.ran
    (YieldsList-from_bytes c.args.value.now c.bytes.ensures.rest)
    (λ x b q k. search (rules, tests)) ∙ all_by_list c.args.value.now
