use Rattle.std.proofs.Common.{ℕ, List, length, Bool, true, false, not, cond, eqb, Some, None}
use Rattle.std.proofs.Common.{is_some, ◌≡◌, refl, ap, ◌∙◌, lit<, rules, tests}
use Rattle.std.proofs.lemmas.Iterator.Splits.{YieldsList-from_str_split}
use Rattle.std.proofs.lemmas.Iterator.Search.{any_from_yields_List}
use Rattle.std.specs.List.{slice_split}
use Rattle.command_line.proofs.values.are_names.Goals as goal

not_none : (b : Bool) (x : List (List ℕ)) → not b ≡ is_some (cond b None (Some x))
not_none true x = refl
not_none false x = refl

pub returns : goal.returns
returns c =
    ap not
    (any_from_yields_List (λ (name : List ℕ). eqb (length name) 0) _ _ _ c.any.ensures.ran
    (YieldsList-from_str_split 44 c.args.value.now
    (lit< tt) c.split.ensures.text c.split.ensures.has_more c.split.ensures.pattern)
    (λ x b q k. search (rules, tests)))
    ∙ not_none _ (slice_split (λ b. eqb b 44) c.args.value.now)
