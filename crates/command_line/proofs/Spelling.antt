-- What stands behind the spelling of an option.
use Rattle.std.proofs.Common.{◌≡◌, ℕ, List, drop, length, true, false, Some, None, Option, Bor, ap}
use Rattle.std.proofs.Common.{◌∙◌, sym, subst, eqb, ◌∷◌, ◌+◌, ◌<◌, get_or}
use Rattle.std.proofs.lemmas.List.{at_drop_more}
use Rattle.std.specs.List.{starts_with}
use Rattle.std.specs.Option.{MatchOption, option_copied, option_or, option_map}
use Rattle.std.specs.Str.{IsCharBoundary}
use Rattle.std.specs.Str.Pattern.{FindsTextPrefix, StripsPrefix}
use Rattle.std.proofs.lemmas.Str.Pattern.{starts_text}
use Rattle.command_line.specs.declared.options.ValuePlace.TheVariants.{SameWord}
use Rattle.command_line.specs.declared.options.Setting.{Setting}
use Rattle.command_line.specs.Options.{row}
use Rattle.command_line.specs.Words.{behind_spelling, spelled_as}

-- what `strip_prefix` gives
pub prefix_stripped :
    (p w : List ℕ) (r : Option (Bor (List ℕ)))
    → MatchOption r (FindsTextPrefix p w None) (λ x. StripsPrefix (FindsTextPrefix p) w x.now)
    → option_copied r ≡ behind_spelling SameWord p w
prefix_stripped p w None h =
    let not_so : starts_with eqb w p ≡ false = sym (starts_text false p w h) in
    rw not_so
prefix_stripped p w (Some x) h =
    let at_end : IsCharBoundary w h.0 = subst (λ k. IsCharBoundary w k) (sym h.1.0) h.1.2 in
    let so : starts_with eqb w p ≡ true = sym (starts_text true p w (h.0, h.1, at_end)) in
    rw so (ap Some (h.2 ∙ ap (λ k. drop k w) h.1.0))

-- where a word is not spelled as one of the options, those behind it are left
pub spelled_more :
    (ss : List Setting) (d : Setting) (i : ℕ) (w : List ℕ) (whole : Option (Setting × List ℕ))
    → i < length ss
    → None ≡ behind_spelling (row (get_or ss i d)).place (row (get_or ss i d)).spelling w
    → spelled_as (drop i ss) w ≡ whole → spelled_as (drop (i + 1) ss) w ≡ whole
spelled_more ss d i w whole l none left =
    let here : spelled_as (drop i ss) w ≡ spelled_as (get_or ss i d ∷ drop (i + 1) ss) w =
    at_drop_more (λ (ts : List Setting). spelled_as ts w) ss i d l in
    let past : spelled_as (get_or ss i d ∷ drop (i + 1) ss) w ≡ spelled_as (drop (i + 1) ss) w =
    ap (λ (o : Option (List ℕ)). option_or (option_map (λ (v : List ℕ). (get_or ss i d, v)) o)
    (spelled_as (drop (i + 1) ss) w)) (sym none) in
    sym (here ∙ past) ∙ left
