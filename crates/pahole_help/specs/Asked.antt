-- What words ask of the program itself.
use Rattle.std.specs.Prelude.{ℕ, List, [], ◌∷◌, Option, None, Some, if◌then◌else◌, codes, drop}
use Rattle.std.specs.Prelude.{nat_eq}
use Rattle.std.specs.Borrow.{Bor}
use Rattle.std.specs.List.{starts_with}
use Rattle.std.specs.Option.{option_map, option_or}
use Rattle.std.specs.Str.{bytes_eq}
use Rattle.pahole_help.specs.declared.pages.Explanation.{Explanation}
use Rattle.pahole_help.specs.declared.pages.Pages.{Pages}
use Rattle.pahole_help.specs.declared.pages.Page.{Page}
use Rattle.pahole_help.specs.declared.pages.Page.TheVariants.{Text, Unexplained}

-- the text of a page, where there is one
abbrev pub found : Page → Option (List ℕ)
found (Text t) = Some t.now
found Unexplained = None

-- the text of the first explanation with a key
abbrev pub text_under : List Explanation → List ℕ → Option (List ℕ)
text_under [] key = None
text_under (e ∷ es) key = if bytes_eq e.key.now key then Some e.text.now else text_under es key

-- the text of the first explanation with a key in some tables
abbrev pub text_in : List (Bor (List Explanation)) → List ℕ → Option (List ℕ)
text_in [] key = None
text_in (t ∷ ts) key = option_or (text_under t.now key) (text_in ts key)

-- what stands behind `--explain=`, where a word begins so
abbrev pub behind_explain : List ℕ → Option (List ℕ)
behind_explain w =
    if starts_with nat_eq w (codes "--explain=") then Some (drop 10 w) else None

-- the page that a word asks for: a text, or none for a key that no explanation has; a word that
-- asks for no page is none of the program's own
abbrev pub page_of : Pages → List ℕ → Option (Option (List ℕ))
page_of pages w =
    if bytes_eq w (codes "--help") then Some (Some pages.help.now)
    else (if bytes_eq w (codes "--version") then Some (Some pages.version.now)
    else option_map (λ (key : List ℕ). text_in pages.explanations.now key) (behind_explain w))

-- the page that words ask for: by their only word
abbrev pub page_for : Pages → List (List ℕ) → Option (Option (List ℕ))
page_for pages [] = None
page_for pages (w ∷ []) = page_of pages w
page_for pages (w ∷ v ∷ ws) = None
