use Rattle.std.proofs.Common.{◌≡◌, ℕ, List, ◌++◌, ◌∷◌, [], None, Some, ap, sym, ◌∙◌}
use Rattle.btf_strings.specs.Names.{Names, offset_of}
use Rattle.btf_strings.proofs.Listed.{listed_after, with_known, with_new}
use Rattle.btf_strings.proofs.Offsets.{offset_appended, offset_kept}
use Rattle.btf_strings.proofs.strings.Strings.put.Goals as goal

-- the name as it was passed on
name_as_given : (c : goal.In-Some) → c.again.result ≡ c.args.name
name_as_given c = c.again.ensures

pub returns-in-Some-clause-list : goal.returns-in-Some-clause-list
returns-in-Some-clause-list c =
    listed_after c.args.self.now c.args.self.now c.args.name
    (with_known c.args.self.now c.args.name c.in-Some.at (ap (λ (n : List ℕ).
    offset_of c.args.self.now n) (sym (name_as_given c)) ∙ sym c.in-Some.ensures.value))

missing : (c : goal.In_ok-append) → offset_of c.args.self.now c.args.name ≡ None
missing c = ap (λ (n : List ℕ). offset_of c.args.self.now n)
    (sym c.again.ensures) ∙ sym c.offset_of.ensures.value ∙ c.in_default.is

appended : (c : goal.In_ok-append)
    → c.append.new.self ≡ record c.args.self.now { own = c.args.self.now.own ++ c.args.name ∷ [] }
appended c = c.in_ok-append.ensures.ok

pub returns-clause-offset : goal.returns-clause-offset
returns-clause-offset c =
    ap (λ (t : Names). offset_of t c.args.name) (appended c)
    ∙ offset_appended c.args.self.now c.args.name (missing c)
    ∙ ap (λ (n : ℕ). Some n) (sym c.next_offset-at.ensures)

pub returns-clause-list : goal.returns-clause-list
returns-clause-list c = listed_after c.args.self.now c.append.new.self c.args.name
    (appended c ∙ with_new c.args.self.now c.args.name (missing c))

pub returns-clause-kept : goal.returns-clause-kept
returns-clause-kept c = λ (other : List ℕ) (at : ℕ) (e : offset_of c.args.self.now other ≡ Some at).
    ap (λ (t : Names). offset_of t other) (appended c)
    ∙ offset_kept c.args.self.now c.args.name other at e
