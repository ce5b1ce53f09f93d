use Rattle.std.proofs.Common.{◌≡◌, ℕ, List, length, Some, IfSome, ap, sym, ◌∙◌, subst, arith}
use Rattle.std.specs.Option.{option_copied}
use Rattle.std.proofs.lemmas.List.{nil_from_length}
use Rattle.std.proofs.lemmas.Bool.{eqb-true, eqb-false}
use Rattle.btf_strings.specs.Names.{Names, offset_of}
use Rattle.btf_strings.specs.Kept.{IsSection}
use Rattle.btf_strings.proofs.Keeping.{found_in_base, found_in_own}
use Rattle.btf_strings.proofs.Offsets.{empty_offset, text_if_some}
use Rattle.btf_strings.proofs.strings.Strings.offset_of.Goals as goal

pub returns-then-is_empty-clause-value : goal.returns-then-is_empty-clause-value
returns-then-is_empty-clause-value c =
    let n : length c.bytes-bytes.result.now ≡ 0 = eqb-true (length c.bytes-bytes.result.now) 0
    (sym c.is_empty.ensures ∙ c.if-is_empty.true) in
    sym (empty_offset c.args.self.now c.args.name
    (sym c.bytes-bytes.ensures ∙ nil_from_length c.bytes-bytes.result.now n))

pub returns-then-is_empty-clause-text : goal.returns-then-is_empty-clause-text
returns-then-is_empty-clause-text c =
    text_if_some c.args.self.now c.args.name (Some 0)
    (subst (λ (t : Names). IfSome t.base IsSection) c.self.view_is c.self.invariant.section)
    (returns-then-is_empty-clause-value c)

pub returns-in-Some-clause-value : goal.returns-in-Some-clause-value
returns-in-Some-clause-value c =
    let n : length c.bytes-bytes.result.now ≡ 0 → ⊥ = eqb-false (length c.bytes-bytes.result.now) 0
    (sym c.is_empty.ensures ∙ c.if-is_empty.false) in
    let same : length c.bytes-bytes.result.now ≡ length c.args.name =
    ap (λ (xs : List ℕ). length xs) c.bytes-bytes.ensures in
    found_in_base
    (option_copied c.self.inside.base) c.self.inside.base_offsets.entries c.self.inside.own.items
    c.self.inside.places.entries c.args.name c.in-Some.at.now c.self.invariant (omega arith)
    (sym c.in-Some.ensures.value)
    ∙ ap (λ (t : Names). offset_of t c.args.name) c.self.view_is

pub returns-in-Some-clause-text : goal.returns-in-Some-clause-text
returns-in-Some-clause-text c =
    text_if_some c.args.self.now c.args.name (Some c.in-Some.at.now)
    (subst (λ (t : Names). IfSome t.base IsSection) c.self.view_is c.self.invariant.section)
    (returns-in-Some-clause-value c)

pub returns-in-None-clause-value : goal.returns-in-None-clause-value
returns-in-None-clause-value c =
    let n : length c.bytes-bytes.result.now ≡ 0 → ⊥ = eqb-false (length c.bytes-bytes.result.now) 0
    (sym c.is_empty.ensures ∙ c.if-is_empty.false) in
    let same : length c.bytes-bytes.result.now ≡ length c.args.name =
    ap (λ (xs : List ℕ). length xs) c.bytes-bytes.ensures in
    c.copied.ensures
    ∙ c.get-in-None.ensures.value
    ∙ found_in_own (option_copied c.self.inside.base) c.self.inside.base_offsets.entries
    c.self.inside.own.items c.self.inside.places.entries c.args.name c.self.invariant
    (omega arith)
    (sym c.in-None.ensures.value)
    ∙ ap (λ (t : Names). offset_of t c.args.name) c.self.view_is

pub returns-in-None-clause-text : goal.returns-in-None-clause-text
returns-in-None-clause-text c =
    text_if_some c.args.self.now c.args.name c.copied.result
    (subst (λ (t : Names). IfSome t.base IsSection) c.self.view_is c.self.invariant.section)
    (returns-in-None-clause-value c)
