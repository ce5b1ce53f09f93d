use Rattle.std.proofs.Common.{◌≡◌, ℕ, List, Some, refl, ap, arith}
use Rattle.dw_base.specs.Texts.{text_of}
use Rattle.dw_base.proofs.Texts.{text_within}
use Rattle.btf_strings.specs.Names.{least_below}
use Rattle.btf_strings.specs.Kept.{value_of}
use Rattle.btf_strings.proofs.Index.{index_push, all_indexed}
use Rattle.btf_strings.proofs.strings.index_of.Goals as goal

pub loop-name-init : goal.loop-name-init
unfolding least_below
loop-name-init c = record {
  within = omega arith;
  begins = refl;
  index = λ (name : List ℕ).
      ap (λ (es : List (List ℕ × ℕ)). value_of name es) c.no_offsets-base_offsets.ensures;
}

pub overflow_cast-at : goal.overflow_cast-at
overflow_cast-at c =
    let e : text_of c.args.section.now c.loop-name.at ≡ Some c.bytes-text.result.now = cc in
    omega (arith, text_within c.args.section.now c.loop-name.at c.bytes-text.result.now e)

pub overflow_add-at : goal.overflow_add-at
overflow_add-at c =
    let e : text_of c.args.section.now c.loop-name.at ≡ Some c.bytes-text.result.now = cc in
    omega (arith, text_within c.args.section.now c.loop-name.at c.bytes-text.result.now e)

pub overflow_add-at-in-Some : goal.overflow_add-at-in-Some
overflow_add-at-in-Some c =
    let e : text_of c.args.section.now c.loop-name.at ≡ Some c.bytes-text.result.now = cc in
    omega (arith, text_within c.args.section.now c.loop-name.at c.bytes-text.result.now e)

pub loop-name-smaller : goal.loop-name-smaller
loop-name-smaller c =
    let e : text_of c.args.section.now c.loop-name.at ≡ Some c.bytes-text.result.now = cc in
    omega (arith, text_within c.args.section.now c.loop-name.at c.bytes-text.result.now e)

pub loop-name-preserved : goal.loop-name-preserved
loop-name-preserved c =
    let e : text_of c.args.section.now c.loop-name.at ≡ Some c.bytes-text.result.now = cc in
    index_push c.args.section.now c.bytes-text.result.now c.loop-name.at
    c.loop-name.base_offsets.entries c.note.new.base_offsets.entries e
    c.loop-name.invariant (rw c.bytes-text.ensures c.in_ok-note.ensures)

pub returns : goal.returns
returns c = all_indexed c.args.section.now c.loop-name.at c.loop-name.base_offsets.entries
    (cc) c.loop-name.invariant
