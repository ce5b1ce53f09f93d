use Rattle.std.proofs.Common.{◌≡◌, ◌++◌, ◌-◌, ◌∷◌, [], ℕ, List, length, Ok, refl, sym, ap, ◌∙◌, arith}
use Rattle.std.proofs.Common.{append_assoc, append-nil}
use Rattle.std.proofs.lemmas.Result.{err_from_is_err_and}
use Rattle.dw_base.proofs.Collecting.{goes_on, ends, fails, is_cut_off}
use Rattle.dwarf_abbrev.specs.Table.{spec_at, specs_of}
use Rattle.dwarf_abbrev.specs.declared.spec.Spec.{Spec}
use Rattle.dwarf_abbrev.specs.declared.fault.AbbrevFault.TheVariants.{AbbrevTruncated}
use Rattle.dwarf_abbrev.proofs.Faults.{fault_given}
use Rattle.dwarf_abbrev.proofs.pieces.read_specs.Goals as goal

pub loop-init : goal.loop-init
loop-init c =
    let all : length c.args.bytes.now - 0 ≡ length c.args.bytes.now = omega arith in
    ([], sym (append-nil c.args.specs.now.items), rw all refl)

pub returns-in_err-found : goal.returns-in_err-found
returns-in_err-found c =
    let p = err_from_is_err_and c.from_residual.result c.from_residual.ensures.1 in
    let total = specs_of c.args.bytes.now c.args.start c.args.at in
    rw (p.1, p.2) (fault_given c.in_err-found.field-0.0 total
    (fails (λ (place : ℕ) (seen : List Spec). spec_at c.args.bytes.now c.args.start place)
    (λ (place : ℕ). AbbrevTruncated c.args.start) (length c.args.bytes.now) c.loop.counter
    c.loop.at c.loop.invariant.0 c.in_err-found.field-0.0 total c.loop-test.true
    (sym c.in_err-found.ensures) c.loop.invariant.2))

pub returns-in-None : goal.returns-in-None
returns-in-None c =
    let e : spec_at c.args.bytes.now c.args.start c.loop.at
    ≡ Ok (c.in_ok-found.found, c.in_ok-found.after) = sym c.in_ok-found.ensures in (
      c.loop.invariant.0,
      c.loop.invariant.1,
      ends (λ (place : ℕ) (seen : List Spec). spec_at c.args.bytes.now c.args.start place)
          (λ (place : ℕ). AbbrevTruncated c.args.start) (length c.args.bytes.now) c.loop.counter
          c.loop.at c.in_ok-found.after c.loop.invariant.0 (specs_of c.args.bytes.now c.args.start
          c.args.at) c.loop-test.true (rw c.in-None.is at e) c.loop.invariant.2,
    )

pub loop-preserved : goal.loop-preserved
loop-preserved c =
    let e : spec_at c.args.bytes.now c.args.start c.loop.at
    ≡ Ok (c.in_ok-found.found, c.in_ok-found.after) = sym c.in_ok-found.ensures in
    let more = c.loop.invariant.0 in (
      more ++ c.in-Some.spec ∷ [],
      c.in_ok-push-in-Some.ensures.items
          ∙ ap (λ (ss : List Spec). ss ++ c.in-Some.spec ∷ []) c.loop.invariant.1
          ∙ append_assoc c.args.specs.now.items more (c.in-Some.spec ∷ []),
      goes_on (λ (place : ℕ) (seen : List Spec). spec_at c.args.bytes.now c.args.start place)
          (λ (place : ℕ). AbbrevTruncated c.args.start) (length c.args.bytes.now) c.loop.counter
          c.loop.at c.in_ok-found.after more c.in-Some.spec (specs_of c.args.bytes.now
          c.args.start c.args.at) c.loop-test.true (rw c.in-Some.is at e) c.loop.invariant.2,
    )

pub returns : goal.returns
returns c = is_cut_off (λ (place : ℕ) (seen : List Spec).
    spec_at c.args.bytes.now c.args.start place) (λ (place : ℕ). AbbrevTruncated c.args.start)
    (length c.args.bytes.now) c.loop.counter c.loop.at c.loop.invariant.0
    (specs_of c.args.bytes.now c.args.start c.args.at) c.loop-test.false c.loop.invariant.2
