use Rattle.std.proofs.Common.{◌≡◌, ◌+◌, ◌++◌, ◌∷◌, [], List, length, sym, ap, ◌∙◌, refl, arith}
use Rattle.std.proofs.Common.{append_assoc, append-nil}
use Rattle.std.proofs.lemmas.List.{length_push}
use Rattle.dwarf_abbrev.specs.ValueMaps.{IsRun}
use Rattle.dwarf_abbrev.specs.declared.runs.FixedRun.{FixedRun}
use Rattle.dwarf_abbrev.proofs.Mapping.{are_more, are_none, empty_run}
use Rattle.dwarf_abbrev.proofs.runs.push_runs.Goals as goal

pub loop-index-init : goal.loop-index-init
loop-index-init c = record {
  here = empty_run c.args.specs.now 0;
  so_far = ([], sym (append-nil c.args.runs.now.items), are_none c.args.specs.now, refl);
}

pub loop-index-preserved : goal.loop-index-preserved
loop-index-preserved c =
    let old = c.loop-index.invariant.so_far in
    let here : IsRun c.args.specs.now (length old.0) c.loop-index.run =
    rw old.3 c.loop-index.invariant.here in
    record {
      here = c.next_run-run.ensures;
      so_far = (
        old.0 ++ c.loop-index.run ∷ [],
        c.in_ok-push.ensures.items ∙ ap (λ (rs : List FixedRun). rs ++ c.loop-index.run ∷ []) old.1
            ∙ append_assoc c.args.runs.now.items old.0 (c.loop-index.run ∷ []),
        are_more c.args.specs.now old.0 c.loop-index.run old.2 here,
        length_push old.0 c.loop-index.run ∙ ap (λ k. k + 1) old.3,
      );
    }

pub returns : goal.returns
returns c =
    let old = c.loop-index.invariant.so_far in
    let here : IsRun c.args.specs.now (length old.0) c.loop-index.run =
    rw old.3 c.loop-index.invariant.here in
    let is : c.loop-index.index ≡ length c.args.specs.now =
    omega (arith, c.loop-index-test.false, c.loop-index.auto.index-end) in (
      old.0 ++ c.loop-index.run ∷ [],
      c.in_ok-push-2.ensures.items ∙ ap (λ (rs : List FixedRun). rs ++ c.loop-index.run ∷ []) old.1
          ∙ append_assoc c.args.runs.now.items old.0 (c.loop-index.run ∷ []),
      (
        are_more c.args.specs.now old.0 c.loop-index.run old.2 here,
        length_push old.0 c.loop-index.run ∙ ap (λ k. k + 1) (old.3 ∙ is),
      ),
    )
