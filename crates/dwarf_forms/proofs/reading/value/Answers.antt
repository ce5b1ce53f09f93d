use Rattle.std.proofs.Common.{rules, Ok, Err}
use Rattle.dwarf_forms.specs.declared.fault.FormFault.TheVariants.{FormUnknown}
use Rattle.dwarf_forms.specs.Values.{value_of, within, given}
use Rattle.dwarf_forms.proofs.Standing.{reads}
use Rattle.dwarf_forms.proofs.reading.value.Goals as goal

pub returns-in_err-form-clause-reads : goal.returns-in_err-form-clause-reads
unfolding value_of
returns-in_err-form-clause-reads c =
    reads (within c.args.ctx.now) c.args.spec.now c.args.at _ (search rules)

pub returns-in_err-value-in-Some-clause-reads : goal.returns-in_err-value-in-Some-clause-reads
unfolding value_of
returns-in_err-value-in-Some-clause-reads c =
    reads (within c.args.ctx.now) c.args.spec.now c.args.at _ (search rules)

pub returns-in_ok-value-in-Some-clause-reads : goal.returns-in_ok-value-in-Some-clause-reads
unfolding value_of
returns-in_ok-value-in-Some-clause-reads c =
    reads (within c.args.ctx.now) c.args.spec.now c.args.at (Ok (
      given (record {
        form = c.in_ok-form.form;
        value = c.in_ok-value-in-Some.value;
      }),
      c.in_ok-value-in-Some.end,
    )) (search rules)

pub returns-in-None-clause-reads : goal.returns-in-None-clause-reads
unfolding value_of
returns-in-None-clause-reads c = reads (within c.args.ctx.now) c.args.spec.now c.args.at
    (Err (FormUnknown c.in_ok-form.form)) (search rules)
