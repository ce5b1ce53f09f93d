use Rattle.std.proofs.Common.{◌≡◌, [], ℕ, List, Result, Err, rules, subst, sym, IfErr, ◌⊎◌, Some}
use Rattle.std.specs.Option.{option_copied}
use Rattle.std.proofs.lemmas.List.{take_all}
use Rattle.c_model.specs.declared.graph.CType.{CType}
use Rattle.btf_strings.specs.Names.{Names}
use Rattle.split_base.specs.declared.fault.TableFault.{TableFault}
use Rattle.split_base.specs.declared.fault.TableFault.TheVariants.{Memory}
use Rattle.split_base.specs.Refusals.{names_in, names_of_type, names_refusal, no_strings}
use Rattle.split_base.specs.Building.{ArePut}
use Rattle.split_base.proofs.Naming.{put_none, put_more, type_names_more, strings_put, offsets_put}
use Rattle.split_base.proofs.Naming.{names_stop}
use Rattle.split_base.proofs.names.put_names.Goals as goal

pub loop-t-init : goal.loop-t-init
loop-t-init c = subst (λ (s : Names). ArePut (no_strings (option_copied c.args.base)) [] s)
    (sym c.in_ok-strings.ensures) (put_none (no_strings (option_copied c.args.base)))

pub returns-in_err-put_type_names-clause-refusal : goal.returns-in_err-put_type_names-clause-refusal
returns-in_err-put_type_names-clause-refusal c =
    let gone : c.from_residual-in_err-put_type_names.result
    ≡ Err c.in_err-put_type_names.field-0.0 = search rules in
    subst (λ (r : Result Names TableFault). IfErr r (λ (e : TableFault). (e ≡ Memory)
    ⊎ (names_refusal (option_copied c.args.base) c.args.types.now ≡ Some e))) (sym gone)
    (names_stop (option_copied c.args.base) c.loop-t.strings c.args.types.now c.loop-t.t-index
    c.t-item.result c.in_err-put_type_names.field-0.0 c.loop-t-test.true c.t-item.is
    c.loop-t.invariant c.in_err-put_type_names.ensures)

pub loop-t-preserved : goal.loop-t-preserved
loop-t-preserved c =
    subst (λ (ns : List (List ℕ)).
    ArePut (no_strings (option_copied c.args.base)) ns c.put_type_names.new.strings)
    (sym (type_names_more c.args.types.now c.loop-t.t-index c.t-item.result c.loop-t-test.true))
    (put_more (no_strings (option_copied c.args.base)) c.loop-t.strings c.put_type_names.new.strings
    _ _ c.loop-t.invariant
    (subst (λ (t : CType). ArePut c.loop-t.strings (names_of_type t) c.put_type_names.new.strings)
    c.t-item.is c.in_ok-put_type_names.ensures))

pub returns-clause-strings : goal.returns-clause-strings
returns-clause-strings c = strings_put (option_copied c.args.base) c.args.types.now c.loop-t.strings
    (subst (λ (ts : List CType).
    ArePut (no_strings (option_copied c.args.base)) (names_in ts) c.loop-t.strings)
    (take_all c.loop-t.t-index c.args.types.now c.loop-t-test.false) c.loop-t.invariant)

pub returns-clause-offsets : goal.returns-clause-offsets
returns-clause-offsets c =
    offsets_put (no_strings (option_copied c.args.base)) c.loop-t.strings c.args.types.now
    (subst (λ (ts : List CType).
    ArePut (no_strings (option_copied c.args.base)) (names_in ts) c.loop-t.strings)
    (take_all c.loop-t.t-index c.args.types.now c.loop-t-test.false) c.loop-t.invariant)
