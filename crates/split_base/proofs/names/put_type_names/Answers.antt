use Rattle.std.proofs.Common.{◌≡◌, ◌+◌, ◌∷◌, [], ℕ, List, Result, Err, map, drop, get_or, rules}
use Rattle.std.proofs.Common.{subst, sym, ap, ◌∙◌}
use Rattle.c_model.specs.declared.label.Part.{Part}
use Rattle.split_base.specs.declared.fault.TableFault.{TableFault}
use Rattle.split_base.specs.Refusals.{names_of_type}
use Rattle.split_base.specs.Building.{ArePut, PutsNames}
use Rattle.split_base.proofs.Naming.{put_none, put_more, put_stops, part_names_more}
use Rattle.split_base.proofs.Naming.{part_names_rest}
use Rattle.split_base.proofs.names.put_type_names.Goals as goal

pub returns-in_err-put_name : goal.returns-in_err-put_name
returns-in_err-put_name c =
    let gone : c.from_residual.result ≡ Err c.in_err-put_name.field-0.0 = search rules in
    let name : c.again.result ≡ c.args.t.now.label.name = c.again.ensures in
    subst (λ (r : Result (Unit {0}) TableFault). PutsNames c.args.strings.now
    (names_of_type c.args.t.now) c.put_name.new.strings r) (sym gone)
    (put_stops c.args.strings.now c.args.strings.now [] (c.args.t.now.label.name ∷ [])
    (map (λ (p : Part). p.name) c.args.t.now.label.parts) c.in_err-put_name.field-0.0
    (put_none c.args.strings.now) (rw name at c.in_err-put_name.ensures))

pub returns-in_err-put_name-2 : goal.returns-in_err-put_name-2
returns-in_err-put_name-2 c =
    let gone : c.from_residual-in_err-put_name-2.result ≡ Err c.in_err-put_name-2.field-0.0 =
    search rules in
    let parts : List Part = c.items-part-items.result.now in
    let i : ℕ = c.loop-part.part-index in
    let name : c.again-in-loop-part.result ≡ (get_or parts i c.part-item.result).name =
    c.again-in-loop-part.ensures
    ∙ ap (λ (p : Part). p.name) c.part-item.is in
    let whole : names_of_type c.args.t.now ≡ _ =
    ap (λ (ps : List Part). c.args.t.now.label.name ∷ map (λ (p : Part). p.name) ps)
    (sym c.items-part-items.ensures)
    ∙ part_names_rest c.args.t.now.label.name parts i c.part-item.result c.loop-part-test.true in
    subst (λ (r : Result (Unit {0}) TableFault). PutsNames c.args.strings.now
    (names_of_type c.args.t.now) c.put_name-in-loop-part.new.strings r) (sym gone)
    (rw whole
    (put_stops c.args.strings.now c.loop-part.strings _ ((get_or parts i c.part-item.result).name
    ∷ []) (map (λ (p : Part). p.name) (drop (i + 1) parts)) c.in_err-put_name-2.field-0.0
    c.loop-part.invariant (rw name at c.in_err-put_name-2.ensures)))

pub loop-part-preserved : goal.loop-part-preserved
loop-part-preserved c =
    let parts : List Part = c.items-part-items.result.now in
    let i : ℕ = c.loop-part.part-index in
    let name : c.again-in-loop-part.result ≡ (get_or parts i c.part-item.result).name =
    c.again-in-loop-part.ensures
    ∙ ap (λ (p : Part). p.name) c.part-item.is in
    subst (λ (ns : List (List ℕ)).
    ArePut c.args.strings.now ns c.put_name-in-loop-part.new.strings) (sym
    (part_names_more c.args.t.now.label.name parts i c.part-item.result c.loop-part-test.true))
    (put_more c.args.strings.now c.loop-part.strings c.put_name-in-loop-part.new.strings _
    ((get_or parts i c.part-item.result).name ∷ []) c.loop-part.invariant
    (rw name at c.in_ok-put_name-2.ensures))
