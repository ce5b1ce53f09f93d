use Rattle.std.proofs.Common.{◌≡◌, ◌∷◌, ◌∙◌, false, ap, sym, subst}
use Rattle.dwarf_forms.specs.Meanings.{sections}
use Rattle.type_attributes.specs.Scopes.{scope}
use Rattle.c_types.specs.declared.open.OpenType.{OpenType}
use Rattle.c_types.specs.declared.open.OpenStructure.{OpenStructure}
use Rattle.c_types.specs.declared.open.OpenFunction.{OpenFunction}
use Rattle.c_types.specs.declared.open.OpenEnumeration.{OpenEnumeration}
use Rattle.c_types.specs.declared.open.OpenArray.{OpenArray}
use Rattle.c_types.specs.Opened.{kept_made, kept_refused, structure_made, structure_refused}
use Rattle.c_types.specs.Opened.{function_made, function_refused, enumeration_made}
use Rattle.c_types.specs.Opened.{enumeration_refused, array_made, array_refused}
use Rattle.c_types.proofs.OpenStructures.{structure_met, structure_met_refused}
use Rattle.c_types.proofs.OpenFunctions.{function_met, function_met_refused}
use Rattle.c_types.proofs.OpenEnumerations.{enumeration_met, enumeration_met_refused}
use Rattle.c_types.proofs.OpenArrays.{array_met, array_met_refused}
use Rattle.c_types.specs.Pointers.{is_tag_entry}
use Rattle.c_types.specs.Walking.{own_of}
use Rattle.c_types.proofs.OpenPointers.{pointer_passes}
use Rattle.c_types.proofs.walking.meet_child.Goals as goal

pub returns-in_ok-meet_structure-in-Structure-clause-made :
    goal.returns-in_ok-meet_structure-in-Structure-clause-made
returns-in_ok-meet_structure-in-Structure-clause-made c = λ kids.
    structure_met (scope c.args.ctx.now)
    c.args.child.now _ _ kids c.in_ok-meet_structure-in-Structure.ensures
    ∙ ap (λ (o : OpenStructure). structure_made (scope c.args.ctx.now) o (c.args.child.now ∷ kids))
    c.deref_mut.ensures.value
    ∙ ap (λ (k : OpenType). kept_made (scope c.args.ctx.now) k (c.args.child.now ∷ kids))
    (sym c.in-Structure.is)

pub returns-in_ok-meet_structure-in-Structure-clause-refused :
    goal.returns-in_ok-meet_structure-in-Structure-clause-refused
returns-in_ok-meet_structure-in-Structure-clause-refused c = λ kids.
    structure_met_refused (scope c.args.ctx.now)
    c.args.child.now _ _ kids c.in_ok-meet_structure-in-Structure.ensures
    ∙ ap (λ (o : OpenStructure). structure_refused (scope c.args.ctx.now) o (c.args.child.now ∷ kids))
    c.deref_mut.ensures.value
    ∙ ap (λ (k : OpenType). kept_refused (scope c.args.ctx.now) k
    (c.args.child.now ∷ kids)) (sym c.in-Structure.is)

pub returns-in_ok-meet_function-in-Function-clause-made :
    goal.returns-in_ok-meet_function-in-Function-clause-made
returns-in_ok-meet_function-in-Function-clause-made c = λ kids.
    function_met (sections c.args.ctx.now.form)
    c.args.child.now _ _ kids c.in_ok-meet_function-in-Function.ensures
    ∙ ap (λ (o : OpenFunction). function_made (sections c.args.ctx.now.form) o (c.args.child.now ∷ kids))
    c.deref_mut-in-Function.ensures.value
    ∙ ap (λ (k : OpenType). kept_made (scope c.args.ctx.now) k (c.args.child.now ∷ kids))
    (sym c.in-Function.is)

pub returns-in_ok-meet_function-in-Function-clause-refused :
    goal.returns-in_ok-meet_function-in-Function-clause-refused
returns-in_ok-meet_function-in-Function-clause-refused c = λ kids.
    function_met_refused (sections c.args.ctx.now.form)
    c.args.child.now _ _ kids c.in_ok-meet_function-in-Function.ensures
    ∙ ap (λ (o : OpenFunction). function_refused (sections c.args.ctx.now.form) o (c.args.child.now ∷ kids))
    c.deref_mut-in-Function.ensures.value
    ∙ ap (λ (k : OpenType). kept_refused (scope c.args.ctx.now) k
    (c.args.child.now ∷ kids)) (sym c.in-Function.is)

pub returns-in_ok-meet_enumeration-in-Enumeration-clause-made :
    goal.returns-in_ok-meet_enumeration-in-Enumeration-clause-made
returns-in_ok-meet_enumeration-in-Enumeration-clause-made c = λ kids.
    enumeration_met (sections c.args.ctx.now.form)
    c.args.child.now _ _ kids c.in_ok-meet_enumeration-in-Enumeration.ensures
    ∙ ap (λ (o : OpenEnumeration). enumeration_made (sections c.args.ctx.now.form) o (c.args.child.now ∷ kids))
    c.deref_mut-in-Enumeration.ensures.value
    ∙ ap (λ (k : OpenType). kept_made (scope c.args.ctx.now) k (c.args.child.now ∷ kids))
    (sym c.in-Enumeration.is)

pub returns-in_ok-meet_enumeration-in-Enumeration-clause-refused :
    goal.returns-in_ok-meet_enumeration-in-Enumeration-clause-refused
returns-in_ok-meet_enumeration-in-Enumeration-clause-refused c = λ kids.
    enumeration_met_refused (sections c.args.ctx.now.form)
    c.args.child.now _ _ kids c.in_ok-meet_enumeration-in-Enumeration.ensures
    ∙ ap (λ (o : OpenEnumeration). enumeration_refused (sections c.args.ctx.now.form) o (c.args.child.now ∷ kids))
    c.deref_mut-in-Enumeration.ensures.value
    ∙ ap (λ (k : OpenType). kept_refused (scope c.args.ctx.now) k
    (c.args.child.now ∷ kids)) (sym c.in-Enumeration.is)

pub returns-in-Array-clause-made : goal.returns-in-Array-clause-made
returns-in-Array-clause-made c = λ kids.
    array_met c.args.child.now c.deref_mut-in-Array.result.now c.meet_array.new.parent kids
    c.meet_array.ensures.lengths c.meet_array.ensures.at c.meet_array.ensures.target
    ∙ ap (λ (o : OpenArray). array_made o (c.args.child.now ∷ kids)) c.deref_mut-in-Array.ensures.value
    ∙ ap (λ (k : OpenType). kept_made (scope c.args.ctx.now) k (c.args.child.now ∷ kids))
    (sym c.in-Array.is)

pub returns-in-Array-clause-refused : goal.returns-in-Array-clause-refused
returns-in-Array-clause-refused c = λ kids.
    array_met_refused c.args.child.now c.deref_mut-in-Array.result.now c.meet_array.new.parent kids
    c.meet_array.ensures.lengths c.meet_array.ensures.at c.meet_array.ensures.least
    ∙ ap (λ (o : OpenArray). array_refused o (c.args.child.now ∷ kids)) c.deref_mut-in-Array.ensures.value
    ∙ ap (λ (k : OpenType). kept_refused (scope c.args.ctx.now) k
    (c.args.child.now ∷ kids)) (sym c.in-Array.is)

pub returns-in-Pointer-clause-made : goal.returns-in-Pointer-clause-made
returns-in-Pointer-clause-made c = λ kids.
    let untagged = subst (λ (k : OpenType). is_tag_entry (sections c.args.ctx.now.form) (own_of k)
    c.args.child.now ≡ false) c.in-Pointer.is c.requires.untagged in
    ap (λ (k : OpenType). kept_made (scope c.args.ctx.now) k kids) c.in-Pointer.is ∙ pointer_passes
    (sections c.args.ctx.now.form) c.args.child.now _ kids untagged
    ∙ ap (λ (k : OpenType). kept_made (scope c.args.ctx.now) k (c.args.child.now ∷ kids))
    (sym c.in-Pointer.is)

pub returns-in-Pointer-clause-refused : goal.returns-in-Pointer-clause-refused
returns-in-Pointer-clause-refused c = λ kids.
    ap (λ (k : OpenType). kept_refused (scope c.args.ctx.now) k kids) c.in-Pointer.is ∙ ap
    (λ (k : OpenType). kept_refused (scope c.args.ctx.now) k (c.args.child.now ∷ kids))
    (sym c.in-Pointer.is)
