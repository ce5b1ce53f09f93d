use Rattle.std.proofs.Common.{◌≡◌, ◌-◌, List, All, length, take, drop, rules, sym, subst, ◌∙◌}
use Rattle.std.proofs.Common.{Result, Err, IfErr, ◌⊎◌, Some, inr}
use Rattle.std.specs.Option.{option_copied}
use Rattle.btf_codec.specs.Spelling.{HasOffsets}
use Rattle.btf_codec.specs.declared.table.TableOut.{TableOut}
use Rattle.c_model.specs.Graph.{RefersWithin}
use Rattle.c_model.specs.Kinds.{IsWellFormed}
use Rattle.c_model.specs.declared.graph.CType.{CType}
use Rattle.split_base.specs.declared.fault.TableFault.{TableFault}
use Rattle.split_base.specs.declared.fault.TableFault.TheVariants.{Memory}
use Rattle.split_base.specs.Table.{own_types, table_of}
use Rattle.split_base.specs.Refusals.{names_refusal, table_refusal}
use Rattle.split_base.proofs.Owning.{own_drop, own_slice, own_within, own_formed, refused_types}
use Rattle.split_base.proofs.Owning.{refused_names, refused_length, not_refused}
use Rattle.split_base.proofs.table.build.Given.{Over}
use Rattle.split_base.proofs.table.build.Goals.{After-deref, After-new}
use Rattle.split_base.proofs.table.build.Goals as goal

-- the types whose names are put are the own ones
own_given : (b : Over) (c : After-deref b) → take (length c.deref.result.now - c.base-base.result)
    (drop c.base-base.result c.deref.result.now)
    ≡ own_types (b.G.TypeGraph.shape c.args.graph.now) c.args.classes.now
own_given b c =
    own_slice (b.G.TypeGraph.shape c.args.graph.now) c.args.classes.now c.requires.covers
    c.base-base.ensures.sound.fits c.base-base.result c.deref.result.now
    c.base-base.ensures.base (c.deref.ensures.value ∙ c.in_ok-types.ensures.table)

-- behind the base the table has the own types
own_made : (b : Over) (c : After-new b) → drop c.base-base.result c.new.result
    ≡ own_types (b.G.TypeGraph.shape c.args.graph.now) c.args.classes.now
own_made b c =
    own_drop (b.G.TypeGraph.shape c.args.graph.now) c.args.classes.now c.requires.covers
    c.base-base.ensures.sound.fits c.base-base.result c.new.result c.base-base.ensures.base
    (c.new.ensures ∙ c.in_ok-types.ensures.table)

pub returns-in_err-types-clause-refusal : goal.returns-in_err-types-clause-refusal
returns-in_err-types-clause-refusal b c =
    let gone : c.from_residual.result ≡ Err c.in_err-types.field-0.0 = search rules in
    subst (λ (r : Result TableOut TableFault).
    IfErr r (λ (e : TableFault). (e ≡ Memory) ⊎ (table_refusal (option_copied c.args.base_names)
    (b.G.TypeGraph.shape c.args.graph.now) c.args.classes.now ≡ Some e))) (sym gone)
    (refused_types (option_copied c.args.base_names) (b.G.TypeGraph.shape c.args.graph.now)
    c.args.classes.now c.in_err-types.field-0.0 c.in_err-types.ensures.refusal)

pub returns-in_err-strings-clause-refusal : goal.returns-in_err-strings-clause-refusal
returns-in_err-strings-clause-refusal b c =
    let gone : c.from_residual-in_err-strings.result ≡ Err c.in_err-strings.field-0.0 =
    search rules in
    let own = own_given b (goal.at.returns-in_err-strings-clause-refusal b c).After-deref in
    subst (λ (r : Result TableOut TableFault).
    IfErr r (λ (e : TableFault). (e ≡ Memory) ⊎ (table_refusal (option_copied c.args.base_names)
    (b.G.TypeGraph.shape c.args.graph.now) c.args.classes.now ≡ Some e))) (sym gone)
    (refused_names (option_copied c.args.base_names) (b.G.TypeGraph.shape c.args.graph.now)
    c.args.classes.now c.in_err-strings.field-0.0 c.in_ok-types.ensures.accepted
    (subst (λ (ts : List CType). (c.in_err-strings.field-0.0 ≡ Memory)
    ⊎ (names_refusal (option_copied c.args.base_names) ts ≡ Some c.in_err-strings.field-0.0))
    own c.in_err-strings.ensures.refusal))

pub check_length-requires-clause-formed : goal.check_length-requires-clause-formed
check_length-requires-clause-formed b c =
    let own = own_given b (goal.at.check_length-requires-clause-formed b c).After-deref in
    subst (All IsWellFormed) (sym own) (own_formed (b.G.TypeGraph.shape c.args.graph.now)
    c.args.classes.now c.requires.covers c.base-base.ensures.sound.fits c.requires.well)

pub returns-in_err-check_length-clause-refusal : goal.returns-in_err-check_length-clause-refusal
returns-in_err-check_length-clause-refusal b c =
    let gone : c.from_residual-in_err-check_length.result ≡ Err c.in_err-check_length.field-0.0 =
    search rules in
    let own = own_given b (goal.at.returns-in_err-check_length-clause-refusal b c).After-deref in
    let told = rw own at c.in_err-check_length.ensures.refusal in
    subst (λ (r : Result TableOut TableFault).
    IfErr r (λ (e : TableFault). (e ≡ Memory) ⊎ (table_refusal (option_copied c.args.base_names)
    (b.G.TypeGraph.shape c.args.graph.now) c.args.classes.now ≡ Some e))) (sym gone)
    (inr (refused_length (option_copied c.args.base_names)
    (b.G.TypeGraph.shape c.args.graph.now) c.args.classes.now c.in_err-check_length.field-0.0
    c.in_ok-strings.strings c.in_ok-types.ensures.accepted
    (rw own at c.in_ok-strings.ensures.accepted)
    (rw own at c.in_ok-strings.ensures.strings) told.0 told.1))

pub returns-clause-offsets : goal.returns-clause-offsets
returns-clause-offsets b c =
    let own = own_given b (goal.at.returns-clause-offsets b c).After-deref in
    let rest = own_made b (goal.at.returns-clause-offsets b c).After-new in
    subst (All (HasOffsets c.in_ok-strings.strings))
    (own ∙ sym rest) c.in_ok-strings.ensures.offsets

pub returns-clause-within : goal.returns-clause-within
returns-clause-within b c =
    let is : c.new.result ≡ table_of (b.G.TypeGraph.shape c.args.graph.now) c.args.classes.now =
    c.new.ensures ∙ c.in_ok-types.ensures.table in
    let rest = own_made b (goal.at.returns-clause-within b c).After-new in
    subst (λ (ts : List CType). RefersWithin (length c.new.result) ts) (sym rest)
    (subst (λ (ts : List CType). RefersWithin (length ts)
    (own_types (b.G.TypeGraph.shape c.args.graph.now) c.args.classes.now)) (sym is)
    (own_within (b.G.TypeGraph.shape c.args.graph.now) c.args.classes.now c.requires.covers
    c.base-base.ensures.sound.fits c.table_types.ensures.within))

pub returns-clause-formed : goal.returns-clause-formed
returns-clause-formed b c =
    let rest = own_made b (goal.at.returns-clause-formed b c).After-new in
    subst (All IsWellFormed) (sym rest) (own_formed (b.G.TypeGraph.shape c.args.graph.now)
    c.args.classes.now c.requires.covers c.base-base.ensures.sound.fits c.requires.well)

pub returns-clause-accepted : goal.returns-clause-accepted
returns-clause-accepted b c =
    let own = own_given b (goal.at.returns-clause-accepted b c).After-deref in
    not_refused (option_copied c.args.base_names) (b.G.TypeGraph.shape c.args.graph.now)
    c.args.classes.now c.in_ok-strings.strings c.in_ok-types.ensures.accepted
    (rw own at c.in_ok-strings.ensures.accepted) (rw own at c.in_ok-strings.ensures.strings)
    (rw own at c.in_ok-check_length.ensures.accepted)
