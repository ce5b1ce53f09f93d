use Rattle.std.proofs.Common.{◌≡◌, ◌+◌, ℕ, length, arith, rules, refl, ap, sym, subst, ◌∙◌, Result}
use Rattle.std.proofs.Common.{Err, IfErr, ◌⊎◌, Some, None, inr}
use Rattle.c_model.specs.declared.graph.CType.{CType}
use Rattle.std.specs.Global.{Vec}
use Rattle.split_base.specs.declared.fault.TableFault.{TableFault}
use Rattle.split_base.specs.declared.fault.TableFault.TheVariants.{Memory}
use Rattle.split_base.specs.Refusals.{types_refusal}
use Rattle.split_base.specs.Table.{table_of}
use Rattle.split_base.proofs.Tables.{length-table_of}
use Rattle.split_base.proofs.Making.{nodes_length, places_within, firsts_placed, sources_below}
use Rattle.split_base.proofs.Making.{table_made}
use Rattle.split_base.proofs.table.table_types.Given.{Over}
use Rattle.split_base.proofs.table.table_types.Goals.{After-check_count}
use Rattle.split_base.proofs.table.table_types.Goals as goal

-- the number of the types
counted : (b : Over) (c : After-check_count b) → c.from.result + c.len-2.result
    ≡ length (table_of (b.G.TypeGraph.shape c.args.graph.now) c.args.classes.now)
counted b c =
    omega (
      arith,
      c.from.ensures,
      c.base.ensures.base,
      c.len-2.ensures,
      length-table_of (b.G.TypeGraph.shape c.args.graph.now) c.args.classes.now c.requires
          c.base.ensures.sound.fits,
      ap length c.in_ok-places.ensures.firsts,
    )

pub returns-in_err-check_count-clause-refusal : goal.returns-in_err-check_count-clause-refusal
returns-in_err-check_count-clause-refusal b c =
    let at = (goal.at.returns-in_err-check_count-clause-refusal b c).After-check_count in
    let gone : c.from_residual-in_err-check_count.result ≡ Err c.in_err-check_count.field-0.0 =
    search rules in
    subst (λ (r : Result (Vec CType) TableFault).
    IfErr r (λ (e : TableFault). (e ≡ Memory) ⊎ (types_refusal (length
    (table_of (b.G.TypeGraph.shape c.args.graph.now) c.args.classes.now)) ≡ Some e))) (sym gone)
    (inr (subst (λ (n : ℕ). types_refusal n ≡ Some c.in_err-check_count.field-0.0) (counted b at)
    c.in_err-check_count.ensures.refusal))

pub sources_of-requires : goal.sources_of-requires
sources_of-requires b c κs = (
  (refl, tt),
  (
    nodes_length (b.G.TypeGraph.shape c.args.graph.now) c.args.classes.now c.requires
        c.base.ensures.sound.fits _ _ c.in_ok-places.ensures.nodes c.in_ok-places.ensures.firsts,
    (
      places_within (b.G.TypeGraph.shape c.args.graph.now) c.args.classes.now c.requires
          c.base.ensures.sound.fits _ _ c.in_ok-places.ensures.nodes c.in_ok-places.ensures.firsts,
      firsts_placed (b.G.TypeGraph.shape c.args.graph.now) c.args.classes.now c.requires
          c.base.ensures.sound.fits _ _ c.in_ok-places.ensures.nodes c.in_ok-places.ensures.firsts,
    ),
  ),
)

pub types_of-requires : goal.types_of-requires
types_of-requires b c κs = (
  (refl, tt),
  (
    ap length c.deref.ensures.value
        ∙ nodes_length (b.G.TypeGraph.shape c.args.graph.now) c.args.classes.now c.requires
        c.base.ensures.sound.fits _ _ c.in_ok-places.ensures.nodes c.in_ok-places.ensures.firsts,
    sources_below (b.G.TypeGraph.shape c.args.graph.now) c.args.classes.now c.requires
        c.base.ensures.sound.fits _ _ c.in_ok-places.ensures.nodes c.in_ok-places.ensures.firsts
        c.deref-2.result.now (c.deref-2.ensures.value ∙ c.in_ok-sources.ensures),
  ),
)

pub returns-clause-table : goal.returns-clause-table
returns-clause-table b c =
    table_made (b.G.TypeGraph.shape c.args.graph.now) c.args.classes.now c.requires
    c.base.ensures.sound.fits _ _ c.in_ok-places.ensures.nodes c.in_ok-places.ensures.firsts
    c.len.ensures.sound.within c.deref-2.result.now c.in_ok-types_of.field-0.items
    (c.deref-2.ensures.value ∙ c.in_ok-sources.ensures)
    (rw c.deref.ensures.value at c.in_ok-types_of.ensures)

pub returns-clause-few : goal.returns-clause-few
returns-clause-few b c =
    let e = returns-clause-table b c in
    let at = (goal.at.returns-clause-few b c).After-check_count in
    omega (arith, ap length e, counted b at, c.in_ok-check_count.ensures.accepted.0)

pub returns-clause-accepted : goal.returns-clause-accepted
returns-clause-accepted b c =
    let at = (goal.at.returns-clause-accepted b c).After-check_count in
    subst (λ (n : ℕ). types_refusal n ≡ None) (counted b at) c.in_ok-check_count.ensures.accepted.1
