use Rattle.std.proofs.Common.{ℕ, ◌≡◌, ◌<◌, ◌^◌, ◌∙◌, ap, sym, arith}
use Rattle.std.specs.Option.{unwrap_or}
use Rattle.dw_base.specs.Numbers.{number_of}
use Rattle.elf_sections.proofs.Fits.{value_fits}
use Rattle.entry_tree.proofs.headers.read_version.Goals as goal

pub overflow_cast-result : goal.overflow_cast-result
overflow_cast-result c =
    let few : unwrap_or (number_of c.args.unit.now c.args.at 2 c.args.order) 0 < 256 ^ 2 =
    value_fits c.args.unit.now c.args.at 2 c.args.order
    (λ (i : ℕ). omega (arith, c.type_inv.unit i)) (omega arith) in
    let is : c.in-Some.version ≡ unwrap_or (number_of c.args.unit.now c.args.at 2 c.args.order) 0 =
    ap (λ o. unwrap_or o 0) (sym c.in-Some.is ∙ c.number.ensures) in
    omega arith
