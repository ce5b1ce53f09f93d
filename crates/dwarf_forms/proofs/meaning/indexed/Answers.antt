use Rattle.std.proofs.Common.{◌≡◌, ◌+◌, ◌*◌, ◌<◌, length, None, refl, arith}
use Rattle.dw_base.specs.Numbers.{number_of}
use Rattle.dw_base.proofs.Numbering.{is_out}
use Rattle.dwarf_forms.proofs.meaning.indexed.Goals as goal

pub returns-then-place-ctx : goal.returns-then-place-ctx
returns-then-place-ctx c =
    let x = c.args.ctx.now in
    let product : c.from-2.result * c.from-3.result ≡ c.args.index * c.args.ctx.now.offset_bytes =
    rw (c.from-2.ensures, c.from-3.ensures) refl in
    let out : length x.str_offsets.now < x.str_base + c.args.index * x.offset_bytes
    + x.offset_bytes = omega (arith, c.if-place-ctx.true, c.from.ensures, product) in
    let e : number_of x.str_offsets.now (x.str_base + c.args.index * x.offset_bytes) x.offset_bytes
    x.order ≡ None = is_out x.str_offsets.now
    (x.str_base + c.args.index * x.offset_bytes) x.offset_bytes x.order out in
    rw e refl
