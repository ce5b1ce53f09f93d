use Rattle.std.proofs.Common.{◌≡◌, Some, slice_get, sym, ap, ◌∙◌}
use Rattle.std.proofs.Common.{arith}
use Rattle.std.proofs.lemmas.Option.{slice_get-get_or}
use Rattle.dwarf_abbrev.specs.Rows.{declarations_of, declaration_of, IsPlaced}
use Rattle.dwarf_abbrev.specs.Declarations.{Declaration, place_of, declaration_with}
use Rattle.dwarf_abbrev.specs.declared.row.Row.{Row}
use Rattle.dwarf_abbrev.proofs.Placing.{declaration_there, no_declaration}
use Rattle.dwarf_abbrev.proofs.Placing.{declaration_of_row, in_rows}
use Rattle.dwarf_abbrev.proofs.abbrevs.Abbrevs.get.Goals as goal

pub returns-in_err-index : goal.returns-in_err-index
returns-in_err-index c =
    let inside = c.self.inside in
    let placed : IsPlaced (declarations_of c.self.inside.specs.items c.as_slice.result.now)
    c.self.inside.others = rw c.as_slice.ensures.value c.self.invariant.0 in
    let h = rw c.as_slice.ensures.value at (c.in_err-index.ensures inside.specs.items placed) in
    rw c.from_residual.ensures (sym (no_declaration c.args.self.now c.args.code
    (sym (h ∙ ap (place_of c.args.code) c.self.view_is))))

pub index-row-requires : goal.index-row-requires
index-row-requires c =
    let inside = c.self.inside in
    let placed : IsPlaced (declarations_of c.self.inside.specs.items c.as_slice.result.now)
    c.self.inside.others = rw c.as_slice.ensures.value c.self.invariant.0 in
    let h = rw c.as_slice.ensures.value at (c.in_ok-index.ensures inside.specs.items placed) in
    let p = in_rows inside.specs.items inside.rows.items c.args.code c.in_ok-index.index h in
    omega (arith, p, inside.rows.ok.0)

pub lend-requires : goal.lend-requires
lend-requires c =
    let inside = c.self.inside in
    let placed : IsPlaced (declarations_of c.self.inside.specs.items c.as_slice.result.now)
    c.self.inside.others = rw c.as_slice.ensures.value c.self.invariant.0 in
    let h = rw c.as_slice.ensures.value at (c.in_ok-index.ensures inside.specs.items placed) in
    let p = in_rows inside.specs.items inside.rows.items c.args.code c.in_ok-index.index h in
    let there : slice_get c.self.inside.rows.items c.in_ok-index.index
    ≡ Some c.index-row.result.now =
    slice_get-get_or inside.rows.items c.in_ok-index.index c.index-row.result.now p
    ∙ ap (λ (r : Row). Some r) (sym c.index-row.ensures) in
    rw (c.as_slice-2.ensures.value, c.as_slice-3.ensures.value)
    (c.self.invariant.1.each c.in_ok-index.index c.index-row.result.now there)

pub returns : goal.returns
returns c =
    let inside = c.self.inside in
    let specs = inside.specs.items in
    let rows = inside.rows.items in
    let row = c.index-row.result.now in
    let placed : IsPlaced (declarations_of c.self.inside.specs.items c.as_slice.result.now)
    c.self.inside.others = rw c.as_slice.ensures.value c.self.invariant.0 in
    let h = rw c.as_slice.ensures.value at (c.in_ok-index.ensures inside.specs.items placed) in
    let p = declaration_there (declarations_of specs rows) c.args.code c.in_ok-index.index
    (declaration_of specs row) (sym h) in
    let e = declaration_of_row specs rows c.in_ok-index.index row
    (in_rows specs rows c.args.code c.in_ok-index.index h) c.index-row.ensures in
    let shown = rw c.as_slice-2.ensures.value at c.lend.ensures in
    ap (λ (d : Declaration). Some d) (shown ∙ sym e) ∙ sym p.1
    ∙ ap (declaration_with c.args.code) c.self.view_is
