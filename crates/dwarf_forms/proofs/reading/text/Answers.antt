use Rattle.std.proofs.Common.{◌≡◌, ℕ, List, length, sym, ap, arith}
use Rattle.dw_base.proofs.Texts.{text_within}
use Rattle.dwarf_forms.proofs.reading.text.Goals as goal

pub overflow_add-end : goal.overflow_add-end
overflow_add-end c =
    let w = text_within c.args.bytes.now c.args.at c.in-Some.name (sym c.in-Some.ensures) in
    let l : length c.bytes.result.now ≡ length c.in-Some.name =
    ap (λ (xs : List ℕ). length xs) c.bytes.ensures in
    omega (arith, w, l)

pub overflow_add-end-in-Some : goal.overflow_add-end-in-Some
overflow_add-end-in-Some c =
    let w = text_within c.args.bytes.now c.args.at c.in-Some.name (sym c.in-Some.ensures) in
    let l : length c.bytes.result.now ≡ length c.in-Some.name =
    ap (λ (xs : List ℕ). length xs) c.bytes.ensures in
    omega (arith, w, l)
