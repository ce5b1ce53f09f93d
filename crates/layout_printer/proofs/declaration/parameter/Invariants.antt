use Rattle.std.proofs.Common.{◌≡◌, ◌-◌}
use Rattle.layout_printer.specs.Declarations.{around, decl_in, ellipsis}
use Rattle.layout_printer.proofs.declaration.parameter.Given as goal

-- with the declaration of the rest it is all
abbrev pub invariant-loop : goal.invariant-loop
invariant-loop l =
    around l.draft.front.items (decl_in ellipsis (64 - l.counter) l.types l.at l.draft.name.items)
    l.draft.back.items ≡ decl_in ellipsis 64 l.types l.fn.r l.name
