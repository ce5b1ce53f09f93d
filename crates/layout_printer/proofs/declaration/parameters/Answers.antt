use Rattle.std.proofs.Common.{[]}
use Rattle.layout_printer.specs.Declarations.{parameter_at}
use Rattle.layout_printer.proofs.Declaring.{places_more}
use Rattle.layout_printer.proofs.declaration.parameters.Goals as goal

pub loop-place-preserved : goal.loop-place-preserved
loop-place-preserved c = places_more (parameter_at c.args.types.now c.args.r) c.loop-place.place
    [] c.loop-place.out.items c.put_parameter.new.out.items c.loop-place.invariant
    c.in_ok-put_parameter.ensures
