use Rattle.std.proofs.Common.{◌∙◌, List, [], Ok, false, ap, refl}
use Rattle.c_model.specs.declared.graph.CType.{CType}
use Rattle.c_types.proofs.Standing.{types_in_order}
use Rattle.unit_graph.specs.Numbers.{number_in}
use Rattle.unit_encoder.specs.declared.piece.Piece.{Piece}
use Rattle.unit_encoder.proofs.Whole.{are_functions, fails, whole}
use Rattle.unit_encoder.proofs.graph.functions_of_files.Goals as goal

pub returns-in-Err-clause-refused : goal.returns-in-Err-clause-refused
returns-in-Err-clause-refused c = fails c.in-Err.fault c.args.units.now c.in-Err.ensures.pieces

pub returns-clause-functions : goal.returns-clause-functions
returns-clause-functions c =
    let p : Piece = c.in-Ok.piece in
    let none : List CType = [] in
    are_functions c.args.units.now p (Ok none)
    (whole types_in_order false c.args.units.now p (Ok none) (λ no. absurd (cc)) c.in-Ok.ensures.pieces)
    (record { funcs = p.funcs; places = c.in_ok-places.places }) (c.in-Ok.ensures.funcs refl)
    (λ q. c.in_ok-places.ensures q ∙ ap (number_in q) c.in_ok-into_vec.ensures)
