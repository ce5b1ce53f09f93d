use Rattle.std.proofs.Common.{◌≡◌, ◌++◌, List, sym, ap, ◌∙◌, subst}
use Rattle.unit_graph.specs.Sources.{FileUnit}
use Rattle.unit_graph.specs.Tables.{AreOfFiles}
use Rattle.unit_graph.specs.Files.{units_in}
use Rattle.small_files.proofs.Files.{two_files}
use Rattle.small_files.proofs.units.units_of_two.Goals as goal

pub returns-clause-files : goal.returns-clause-files
returns-clause-files c =
    let one : c.push_units.new.all.items ≡ units_in 0 c.args.first.now =
    c.in_ok-push_units.ensures.units
    ∙ ap (λ (us : List FileUnit). us ++ units_in 0 c.args.first.now) c.new-all.ensures.items in
    let two : c.push_units-2.new.all.items
    ≡ units_in 0 c.args.first.now ++ units_in 1 c.args.second.now =
    c.in_ok-push_units-2.ensures.units
    ∙ ap (λ (us : List FileUnit). us ++ units_in 1 c.args.second.now) one in
    subst AreOfFiles (sym two) (two_files c.args.first.now c.args.second.now)
