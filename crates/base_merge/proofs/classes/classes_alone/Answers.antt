use Rattle.std.proofs.Common.{◌∙◌}
use Rattle.base_merge.proofs.Nothing.{IsCoarsest-alone}
use Rattle.base_merge.proofs.classes.classes_alone.Goals as goal

pub classes_over-requires : goal.classes_over-requires
classes_over-requires g c =
    let none = c.new-none.ensures ∙ (c.new-2.ensures ∙ c.new.ensures.items) in (
      c.type_bounds.sync-R,
      (
        IsCoarsest-alone c.args.graph.now.base c.args.graph.now.nodes
            c.new-none.result c.requires.files.alone none,
        c.requires.files.fitting,
      ),
    )
