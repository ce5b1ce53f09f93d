use Rattle.std.proofs.Common.{◌∙◌, List, ap}
use Rattle.c_model.specs.declared.graph.CType.{CType}
use Rattle.layout_printer.specs.Finding.{size_at}
use Rattle.layout_printer.specs.Sizes.{AreSizes}
use Rattle.layout_printer.proofs.Chains.{fits_if}
use Rattle.layout_printer.proofs.Knowing.{size_kept}
use Rattle.layout_printer.proofs.sizes.Sizes.of.Goals as goal

pub returns-clause-value : goal.returns-clause-value
returns-clause-value c = λ (types : List CType) (a : AreSizes types c.args.self.now).
    c.size_at.ensures ∙ ap (λ s. size_at s c.args.r) c.deref.ensures.value
    ∙ size_kept types c.args.self.now a c.args.r

pub returns-clause-fits : goal.returns-clause-fits
returns-clause-fits c = λ (types : List CType) (a : AreSizes types c.args.self.now).
    fits_if types c.args.self.now.pointer c.args.r c.size_at.result (returns-clause-value c types a)
