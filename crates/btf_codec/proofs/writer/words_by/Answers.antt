use Rattle.btf_codec.proofs.Counting.{sized_fits, prototype_fits}
use Rattle.btf_codec.proofs.writer.words_by.Goals as goal

pub words_of_parts-requires : goal.words_of_parts-requires
words_of_parts-requires c = sized_fits c.args.layout c.in-Sized.part c.args.t.now
    c.items-parts.result.now c.in-Sized.is c.items-parts.ensures c.requires

pub words_of_parts-requires-in-Prototype : goal.words_of_parts-requires-in-Prototype
words_of_parts-requires-in-Prototype c = prototype_fits c.args.layout c.args.t.now
    c.items-parts.result.now c.in-Prototype.is c.items-parts.ensures c.requires
