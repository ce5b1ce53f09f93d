use Rattle.std.proofs.Common.{◌≡◌, ◌++◌, take, All}
use Rattle.c_model.specs.Kinds.{IsWellFormed}
use Rattle.btf_codec.specs.Spells.{words_bytes}
use Rattle.btf_codec.specs.Spelling.{types_words}
use Rattle.btf_codec.proofs.writer.put_types.Given as goal

abbrev pub invariant-loop-t : goal.invariant-loop-t
invariant-loop-t l =
    All IsWellFormed l.types → l.out.items ≡ l.initial.out.items
    ++ words_bytes l.order (types_words l.strings (take l.t-index l.types))
