use Rattle.std.proofs.Common.{◌≡◌, ◌++◌, drop}
use Rattle.btf_codec.specs.Fields.{parts_fields}
use Rattle.btf_codec.specs.Spells.{words_bytes}
use Rattle.btf_codec.specs.Spelling.{words_of}
use Rattle.btf_codec.proofs.writer.put_parts.Given as goal

-- with the rest of the parts it is all
abbrev pub invariant-loop-i : goal.invariant-loop-i
invariant-loop-i l =
    l.out.items ++ words_bytes l.order
    (words_of l.strings (parts_fields l.layout (drop l.i l.parts) (drop l.i l.targets)))
    ≡ l.initial.out.items
    ++ words_bytes l.order (words_of l.strings (parts_fields l.layout l.parts l.targets))
