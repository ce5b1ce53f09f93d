use Rattle.std.proofs.Common.{◌≡◌, ◌++◌, take}
use Rattle.btf_codec.specs.Spells.{words_bytes}
use Rattle.btf_codec.proofs.words.put_words.Given as goal

abbrev pub invariant-loop-word : goal.invariant-loop-word
invariant-loop-word l =
    l.out.items ≡ l.initial.out.items ++ words_bytes l.order (take l.word-index l.words)
