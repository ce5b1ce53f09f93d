use Rattle.std.proofs.Common.{◌≡◌, ◌++◌, ◌∷◌, [], ◌<◌, ◌≤◌, None, Some}
use Rattle.std.proofs.lemmas.Result.{on_ok_weaker}
use Rattle.btf_codec.specs.Fields.{rest_by, vlen_of}
use Rattle.btf_codec.specs.Spells.{words_bytes}
use Rattle.btf_codec.specs.Spelling.{words_of}
use Rattle.btf_codec.proofs.Putting.{put_both, put_known}
use Rattle.btf_codec.proofs.writer.put_type.Goals as goal

pub returns-in-None : goal.returns-in-None
returns-in-None c = λ (few : vlen_of c.args.t.now.label ≤ 65535)
    (known : c.args.t.now.label.kind < 32).
    put_known c.args.order c.args.strings.now c.args.t.now None c.args.out.now.items
    c.put_words.new.out.items c.offset_in-name.result c.info.result
    c.in-None.ensures c.offset_in-name.ensures (c.info.ensures few known)
    c.in_ok-put_words.ensures

pub returns-in-Some : goal.returns-in-Some
returns-in-Some c =
    on_ok_weaker c.put_rest.result
    (λ (put : c.put_rest.new.out.items ≡ c.put_words.new.out.items ++ words_bytes c.args.order
    (words_of c.args.strings.now
    (rest_by (Some c.in-Some.layout) c.args.t.now.label c.args.t.now.targets)))
    (few : vlen_of c.args.t.now.label ≤ 65535) (known : c.args.t.now.label.kind < 32).
    put_known c.args.order c.args.strings.now c.args.t.now (Some c.in-Some.layout)
    c.args.out.now.items c.put_rest.new.out.items c.offset_in-name.result c.info.result
    c.in-Some.ensures c.offset_in-name.ensures (c.info.ensures few known)
    (put_both c.args.order c.args.out.now.items c.put_words.new.out.items
    c.put_rest.new.out.items (c.offset_in-name.result ∷ c.info.result ∷ [])
    (words_of c.args.strings.now
    (rest_by (Some c.in-Some.layout) c.args.t.now.label c.args.t.now.targets))
    c.in_ok-put_words.ensures put))
    c.put_rest.ensures
