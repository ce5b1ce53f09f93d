use Rattle.std.proofs.Common.{◌≡◌, ℕ, ◌*◌, ◌-◌, All, List, length, take, drop, None, ap, ◌∙◌}
use Rattle.std.specs.List.{flat_map}
use Rattle.btf_codec.specs.Fields.{fields_of}
use Rattle.c_model.specs.Kinds.{IsWellFormed}
use Rattle.c_model.specs.declared.graph.CType.{CType}
use Rattle.btf_strings.specs.Names.{own_section}
use Rattle.btf_codec.specs.Spells.{Spells}
use Rattle.btf_codec.specs.Spelling.{base_of}
use Rattle.btf_codec.proofs.Alone.{spelled_alone}
use Rattle.btf_codec.proofs.Meeting.{meets, own_are, spelled, written}
use Rattle.btf_codec.proofs.writer.write.Goals as goal

own : (c : goal.After-new) → take (length c.items.result.now - c.args.table.now.base) (drop
    c.args.table.now.base c.items.result.now) ≡ drop c.args.table.now.base c.args.table.now.types
own c = own_are c.items.result.now c.args.table.now.types c.args.table.now.base c.items.ensures

pub returns-clause-bytes : goal.returns-clause-bytes
returns-clause-bytes c =
    λ (formed : All IsWellFormed (drop c.args.table.now.base c.args.table.now.types)).
    spelled c.args.order c.args.table.now.strings
    (drop c.args.table.now.base c.args.table.now.types) (4 * c.word_count-types.result)
    (length c.bytes-names.result.now) c.new.result
    (ap (λ (n : ℕ). 4 * n) (c.word_count-types.ensures
    ∙ ap (λ (ts : List CType). length (flat_map fields_of ts)) (own c)))
    (ap (λ (xs : List ℕ). length xs) c.bytes-names.ensures.value)
    (written c.args.order c.args.table.now.strings
    (drop c.args.table.now.base c.args.table.now.types) (take (length c.items.result.now
    - c.args.table.now.base) (drop c.args.table.now.base c.items.result.now))
    (4 * c.word_count-types.result) (length c.bytes-names.result.now) c.in_ok-out.out.items
    c.put_header.new.out.items c.put_types.new.out.items c.extend_from_slice.new.self.items
    c.new.result c.bytes-names.result.now
    (own c) formed c.in_ok-out.ensures.items c.in_ok-put_header.ensures c.in_ok-put_types.ensures
    c.in_ok-extend_from_slice.ensures.items c.new.ensures c.bytes-names.ensures.value)

pub returns-clause-spells : goal.returns-clause-spells
returns-clause-spells c =
    λ (formed : All IsWellFormed (drop c.args.table.now.base c.args.table.now.types))
    (zero : c.args.table.now.strings.base ≡ None → c.args.table.now.base ≡ 0).
    meets c.args.order c.args.table.now.types c.args.table.now.base c.args.table.now.strings
    c.new.result
    (record {
      few = c.requires.few;
      base = c.requires.base;
      offsets = c.requires.offsets;
      within = c.requires.within;
      fits = c.requires.length;
      formed = formed;
      sound = c.bytes-names.ensures.sound;
    })
    zero (returns-clause-bytes c formed)

pub returns-clause-only : goal.returns-clause-only
returns-clause-only c =
    λ (formed : All IsWellFormed (drop c.args.table.now.base c.args.table.now.types))
    (zero : c.args.table.now.strings.base ≡ None → c.args.table.now.base ≡ 0)
    (types : List CType) (names : List ℕ) (other : Spells (base_of c.args.table.now.base
    c.args.table.now.strings.base) c.args.order types names c.new.result).
    spelled_alone (base_of c.args.table.now.base c.args.table.now.strings.base) c.args.order
    (drop c.args.table.now.base c.args.table.now.types) types
    (own_section c.args.table.now.strings) names c.new.result
    (returns-clause-spells c formed zero) other
