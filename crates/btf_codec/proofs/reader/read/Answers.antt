use Rattle.std.proofs.Common.{ℕ, List, length, map, ◌++◌, ◌≡◌, ap, subst, ◌∙◌, arith, Ok, Result}
use Rattle.std.proofs.Common.{true, Err, sym, rules, MatchResult}
use Rattle.btf_codec.specs.declared.fault.BtfFault.TheVariants.{Memory}
use Rattle.std.specs.Option.{option_map}
use Rattle.c_model.specs.declared.graph.CType.{CType}
use Rattle.dw_base.specs.declared.numbers.Order.{Order}
use Rattle.btf_codec.specs.Gives.{EndsWithNul, base_seen, before_of, table_over}
use Rattle.btf_codec.specs.Reading.{Decoded, is_wanted, types_of}
use Rattle.btf_codec.specs.Spells.{Spells}
use Rattle.btf_codec.specs.declared.fault.BtfFault.{BtfFault}
use Rattle.btf_codec.specs.declared.table.Table.{Table}
use Rattle.btf_codec.proofs.Splitting.{refused}
use Rattle.btf_codec.proofs.Accepted.{shows}
use Rattle.btf_codec.proofs.Complete.{complete, memory_alone}
use Rattle.btf_codec.proofs.Gluing.{still_some, table_read, table_refused}
use Rattle.btf_codec.proofs.reader.read.Goals as goal
use denote.Bor.{Bor}

told : {X : Type 0} (ok : X → Type 0) (err : BtfFault → Type 0) (r : Result X BtfFault)
    (e : BtfFault) → r ≡ Err e → err e → MatchResult r ok err
told {X} ok err r e gone holds =
    subst (λ (s : Result X BtfFault). MatchResult s ok err) (sym gone) holds

pub returns-in_err-file-clause-gives : goal.returns-in_err-file-clause-gives
returns-in_err-file-clause-gives c =
    let gone : c.from_residual-in_err-file.result ≡ Err c.in_err-file.field-0.0 = search rules in
    refused _ c.from_residual-in_err-file.result c.in_err-file.field-0.0 _ gone
    (table_refused (option_map (λ (b : Bor Table). before_of b.now) c.args.base) c.args.want
    c.args.bytes.now c.is_some.result c.len-before.result
    (length c.strings_of-strings.result.now) c.in_err-file.field-0.0
    (c.is_some.ensures ∙ still_some (λ (b : Bor Table). before_of b.now) c.args.base) (omega (
      arith,
      c.len-before.ensures,
      ap (λ (ts : List CType). length ts) c.in_ok-all.ensures,
    ))
    (ap (λ (ns : List ℕ). length ns) c.strings_of-strings.ensures.names) c.in_err-file.ensures.gives)

pub returns-in_err-file-clause-complete : goal.returns-in_err-file-clause-complete
returns-in_err-file-clause-complete c = λ (order : Order) (own : List CType) (names : List ℕ)
    (p : Spells (base_seen (option_map (λ (b : Bor Table). before_of b.now) c.args.base)) order own
    names c.args.bytes.now) (w : is_wanted c.args.want order ≡ true).
    let gone : c.from_residual-in_err-file.result ≡ Err c.in_err-file.field-0.0 = search rules in
    told _ (λ (e : BtfFault). e ≡ Memory) c.from_residual-in_err-file.result c.in_err-file.field-0.0 gone
    (memory_alone c.in_err-file.field-0.0 _ _ (table_refused (option_map (λ (b : Bor Table). before_of b.now) c.args.base) c.args.want
    c.args.bytes.now c.is_some.result c.len-before.result
    (length c.strings_of-strings.result.now) c.in_err-file.field-0.0
    (c.is_some.ensures ∙ still_some (λ (b : Bor Table). before_of b.now) c.args.base) (omega (
      arith,
      c.len-before.ensures,
      ap (λ (ts : List CType). length ts) c.in_ok-all.ensures,
    ))
    (ap (λ (ns : List ℕ). length ns) c.strings_of-strings.ensures.names) c.in_err-file.ensures.gives) (complete
    (option_map (λ (b : Bor Table). before_of b.now) c.args.base) c.args.want order own names
    c.args.bytes.now (λ (i : ℕ). omega (arith, c.type_inv.bytes i)) (subst (λ (xs : List ℕ).
    EndsWithNul xs) c.strings_of-strings.ensures.names c.strings_of-strings.ensures.ends) p w))

pub returns-clause-gives : goal.returns-clause-gives
returns-clause-gives c =
    table_read (option_map (λ (b : Bor Table). before_of b.now) c.args.base) c.args.want
    c.args.bytes.now c.strings_of-strings.result.now c.is_some.result c.len-before.result
    (record {
      order = c.in_ok-file.file.order;
      pieces = map (λ (p : Bor (List ℕ)). p.now)
          c.in_ok-file.file.pieces.items;
      names = c.in_ok-file.file.names.now;
    }) c.new.result
    (c.is_some.ensures ∙ still_some (λ (b : Bor Table). before_of b.now) c.args.base) (omega (
      arith,
      c.len-before.ensures,
      ap (λ (ts : List CType). length ts) c.in_ok-all.ensures,
    ))
    c.strings_of-strings.ensures.names c.in_ok-file.ensures.gives
    (c.new.ensures ∙ c.in_ok-push_file_types.ensures
    ∙ ap (λ (ts : List CType). ts
    ++ types_of (c.strings_of-strings.result.now ++ c.in_ok-file.file.names.now) c.in_ok-file.file.order
    (map (λ (p : Bor (List ℕ)). p.now) c.in_ok-file.file.pieces.items)) c.in_ok-all.ensures)

pub returns-clause-spelled : goal.returns-clause-spelled
returns-clause-spelled c = (shows (option_map (λ (b : Bor Table). before_of b.now) c.args.base)
    c.args.want c.args.bytes.now (record {
      order = c.in_ok-file.file.order;
      base = c.len-before.result;
      types = c.new.result;
      names = c.in_ok-file.file.names.now;
    }) (λ (i : ℕ). omega (
      arith,
      c.type_inv.bytes i,
    )) (subst (λ (xs : List ℕ). EndsWithNul xs) c.strings_of-strings.ensures.names
    c.strings_of-strings.ensures.ends) (returns-clause-gives c)).spelled

pub returns-clause-wanted : goal.returns-clause-wanted
returns-clause-wanted c = (shows (option_map (λ (b : Bor Table). before_of b.now) c.args.base)
    c.args.want c.args.bytes.now (record {
      order = c.in_ok-file.file.order;
      base = c.len-before.result;
      types = c.new.result;
      names = c.in_ok-file.file.names.now;
    }) (λ (i : ℕ). omega (
      arith,
      c.type_inv.bytes i,
    )) (subst (λ (xs : List ℕ). EndsWithNul xs) c.strings_of-strings.ensures.names
    c.strings_of-strings.ensures.ends) (returns-clause-gives c)).wanted

same : (t u : Decoded) (r : Result Decoded BtfFault) → r ≡ Ok t → r ≡ Ok u → t ≡ u
same t u r e f = cc

pub returns-clause-complete : goal.returns-clause-complete
returns-clause-complete c = λ (order : Order) (own : List CType) (names : List ℕ)
    (p : Spells (base_seen (option_map (λ (b : Bor Table). before_of b.now) c.args.base)) order own
    names c.args.bytes.now) (w : is_wanted c.args.want order ≡ true).
    same (record {
      order = c.in_ok-file.file.order;
      base = c.len-before.result;
      types = c.new.result;
      names = c.in_ok-file.file.names.now;
    }) (table_over (option_map (λ (b : Bor Table).
    before_of b.now) c.args.base) order own names) _ (returns-clause-gives c) (complete
    (option_map (λ (b : Bor Table). before_of b.now) c.args.base) c.args.want order own names
    c.args.bytes.now (λ (i : ℕ). omega (arith, c.type_inv.bytes i)) (subst (λ (xs : List ℕ).
    EndsWithNul xs) c.strings_of-strings.ensures.names c.strings_of-strings.ensures.ends) p w)
