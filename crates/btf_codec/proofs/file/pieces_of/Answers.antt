use Rattle.std.proofs.Common.{◌≡◌, ℕ, ◌/◌, ◌≤◌, List, [], ◌∷◌, length, map, Ok, Err, rules, sym, ap, ◌∙◌, arith}
use Rattle.std.proofs.lemmas.Bool.{eqb-true, eqb-false}
use Rattle.std.proofs.lemmas.List.{nil_from_length, map-append}
use Rattle.btf_codec.specs.Reading.{head_of, pieces_of, word_in}
use Rattle.btf_codec.proofs.Splitting.{refused}
use Rattle.btf_codec.proofs.Splitting.{bad_piece, fails_with, head_fits, kept_on, no_fuel, no_piece}
use Rattle.btf_codec.proofs.Splitting.{quarter}
use Rattle.btf_codec.proofs.file.pieces_of.Goals as goal
use denote.Bor.{Bor}

pub returns-then-is_empty : goal.returns-then-is_empty
returns-then-is_empty c =
    no_piece c.args.order (length c.args.types.now) c.loop.counter c.loop.place c.loop.id
    c.loop.rest.now (map (λ (p : Bor (List ℕ)). p.now) c.loop.pieces.items)
    (pieces_of c.args.order (length c.args.types.now) 24 c.args.first c.args.types.now)
    (nil_from_length c.loop.rest.now (eqb-true (length c.loop.rest.now) 0
    (sym c.is_empty.ensures ∙ c.if-is_empty.true))) c.loop.invariant.so_far

pub returns-in_err-size : goal.returns-in_err-size
returns-in_err-size c =
    let n : length c.loop.rest.now ≡ 0 → ⊥ =
    eqb-false (length c.loop.rest.now) 0 (sym c.is_empty.ensures ∙ c.if-is_empty.false) in
    let gone : c.from_residual.result ≡ Err c.in_err-size.field-0.0 = search rules in
    refused _ c.from_residual.result c.in_err-size.field-0.0 _ gone
    (fails_with c.in_err-size.field-0.0
    (pieces_of c.args.order (length c.args.types.now) 24 c.args.first c.args.types.now)
    (bad_piece c.args.order (length c.args.types.now) c.loop.counter c.loop.place c.loop.id
    c.in_err-size.field-0.0 c.loop.rest.now (map (λ (p : Bor (List ℕ)). p.now) c.loop.pieces.items)
    (pieces_of c.args.order (length c.args.types.now) 24 c.args.first c.args.types.now)
    c.loop-test.true (omega arith) (sym c.in_err-size.ensures) c.loop.invariant.so_far))

pub split_at-requires : goal.split_at-requires
split_at-requires c =
    let fit = head_fits c.loop.place c.loop.id (length c.loop.rest.now / 4) c.in_ok-size.size
    (word_in c.args.order c.loop.rest.now) (sym c.in_ok-size.ensures) in
    quarter c.in_ok-size.size (length c.loop.rest.now) fit.few

pub loop-preserved : goal.loop-preserved
loop-preserved c =
    let n : length c.loop.rest.now ≡ 0 → ⊥ =
    eqb-false (length c.loop.rest.now) 0 (sym c.is_empty.ensures ∙ c.if-is_empty.false) in
    let h : head_of c.loop.place c.loop.id (word_in c.args.order c.loop.rest.now)
    (length c.loop.rest.now / 4) ≡ Ok c.in_ok-size.size = sym c.in_ok-size.ensures in
    let fit = head_fits c.loop.place c.loop.id (length c.loop.rest.now / 4) c.in_ok-size.size
    (word_in c.args.order c.loop.rest.now) h in
    let some : 3 ≤ c.in_ok-size.size = fit.some in
    record {
      so_far =
          kept_on c.args.order (length c.args.types.now) c.loop.counter c.loop.place c.loop.id
          c.in_ok-size.size c.loop.rest.now c.split_at.result.0.now c.split_at.result.1.now
          (map (λ (p : Bor (List ℕ)). p.now) c.loop.pieces.items)
          (map (λ (p : Bor (List ℕ)). p.now) c.push.new.self.items)
          (pieces_of c.args.order (length c.args.types.now) 24 c.args.first c.args.types.now)
          c.loop-test.true (omega arith) h
          (ap (λ (ps : List (Bor (List ℕ))). map (λ (p : Bor (List ℕ)). p.now) ps)
          c.in_ok-push.ensures.items ∙ map-append
          (λ (p : Bor (List ℕ)). p.now) c.loop.pieces.items (c.split_at.result.0 ∷ []))
          c.split_at.ensures.front c.split_at.ensures.back c.loop.invariant.so_far;
      place_is = omega (arith, c.split_at.ensures.back_len, c.loop.invariant.place_is);
      ids = omega (arith, c.split_at.ensures.back_len, c.loop.invariant.ids, some);
    }

pub returns : goal.returns
returns c =
    no_fuel c.args.order (length c.args.types.now) c.loop.counter c.loop.place c.loop.id
    c.loop.rest.now (map (λ (p : Bor (List ℕ)). p.now) c.loop.pieces.items)
    (pieces_of c.args.order (length c.args.types.now) 24 c.args.first c.args.types.now)
    c.loop-test.false c.loop.invariant.so_far

pub overflow_mul-size : goal.overflow_mul-size
overflow_mul-size c =
    let fit = head_fits c.loop.place c.loop.id (length c.loop.rest.now / 4) c.in_ok-size.size
    (word_in c.args.order c.loop.rest.now) (sym c.in_ok-size.ensures) in
    omega (arith, quarter c.in_ok-size.size (length c.loop.rest.now) fit.few, c.loop.invariant.place_is)
