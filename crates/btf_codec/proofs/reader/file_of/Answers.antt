use Rattle.std.proofs.Common.{◌≡◌, ℕ, ◌+◌, ◌<◌, ◌^◌, List, length, map, get_or, Ok, Err, sym, ap}
use Rattle.std.proofs.Common.{subst, ◌∙◌, arith, rules}
use Rattle.btf_codec.specs.Reading.{file_of, pieces_fault, pieces_of}
use Rattle.btf_codec.specs.Gives.{IsPiece}
use Rattle.btf_codec.proofs.Splitting.{refused}
use Rattle.btf_codec.proofs.Gluing.{all_well, cut, fails_on, how_many, no_fault, no_order}
use Rattle.btf_codec.proofs.Gluing.{no_pieces, no_sections, no_strings, no_words, same_fault}
use Rattle.btf_codec.proofs.Gluing.{the_piece, a_fault}
use Rattle.btf_codec.proofs.Splitting.{fails_with}
use Rattle.btf_codec.proofs.reader.file_of.Goals as goal
use denote.Bor.{Bor}

pub returns-in_err-order-clause-gives : goal.returns-in_err-order-clause-gives
returns-in_err-order-clause-gives c =
    let gone : c.from_residual.result ≡ Err c.in_err-order.field-0.0 = search rules in
    refused _ c.from_residual.result c.in_err-order.field-0.0 _ gone (fails_with c.in_err-order.field-0.0
    (file_of c.args.based c.args.types c.args.limit c.args.want c.args.bytes.now)
    (no_order c.args.based c.args.types c.args.limit c.args.want c.args.bytes.now c.in_err-order.field-0.0
    (sym c.in_err-order.ensures)))

pub returns-in_err-body-clause-gives : goal.returns-in_err-body-clause-gives
returns-in_err-body-clause-gives c =
    let gone : c.from_residual-in_err-body.result ≡ Err c.in_err-body.field-0.0 = search rules in
    refused _ c.from_residual-in_err-body.result c.in_err-body.field-0.0 _ gone (fails_with c.in_err-body.field-0.0
    (file_of c.args.based c.args.types c.args.limit c.args.want c.args.bytes.now)
    (no_sections c.args.based c.args.types c.args.limit c.args.want c.args.bytes.now c.in_ok-order.order
    c.in_err-body.field-0.0 (sym c.in_ok-order.ensures)
    (sym c.in_err-body.ensures.sections)))

pub returns-then-not-are_strings-clause-gives : goal.returns-then-not-are_strings-clause-gives
returns-then-not-are_strings-clause-gives c =
    no_strings c.args.based c.args.types c.args.limit c.args.want c.args.bytes.now c.in_ok-order.order
    c.in_ok-body.body.now c.in_ok-body.names.now
    (sym c.in_ok-order.ensures) (sym c.in_ok-body.ensures.sections)
    (sym c.are_strings.ensures ∙ c.if-not-are_strings.true)

pub returns-in_err-pieces-clause-gives : goal.returns-in_err-pieces-clause-gives
returns-in_err-pieces-clause-gives c =
    let gone : c.from_residual-in_err-pieces.result ≡ Err c.in_err-pieces.field-0.0 = search rules in
    refused _ c.from_residual-in_err-pieces.result c.in_err-pieces.field-0.0 _ gone (fails_on c.in_err-pieces.field-0.0
    (pieces_of c.in_ok-order.order (length c.in_ok-body.body.now) 24
    (c.args.types + 1) c.in_ok-body.body.now) (file_of c.args.based c.args.types
    c.args.limit c.args.want c.args.bytes.now) c.in_err-pieces.ensures
    (λ (p : (pieces_of c.in_ok-order.order (length c.in_ok-body.body.now) 24
    (c.args.types + 1) c.in_ok-body.body.now) ≡ Err c.in_err-pieces.field-0.0).
    no_pieces c.args.based c.args.types c.args.limit c.args.want c.args.bytes.now c.in_ok-order.order
    c.in_ok-body.body.now c.in_ok-body.names.now
    c.in_err-pieces.field-0.0 (sym c.in_ok-order.ensures)
    (sym c.in_ok-body.ensures.sections)
    (sym c.are_strings.ensures ∙ c.if-not-are_strings.false) p))

pub overflow_cast-count : goal.overflow_cast-count
overflow_cast-count c =
    let k = cut c.in_ok-order.order (length c.in_ok-body.body.now) 24
    (c.args.types + 1) c.in_ok-body.body.now (map
    (λ (p : Bor (List ℕ)). p.now) c.in_ok-pieces.pieces.items) c.in_ok-pieces.ensures in
    let f = k.few in
    let n = how_many c.in_ok-pieces.pieces.items in
    omega (arith, f, n, c.len.ensures, c.in_ok-body.ensures.few)

pub overflow_add-count : goal.overflow_add-count
overflow_add-count c =
    let k = cut c.in_ok-order.order (length c.in_ok-body.body.now) 24
    (c.args.types + 1) c.in_ok-body.body.now (map
    (λ (p : Bor (List ℕ)). p.now) c.in_ok-pieces.pieces.items) c.in_ok-pieces.ensures in
    let f = k.few in
    let n = how_many c.in_ok-pieces.pieces.items in
    omega (arith, f, n, c.len.ensures, c.in_ok-body.ensures.few, c.requires.types)

pub check_words-requires-clause-few : goal.check_words-requires-clause-few
check_words-requires-clause-few c =
    let k = cut c.in_ok-order.order (length c.in_ok-body.body.now) 24
    (c.args.types + 1) c.in_ok-body.body.now (map
    (λ (p : Bor (List ℕ)). p.now) c.in_ok-pieces.pieces.items) c.in_ok-pieces.ensures in
    let f = k.few in
    let n = how_many c.in_ok-pieces.pieces.items in
    let d = ap (λ (ps : List (Bor (List ℕ))). length ps) c.deref.ensures.value in
    omega (arith, f, n, d, c.in_ok-body.ensures.few)

pub check_words-requires-clause-each : goal.check_words-requires-clause-each
check_words-requires-clause-each c =
    let q = cut c.in_ok-order.order (length c.in_ok-body.body.now) 24
    (c.args.types + 1) c.in_ok-body.body.now (map
    (λ (p : Bor (List ℕ)). p.now) c.in_ok-pieces.pieces.items) c.in_ok-pieces.ensures in
    let n = how_many c.in_ok-pieces.pieces.items in
    subst (λ (ps : List (Bor (List ℕ))). (k : ℕ) (d : Bor (List ℕ)) → k < length ps
    → IsPiece c.in_ok-order.order (get_or ps k d).now) (sym c.deref.ensures.value)
    (λ (k : ℕ) (d : Bor (List ℕ)) (lt : k < length c.in_ok-pieces.pieces.items).
    subst (λ (p : List ℕ). IsPiece c.in_ok-order.order p)
    (the_piece c.in_ok-pieces.pieces.items k d lt) (q.each k (omega (arith, n, lt))))

pub check_words-requires-clause-short : goal.check_words-requires-clause-short
check_words-requires-clause-short c =
    let q = cut c.in_ok-order.order (length c.in_ok-body.body.now) 24
    (c.args.types + 1) c.in_ok-body.body.now (map
    (λ (p : Bor (List ℕ)). p.now) c.in_ok-pieces.pieces.items) c.in_ok-pieces.ensures in
    let n = how_many c.in_ok-pieces.pieces.items in
    let s = c.in_ok-body.ensures.few in
    subst (λ (ps : List (Bor (List ℕ))). (k : ℕ) (d : Bor (List ℕ)) → k < length ps
    → length (get_or ps k d).now < 2 ^ 32) (sym c.deref.ensures.value)
    (λ (k : ℕ) (d : Bor (List ℕ)) (lt : k < length c.in_ok-pieces.pieces.items).
    let t = q.short k (omega (arith, n, lt)) in
    let l = ap (λ (p : List ℕ). length p) (the_piece c.in_ok-pieces.pieces.items k d lt) in
    omega (arith, s, t, l))

pub returns-in_err-check_words-clause-gives : goal.returns-in_err-check_words-clause-gives
returns-in_err-check_words-clause-gives c =
    let gone : c.from_residual-in_err-check_words.result ≡ Err c.in_err-check_words.field-0.0 = search rules in
    refused _ c.from_residual-in_err-check_words.result c.in_err-check_words.field-0.0 _ gone (fails_with c.in_err-check_words.field-0.0
    (file_of c.args.based c.args.types c.args.limit c.args.want c.args.bytes.now)
    (no_words c.args.based c.args.types c.args.limit c.args.want c.args.bytes.now c.in_ok-order.order
    c.in_ok-body.body.now c.in_ok-body.names.now (map
    (λ (p : Bor (List ℕ)). p.now) c.in_ok-pieces.pieces.items) c.in_err-check_words.field-0.0
    (sym c.in_ok-order.ensures) (sym c.in_ok-body.ensures.sections)
    (sym c.are_strings.ensures ∙ c.if-not-are_strings.false) c.in_ok-pieces.ensures
    (a_fault (pieces_fault c.in_ok-order.order 24 (c.args.types + 1)
    (c.args.limit + length c.in_ok-body.names.now) (c.args.types
    + length (map (λ (p : Bor (List ℕ)). p.now) c.in_ok-pieces.pieces.items)) (map
    (λ (p : Bor (List ℕ)). p.now) c.in_ok-pieces.pieces.items)) c.in_err-check_words.field-0.0
    (same_fault c.in_ok-order.order (c.args.types + 1) (c.args.limit + length
    c.in_ok-body.names.now) c.args.types c.len.result c.in_ok-pieces.pieces.items
    c.deref.result.now (Err c.in_err-check_words.field-0.0) c.deref.ensures.value
    (omega (arith, c.len.ensures)) (c.in_err-check_words.ensures)))))

pub returns-clause-gives : goal.returns-clause-gives
returns-clause-gives c =
    all_well c.args.based c.args.types c.args.limit c.args.want c.args.bytes.now c.in_ok-order.order
    c.in_ok-body.body.now c.in_ok-body.names.now
    (map (λ (p : Bor (List ℕ)). p.now) c.in_ok-pieces.pieces.items)
    (sym c.in_ok-order.ensures) (sym c.in_ok-body.ensures.sections)
    (sym c.are_strings.ensures ∙ c.if-not-are_strings.false) c.in_ok-pieces.ensures
    (no_fault (pieces_fault c.in_ok-order.order 24 (c.args.types + 1)
    (c.args.limit + length c.in_ok-body.names.now) (c.args.types
    + length (map (λ (p : Bor (List ℕ)). p.now) c.in_ok-pieces.pieces.items)) (map
    (λ (p : Bor (List ℕ)). p.now) c.in_ok-pieces.pieces.items)) (same_fault c.in_ok-order.order
    (c.args.types + 1) (c.args.limit + length c.in_ok-body.names.now) c.args.types
    c.len.result c.in_ok-pieces.pieces.items c.deref.result.now (Ok tt) c.deref.ensures.value
    (omega (arith, c.len.ensures)) (c.in_ok-check_words.ensures)))

pub returns-clause-each : goal.returns-clause-each
returns-clause-each c k d lt =
    let q = cut c.in_ok-order.order (length c.in_ok-body.body.now) 24
    (c.args.types + 1) c.in_ok-body.body.now (map
    (λ (p : Bor (List ℕ)). p.now) c.in_ok-pieces.pieces.items) c.in_ok-pieces.ensures in
    let n = how_many c.in_ok-pieces.pieces.items in
    subst (λ (p : List ℕ). IsPiece c.in_ok-order.order p)
    (the_piece c.in_ok-pieces.pieces.items k d lt) (q.each k (omega (arith, n, lt)))

pub returns-clause-few : goal.returns-clause-few
returns-clause-few c =
    let k = cut c.in_ok-order.order (length c.in_ok-body.body.now) 24
    (c.args.types + 1) c.in_ok-body.body.now (map
    (λ (p : Bor (List ℕ)). p.now) c.in_ok-pieces.pieces.items) c.in_ok-pieces.ensures in
    let f = k.few in
    let n = how_many c.in_ok-pieces.pieces.items in
    omega (arith, f, n, c.in_ok-body.ensures.few)
