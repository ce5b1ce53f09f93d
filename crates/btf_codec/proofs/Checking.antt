-- The offsets of names and the ids of the types, piece by piece.
use Rattle.std.proofs.Common.{◌≡◌, ℕ, ◌+◌, ◌<◌, ◌≤◌, List, [], ◌∷◌, length, map, drop, get_or}
use Rattle.std.proofs.Common.{Option, None, Some, Ok, Err, refl, sym, ap, ◌∙◌}
use Rattle.std.proofs.lemmas.List.{drop_all, drop_more}
use Rattle.dw_base.specs.declared.numbers.Order.{Order}
use Rattle.btf_codec.specs.Gives.{unless}
use Rattle.btf_codec.specs.Reading.{pieces_fault, word_in, words_fault}
use Rattle.btf_codec.specs.declared.fault.BtfFault.{BtfFault}
use denote.Bor.{Bor}

abbrev pub nows : List (Bor (List ℕ)) → List (List ℕ)
nows ps = map (λ (p : Bor (List ℕ)). p.now) ps

-- the piece at a place, as a slice of references is read
abbrev pub piece_at : List (Bor (List ℕ)) → ℕ → List ℕ
piece_at ps i = (get_or ps i (record { ref_ptr = (0, 0); now = [] })).now

rest_is : (ps : List (Bor (List ℕ))) (i : ℕ) → i < length ps
    → nows (drop i ps) ≡ piece_at ps i ∷ nows (drop (i + 1) ps)
rest_is ps i lt = ap (λ (qs : List (Bor (List ℕ))). nows qs)
    (drop_more ps i (record { ref_ptr = (0, 0); now = [] }) lt)

found : (order : Order) (place id limit count : ℕ) (p : List ℕ) (ps : List (List ℕ))
    (fault : BtfFault) → words_fault place id limit count (word_in order p) ≡ Some fault
    → pieces_fault order place id limit count (p ∷ ps) ≡ Some fault
unfolding pieces_fault
found order place id limit count p ps fault h = rw h refl

none : (order : Order) (place id limit count : ℕ) (p : List ℕ) (ps : List (List ℕ))
    → words_fault place id limit count (word_in order p) ≡ None
    → pieces_fault order place id limit count (p ∷ ps)
    ≡ pieces_fault order (place + length p) (id + 1) limit count ps
unfolding pieces_fault
none order place id limit count p ps h = rw h refl

pub fault_found : (order : Order) (place id limit count i : ℕ) (ps : List (Bor (List ℕ)))
    (fault : BtfFault) (total : Option BtfFault) → i < length ps
    → words_fault place id limit count (word_in order (piece_at ps i)) ≡ Some fault → pieces_fault
    order place id limit count (nows (drop i ps)) ≡ total → Err fault ≡ unless total
fault_found order place id limit count i ps fault total lt h so_far =
    let e : Some fault ≡ total =
    sym (ap (λ (qs : List (List ℕ)). pieces_fault order place id limit count qs) (rest_is ps i lt)
    ∙ found order place id limit count (piece_at ps i) (nows (drop (i + 1) ps)) fault h)
    ∙ so_far in
    ap (λ (o : Option BtfFault). unless o) e

pub fault_none : (order : Order) (place id limit count i : ℕ) (ps : List (Bor (List ℕ)))
    (total : Option BtfFault) → i < length ps
    → words_fault place id limit count (word_in order (piece_at ps i)) ≡ None
    → pieces_fault order place id limit count (nows (drop i ps)) ≡ total
    → pieces_fault order (place + length (piece_at ps i)) (id + 1) limit count
    (nows (drop (i + 1) ps)) ≡ total
fault_none order place id limit count i ps total lt h so_far =
    sym (ap (λ (qs : List (List ℕ)). pieces_fault order place id limit count qs) (rest_is ps i lt)
    ∙ none order place id limit count (piece_at ps i) (nows (drop (i + 1) ps)) h) ∙ so_far

pub fault_over : (order : Order) (place id limit count i : ℕ) (ps : List (Bor (List ℕ)))
    (total : Option BtfFault) → length ps ≤ i
    → pieces_fault order place id limit count (nows (drop i ps)) ≡ total → Ok tt ≡ unless total
unfolding pieces_fault
fault_over order place id limit count i ps total le so_far =
    let e : None ≡ total = sym (ap (λ (qs : List (Bor (List ℕ))).
    pieces_fault order place id limit count (nows qs)) (drop_all i ps le)) ∙ so_far in
    ap (λ (o : Option BtfFault). unless o) e
