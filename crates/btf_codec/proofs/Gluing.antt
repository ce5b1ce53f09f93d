-- The steps of reading, one behind another.
use Rattle.std.proofs.Common.{◌≡◌, ℕ, zero, suc, ◌+◌, ◌*◌, ◌/◌, ◌<◌, ◌≤◌, ◌&&◌, Bool, true, false}
use Rattle.std.proofs.Common.{List, [], ◌∷◌, ◌++◌, length, take, drop, map, get_or, Option, None}
use Rattle.std.proofs.Common.{Some, Result, Ok, Err, refl, sym, ap, subst, ◌∙◌, arith}
use Rattle.std.proofs.lemmas.List.{length-drop, length-map, length-take-le, get_or-map, get_or-take}
use Rattle.std.specs.Prelude.{is_some}
use Rattle.std.specs.Option.{option_map}
use Rattle.c_model.specs.declared.graph.CType.{CType}
use Rattle.dw_base.specs.declared.numbers.Order.{Order}
use Rattle.dw_base.specs.declared.numbers.Order.TheVariants.{Little, Big}
use Rattle.btf_codec.specs.Fields.{layout_of}
use Rattle.btf_codec.specs.Gives.{Fails, IsPiece, unless}
use Rattle.btf_codec.specs.Reading.{◌>>=◌, Before, File, Decoded, file_of, names_before, table_of}
use Rattle.btf_codec.specs.Reading.{types_before, types_of, head_of, is_begun, is_ended, kind_in}
use Rattle.btf_codec.specs.Reading.{order_in, pieces_fault, pieces_of, sections_of, type_width}
use Rattle.btf_codec.specs.Reading.{vlen_in, word_in}
use Rattle.btf_codec.specs.declared.fault.BtfFault.{BtfFault}
use Rattle.btf_codec.specs.declared.fault.BtfFault.TheVariants.{BtfMagic, BtfHeader, BtfTruncated}
use Rattle.btf_codec.specs.declared.fault.BtfFault.TheVariants.{BtfKind, BtfInfo, BtfName, BtfRef}
use Rattle.btf_codec.specs.declared.fault.BtfFault.TheVariants.{BtfStrings, Memory}
use Rattle.btf_codec.proofs.Splitting.{head_fits}
use denote.Bor.{Bor}

module _ (based : Bool) (types limit : ℕ) (want : Option Order) (bytes : List ℕ) where
  pub no_order : (e : BtfFault) → order_in want bytes ≡ Err e
      → file_of based types limit want bytes ≡ Err e
  unfolding file_of
  no_order e h = rw h refl

  pub no_sections : (order : Order) (e : BtfFault) → order_in want bytes ≡ Ok order
      → sections_of order bytes ≡ Err e → file_of based types limit want bytes ≡ Err e
  unfolding file_of
  no_sections order e h s = rw (h, s) refl

  pub no_strings : (order : Order) (body names : List ℕ) → order_in want bytes ≡ Ok order
      → sections_of order bytes ≡ Ok (body, names)
      → (is_begun based names && is_ended names) ≡ false
      → file_of based types limit want bytes ≡ Err (BtfStrings (24 + length body))
  unfolding file_of
  no_strings order body names h s b = rw (h, s, b) refl

  pub no_pieces : (order : Order) (body names : List ℕ) (e : BtfFault)
      → order_in want bytes ≡ Ok order → sections_of order bytes ≡ Ok (body, names)
      → (is_begun based names && is_ended names) ≡ true
      → pieces_of order (length body) 24 (types + 1) body ≡ Err e
      → file_of based types limit want bytes ≡ Err e
  unfolding file_of
  no_pieces order body names e h s b p = rw (h, s, b, p) refl

  pub no_words : (order : Order) (body names : List ℕ) (pieces : List (List ℕ)) (e : BtfFault)
      → order_in want bytes ≡ Ok order → sections_of order bytes ≡ Ok (body, names)
      → (is_begun based names && is_ended names) ≡ true
      → pieces_of order (length body) 24 (types + 1) body ≡ Ok pieces
      → pieces_fault order 24 (types + 1) (limit + length names) (types + length pieces) pieces
      ≡ Some e → file_of based types limit want bytes ≡ Err e
  unfolding file_of
  no_words order body names pieces e h s b p f = rw (h, s, b, p, f) refl

  pub all_well : (order : Order) (body names : List ℕ) (pieces : List (List ℕ))
      → order_in want bytes ≡ Ok order → sections_of order bytes ≡ Ok (body, names)
      → (is_begun based names && is_ended names) ≡ true
      → pieces_of order (length body) 24 (types + 1) body ≡ Ok pieces → pieces_fault order 24
      (types + 1) (limit + length names) (types + length pieces) pieces ≡ None
      → file_of based types limit want bytes
      ≡ Ok (record { order = order; pieces = pieces; names = names })
  unfolding file_of
  all_well order body names pieces h s b p f = rw (h, s, b, p, f) refl

-- the words of a piece are those where it was cut off
pub word_cut : (order : Order) (bytes : List ℕ) (n i : ℕ) → 4 * i + 4 ≤ n
    → word_in order (take n bytes) i ≡ word_in order bytes i
word_cut Little bytes n i le =
    let a = get_or-take n bytes (4 * i) 0 (omega arith) in
    let b = get_or-take n bytes (4 * i + 1) 0 (omega arith) in
    let c = get_or-take n bytes (4 * i + 2) 0 (omega arith) in
    let d = get_or-take n bytes (4 * i + 3) 0 (omega arith) in
    rw (a, b, c, d) refl
word_cut Big bytes n i le =
    let a = get_or-take n bytes (4 * i) 0 (omega arith) in
    let b = get_or-take n bytes (4 * i + 1) 0 (omega arith) in
    let c = get_or-take n bytes (4 * i + 2) 0 (omega arith) in
    let d = get_or-take n bytes (4 * i + 3) 0 (omega arith) in
    rw (a, b, c, d) refl

pub piece_there : (order : Order) (place id size : ℕ) (bytes : List ℕ) → head_of place id
    (word_in order bytes) (length bytes / 4) ≡ Ok size → IsPiece order (take (4 * size) bytes)
piece_there order place id size bytes h =
    let fit = head_fits place id (length bytes / 4) size (word_in order bytes) h in
    let few = fit.few in
    let some = fit.some in
    let w : word_in order (take (4 * size) bytes) 1 ≡ word_in order bytes 1 =
    word_cut order bytes (4 * size) 1 (omega (arith, some)) in
    record {
      layout = fit.is;
      laid = ap (λ (y : ℕ). layout_of (kind_in y)) w ∙ fit.laid;
      long = length-take-le (4 * size) bytes (omega (arith, few)) ∙ ap
          (λ (n : ℕ). 4 * n) (fit.size_is ∙ ap (λ (y : ℕ). type_width fit.is (vlen_in y)) (sym w));
    }

-- the pieces of so many bytes
pub record Cut (order : Order) (bytes : ℕ) (ps : List (List ℕ)) : Type 0 where
  pub each : (k : ℕ) → k < length ps → IsPiece order (get_or ps k [])
  pub short : (k : ℕ) → k < length ps → length (get_or ps k []) ≤ bytes
  pub few : 12 * length ps ≤ bytes

cut_none : (order : Order) (bytes : ℕ) (ps : List (List ℕ)) → [] ≡ ps → Cut order bytes ps
cut_none order bytes ps e =
    subst (λ (qs : List (List ℕ)). Cut order bytes qs) e (record {
      each = λ (k : ℕ) (lt : k < 0).
          absurd (omega arith);
      short = λ (k : ℕ) (lt : k < 0). absurd (omega arith);
      few = omega arith;
    })

cut_each : (order : Order) (p : List ℕ) (ps : List (List ℕ)) → IsPiece order p
    → ((k : ℕ) → k < length ps → IsPiece order (get_or ps k [])) → (k : ℕ) → k < suc (length ps)
    → IsPiece order (get_or (p ∷ ps) k [])
cut_each order p ps is each zero lt = is
cut_each order p ps is each (suc k) lt = each k (omega arith)

cut_short : (n m : ℕ) (p : List ℕ) (ps : List (List ℕ)) → length p ≤ n → m ≤ n
    → ((k : ℕ) → k < length ps → length (get_or ps k []) ≤ m) → (k : ℕ) → k < suc (length ps)
    → length (get_or (p ∷ ps) k []) ≤ n
cut_short n m p ps is le short zero lt = is
cut_short n m p ps is le short (suc k) lt = let s = short k (omega arith) in omega (arith, s)

cut_more : (order : Order) (place id size : ℕ) (bytes : List ℕ) (ps : List (List ℕ))
    → head_of place id (word_in order bytes) (length bytes / 4) ≡ Ok size
    → Cut order (length (drop (4 * size) bytes)) ps
    → Cut order (length bytes) (take (4 * size) bytes ∷ ps)
cut_more order place id size bytes ps h c =
    let fit = head_fits place id (length bytes / 4) size (word_in order bytes) h in
    let few = fit.few in
    let some = fit.some in
    let rest = c.few in
    let l = length-drop (4 * size) bytes in
    let f = length-take-le (4 * size) bytes (omega (arith, few)) in
    record {
      each = cut_each order (take (4 * size) bytes) ps
          (piece_there order place id size bytes h) c.each;
      short = cut_short (length bytes) (length (drop (4 * size) bytes)) (take (4 * size) bytes) ps
          (omega (arith, f, few)) (omega (arith, l)) c.short;
      few = omega (arith, l, few, some, rest);
    }

cut_on : (order : Order) (place id size : ℕ) (bytes : List ℕ) (r : Result (List (List ℕ)) BtfFault)
    (ps : List (List ℕ)) → head_of place id (word_in order bytes) (length bytes / 4) ≡ Ok size
    → ((qs : List (List ℕ)) → r ≡ Ok qs → Cut order (length (drop (4 * size) bytes)) qs)
    → (r >>= λ (rest : List (List ℕ)). Ok (take (4 * size) bytes ∷ rest)) ≡ Ok ps
    → Cut order (length bytes) ps
cut_on order place id size bytes (Ok qs) ps h next e =
    let q : take (4 * size) bytes ∷ qs ≡ ps = cc in
    subst (λ (xs : List (List ℕ)). Cut order (length bytes) xs) q
    (cut_more order place id size bytes qs h (next qs refl))
cut_on order place id size bytes (Err fault) ps h next e = cc

cut_head : (order : Order) (n place id : ℕ) (bytes : List ℕ) (ps : List (List ℕ))
    (h : Result ℕ BtfFault) → head_of place id (word_in order bytes) (length bytes / 4) ≡ h
    → ((size : ℕ) (qs : List (List ℕ)) → pieces_of order n (place + 4 * size) (id + 1)
    (drop (4 * size) bytes) ≡ Ok qs → Cut order (length (drop (4 * size) bytes)) qs)
    → (h >>= λ (size : ℕ). pieces_of order n (place + 4 * size) (id + 1) (drop (4 * size) bytes)
    >>= λ (rest : List (List ℕ)). Ok (take (4 * size) bytes ∷ rest)) ≡ Ok ps
    → Cut order (length bytes) ps
cut_head order n place id bytes ps (Ok size) h next e =
    cut_on order place id size bytes
    (pieces_of order n (place + 4 * size) (id + 1) (drop (4 * size) bytes)) ps h (next size) e
cut_head order n place id bytes ps (Err fault) h next e = cc

pub cut : (order : Order) (n place id : ℕ) (bytes : List ℕ) (ps : List (List ℕ))
    → pieces_of order n place id bytes ≡ Ok ps → Cut order (length bytes) ps
unfolding pieces_of
cut order zero place id bytes ps e = let q : [] ≡ ps = cc in cut_none order (length bytes) ps q
cut order (suc n) place id [] ps e = let q : [] ≡ ps = cc in cut_none order 0 ps q
cut order (suc n) place id (b ∷ bs) ps e =
    cut_head order n place id (b ∷ bs) ps
    (head_of place id (word_in order (b ∷ bs)) (length (b ∷ bs) / 4)) refl
    (λ (size : ℕ) (qs : List (List ℕ))
    (q : pieces_of order n (place + 4 * size) (id + 1) (drop (4 * size) (b ∷ bs)) ≡ Ok qs).
    cut order n (place + 4 * size) (id + 1) (drop (4 * size) (b ∷ bs)) qs q) e

-- the pieces as references
pub the_piece : (ps : List (Bor (List ℕ))) (k : ℕ) (d : Bor (List ℕ)) → k < length ps
    → get_or (map (λ (p : Bor (List ℕ)). p.now) ps) k [] ≡ (get_or ps k d).now
the_piece ps k d lt = get_or-map (λ (p : Bor (List ℕ)). p.now) ps k d [] lt

pub how_many : (ps : List (Bor (List ℕ)))
    → length (map (λ (p : Bor (List ℕ)). p.now) ps) ≡ length ps
how_many ps = length-map ps (λ (p : Bor (List ℕ)). p.now)

-- what `check_words` answers
pub a_fault : (o : Option BtfFault) (e : BtfFault) → Err e ≡ unless o → o ≡ Some e
a_fault None e h = cc
a_fault (Some fault) e h = let q : e ≡ fault = cc in (λ i. Some (sym q i))

pub no_fault : (o : Option BtfFault) → Ok tt ≡ unless o → o ≡ None
no_fault None h = refl
no_fault (Some fault) h = cc

-- a refusal goes on
pub fails_on : {X Y : Type 0} (e : BtfFault) (r : Result X BtfFault) (t : Result Y BtfFault)
    → Fails e r → (r ≡ Err e → t ≡ Err e) → Fails e t
fails_on BtfMagic r t h f = f h
fails_on BtfHeader r t h f = f h
fails_on (BtfTruncated a) r t h f = f h
fails_on (BtfKind a b c) r t h f = f h
fails_on (BtfInfo a b) r t h f = f h
fails_on (BtfName a b c) r t h f = f h
fails_on (BtfRef a b c) r t h f = f h
fails_on (BtfStrings a) r t h f = f h
fails_on Memory r t h f = tt

-- the fault in the pieces, by the pieces as references
pub same_fault : (order : Order) (first limit types n : ℕ) (ps qs : List (Bor (List ℕ)))
    (r : Result (Unit {0}) BtfFault) → qs ≡ ps → n ≡ length ps
    → r ≡ unless
    (pieces_fault order 24 first limit (types + n) (map (λ (p : Bor (List ℕ)). p.now) qs))
    → r ≡ unless (pieces_fault order 24 first limit (types
    + length (map (λ (p : Bor (List ℕ)). p.now) ps)) (map (λ (p : Bor (List ℕ)). p.now) ps))
same_fault order first limit types n ps qs r q m h =
    h ∙ ap (λ (xs : List (Bor (List ℕ))). unless
    (pieces_fault order 24 first limit (types + n) (map (λ (p : Bor (List ℕ)). p.now) xs))) q
    ∙ ap (λ (k : ℕ). unless (pieces_fault order 24 first limit (types + k)
    (map (λ (p : Bor (List ℕ)). p.now) ps))) (m ∙ sym (how_many ps))

-- the table over the parts of a file
pub table_refused : (before : Option Before) (want : Option Order) (bytes : List ℕ) (based : Bool)
    (types limit : ℕ) (e : BtfFault) → based ≡ is_some before → types ≡ length (types_before before)
    → limit ≡ length (names_before before)
    → Fails e (file_of based types limit want bytes) → Fails e (table_of before want bytes)
unfolding table_of
table_refused before want bytes based types limit e b t l h =
    fails_on e (file_of based types limit want bytes) (table_of before want bytes) h
    (λ (r : file_of based types limit want bytes ≡ Err e).
    let s : file_of (is_some before) (length (types_before before)) (length (names_before before))
    want bytes ≡ Err e = (λ i. file_of (sym b i) (sym t i) (sym l i) want bytes) ∙ r in
    rw s refl)

pub table_read : (before : Option Before) (want : Option Order) (bytes strings : List ℕ)
    (based : Bool) (types : ℕ) (f : File) (all : List CType) → based ≡ is_some before
    → types ≡ length (types_before before) → strings ≡ names_before before
    → file_of based types (length strings) want bytes ≡ Ok f
    → all ≡ types_before before ++ types_of (strings ++ f.names) f.order f.pieces
    → table_of before want bytes
    ≡ Ok (record { order = f.order; base = types; types = all; names = f.names })
unfolding table_of
table_read before want bytes strings based types f all b t l h a =
    let s : file_of (is_some before) (length (types_before before)) (length (names_before before))
    want bytes ≡ Ok f = (λ i. file_of (sym b i) (sym t i) (length (sym l i)) want bytes) ∙ h in
    let q : all
    ≡ types_before before ++ types_of (names_before before ++ f.names) f.order f.pieces = a ∙ ap
    (λ (xs : List ℕ). types_before before ++ types_of (xs ++ f.names) f.order f.pieces) l in
    rw s (λ i. let r : Result Decoded BtfFault = Ok
    (record { order = f.order; base = sym t i; types = sym q i; names = f.names }) in r)

pub still_some : {X Y : Type 0} (g : X → Y) (o : Option X) → is_some o ≡ is_some (option_map g o)
still_some g None = refl
still_some g (Some x) = refl
