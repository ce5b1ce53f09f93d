-- What is spelled is accepted.
use Rattle.std.proofs.Common.{◌≡◌, ℕ, zero, suc, ◌+◌, ◌*◌, ◌-◌, ◌/◌, ◌%◌, ◌<◌, ◌≤◌, ◌^◌, ◌==◌, ◌&&◌}
use Rattle.std.proofs.Common.{◌||◌, nat_lt, Bool, true, false, List, [], ◌∷◌, ◌++◌, length, take}
use Rattle.std.proofs.Common.{drop, get_or, slice_get, All, Option, None, Some, Result, Ok, Err}
use Rattle.std.proofs.Common.{if◌then◌else◌, refl, sym, ap, subst, ◌∙◌, arith, append_assoc}
use Rattle.std.proofs.Common.{append-nil}
use Rattle.std.specs.Prelude.{is_some}
use Rattle.std.specs.List.{AllZip, flat_map}
use Rattle.std.specs.Option.{option_or}
use Rattle.std.specs.Int.{from_le_bytes, from_be_bytes, w32}
use Rattle.std.proofs.lemmas.Bool.{eq-eqb, le-ltb}
use Rattle.std.proofs.lemmas.Grind.{flat_map-append}
use Rattle.std.proofs.lemmas.List.{drop-drop, length-append}
use Rattle.std.proofs.lemmas.Option.{slice_get-get_or}
use Rattle.std.proofs.Math.Seq.{drop-append_seam, take-append_seam}
use Rattle.dw_base.specs.declared.numbers.Order.{Order}
use Rattle.dw_base.specs.declared.numbers.Order.TheVariants.{Little, Big}
use Rattle.c_model.specs.Graph.{IsBelow, RefersWithin}
use Rattle.c_model.specs.Kinds.{IsWellFormed}
use Rattle.c_model.specs.declared.graph.CType.{CType}
use Rattle.dw_base.proofs.Bools.{or_true}
use Rattle.btf_codec.specs.Fields.{Field, fields_of}
use Rattle.btf_codec.specs.Gives.{EndsWithNul, Fails, base_seen}
use Rattle.btf_codec.specs.Reading.{Before, Decoded, first_past, file_of, head_of, ids_by, is_begun}
use Rattle.btf_codec.specs.Reading.{is_ended, is_header, is_wanted, names_before, names_by}
use Rattle.btf_codec.specs.Reading.{order_in, pieces_fault, pieces_of, sections_of, table_of}
use Rattle.btf_codec.specs.Reading.{types_before, types_of, vlen_in, word_in, words_at, words_fault}
use Rattle.btf_codec.specs.Spells.{BeginsEmpty, Spells, StandsFor, base_names, base_types}
use Rattle.btf_codec.specs.Spells.{header_bytes, word_bytes, words_bytes}
use Rattle.btf_codec.specs.declared.fault.BtfFault.{BtfFault}
use Rattle.btf_codec.specs.declared.fault.BtfFault.TheVariants.{BtfMagic, BtfHeader, BtfTruncated}
use Rattle.btf_codec.specs.declared.fault.BtfFault.TheVariants.{BtfKind, BtfInfo, BtfName, BtfRef}
use Rattle.btf_codec.specs.declared.fault.BtfFault.TheVariants.{BtfStrings, Memory}
use Rattle.btf_codec.specs.declared.layout.KindLayout.{KindLayout}
use Rattle.btf_codec.proofs.Accepted.{file_spells, length_words, names_seen, types_seen}
use Rattle.btf_codec.proofs.Alone.{spelled_alone}
use Rattle.btf_codec.proofs.Below.{no_fault_join}
use Rattle.btf_codec.proofs.Fitting.{TypeRead, all_true, head_read, type_read}
use Rattle.btf_codec.proofs.Gluing.{all_well, table_read}
use Rattle.btf_codec.proofs.Splitting.{at_end, width_some}
use Rattle.btf_codec.proofs.Wording.{AreBytes, four_next, word_read, words_listed}

-- the words of the first fields
record Split (X Y : Type 0) (R : X → Y → Type 0) (xs us : List X) (zs : List Y) : Type 0 where
  pub front : List Y
  pub back : List Y
  pub is : zs ≡ front ++ back
  pub first : AllZip R xs front
  pub rest : AllZip R us back

zip_split : {X Y : Type 0} (R : X → Y → Type 0) (xs us : List X) (zs : List Y)
    → AllZip R (xs ++ us) zs → Split X Y R xs us zs
zip_split R [] us zs h = record { front = []; back = zs; is = refl; first = tt; rest = h }
zip_split R (x ∷ xs) us [] h = absurd h
zip_split R (x ∷ xs) us (z ∷ zs) h =
    let s = zip_split R xs us zs h.1 in
    record {
      front = z ∷ s.front;
      back = s.back;
      is = (λ i. z ∷ s.is i);
      first = (h.0, s.first);
      rest = s.rest;
    }

all_left : (xs ys : List ℕ) → All (λ (w : ℕ). w < 2 ^ 32) (xs ++ ys)
    → All (λ (w : ℕ). w < 2 ^ 32) xs
all_left [] ys h k d lt = absurd (omega arith)
all_left (x ∷ xs) ys h zero d lt = h 0 d (omega arith)
all_left (x ∷ xs) ys h (suc k) d lt = all_left xs ys
    (λ (j e : ℕ) (l : j < length (xs ++ ys)). h (suc j) e (omega arith)) k d (omega arith)

all_right : (xs ys : List ℕ) → All (λ (w : ℕ). w < 2 ^ 32) (xs ++ ys)
    → All (λ (w : ℕ). w < 2 ^ 32) ys
all_right [] ys h = h
all_right (x ∷ xs) ys h =
    all_right xs ys (λ (j e : ℕ) (l : j < length (xs ++ ys)). h (suc j) e (omega arith))

-- one type among bytes
among : (s : List ℕ) (order : Order) (count : ℕ) (t : CType) (vs rest : List ℕ) → IsWellFormed t
    → All (IsBelow count) t.targets → All (λ (w : ℕ). w < 2 ^ 32) vs
    → AllZip (StandsFor s) (fields_of t) vs
    → TypeRead s (word_in order (words_bytes order vs ++ rest)) count (length vs)
among s order count t vs rest wf below small h =
    let listed : words_at (word_in order (words_bytes order vs ++ rest)) 0 1 (length vs) ≡ vs =
    words_listed (word_in order (words_bytes order vs ++ rest)) vs 0
    (λ (i : ℕ) (lt : i < length vs). let z : 0 + i ≡ i = omega arith in ap (λ (k : ℕ).
    word_in order (words_bytes order vs ++ rest) k) z ∙ word_read order vs rest i small lt) in
    type_read s (word_in order (words_bytes order vs ++ rest)) count t wf (length vs) below
    (subst (λ (ws : List ℕ). AllZip (StandsFor s) (fields_of t) ws) (sym listed) h)

no_fault : (s : List ℕ) (w : ℕ → ℕ) (count place id n : ℕ) → TypeRead s w count n
    → words_fault place id (length s) count w ≡ None
no_fault s w count place id n r =
    no_fault_join place id (length s) count w
    (ap (λ (o : Option KindLayout). first_past (length s) (names_by o w (vlen_in (w 1)))) r.laid
    ∙ r.names)
    (ap (λ (o : Option KindLayout). first_past (count + 1) (ids_by o w (vlen_in (w 1)))) r.laid
    ∙ r.ids)

first_fine : (order : Order) (place id limit count : ℕ) (p : List ℕ) (ps : List (List ℕ))
    → words_fault place id limit count (word_in order p) ≡ None
    → pieces_fault order (place + length p) (id + 1) limit count ps ≡ None
    → pieces_fault order place id limit count (p ∷ ps) ≡ None
unfolding pieces_fault
first_fine order place id limit count p ps h g = λ i. option_or (h i) (g i)

one_cut : (order : Order) (n place id size : ℕ) (bytes : List ℕ) (ps : List (List ℕ))
    → 0 < length bytes → head_of place id (word_in order bytes) (length bytes / 4) ≡ Ok size
    → pieces_of order n (place + 4 * size) (id + 1) (drop (4 * size) bytes) ≡ Ok ps
    → pieces_of order (suc n) place id bytes ≡ Ok (take (4 * size) bytes ∷ ps)
unfolding pieces_of
one_cut order n place id size [] ps lt h g = absurd (omega arith)
one_cut order n place id size (b ∷ bs) ps lt h g = rw h (rw g refl)

-- all types of the words
record TypesRead (s : List ℕ) (order : Order) (n place id count types : ℕ)
    (bytes : List ℕ) : Type 0 where
  pub pieces : List (List ℕ)
  pub cut : pieces_of order n place id bytes ≡ Ok pieces
  pub fault : pieces_fault order place id (length s) count pieces ≡ None
  pub many : length pieces ≡ types

no_types : (s : List ℕ) (order : Order) (n place id count : ℕ) (ws : List ℕ)
    → AllZip (StandsFor s) [] ws → TypesRead s order n place id count 0 (words_bytes order ws)
unfolding pieces_fault
no_types s order n place id count [] h =
    record { pieces = []; cut = at_end order n place id; fault = refl; many = refl }
no_types s order n place id count (w ∷ ws) h = absurd h

types_more : (s : List ℕ) (order : Order) (n place id count types : ℕ) (t : CType) (vs us : List ℕ)
    → IsWellFormed t → All (IsBelow count) t.targets → All (λ (w : ℕ). w < 2 ^ 32) vs
    → AllZip (StandsFor s) (fields_of t) vs
    → TypesRead s order n (place + 4 * length vs) (id + 1) count types (words_bytes order us)
    → TypesRead s order (suc n) place id count (suc types)
    (words_bytes order vs ++ words_bytes order us)
types_more s order n place id count types t vs us wf below small h rest =
    let p : List ℕ = words_bytes order vs in
    let bytes : List ℕ = words_bytes order vs ++ words_bytes order us in
    let long : length (words_bytes order vs) ≡ 4 * length vs = length_words order vs in
    let all : length (words_bytes order vs ++ words_bytes order us)
    ≡ length (words_bytes order vs) + length (words_bytes order us) =
    length-append (words_bytes order vs) (words_bytes order us) in
    let r = among s order count t vs (words_bytes order us) wf below small h in
    let alone : TypeRead s (word_in order (words_bytes order vs)) count (length vs) =
    subst (λ (bs : List ℕ). TypeRead s (word_in order bs) count (length vs))
    (append-nil (words_bytes order vs)) (among s order count t vs [] wf below small h) in
    let some = width_some r.layout
    (vlen_in (word_in order (words_bytes order vs ++ words_bytes order us) 1)) in
    let width = r.width in
    let head = head_read s (word_in order (words_bytes order vs ++ words_bytes order us)) count
    place id (length (words_bytes order vs ++ words_bytes order us) / 4) (length vs) r
    (omega (arith, long, all)) in
    let front : take (4 * length vs) (words_bytes order vs ++ words_bytes order us)
    ≡ words_bytes order vs =
    ap (λ (k : ℕ). take k (words_bytes order vs ++ words_bytes order us)) (sym long)
    ∙ take-append_seam (words_bytes order vs) (words_bytes order us) in
    let back : drop (4 * length vs) (words_bytes order vs ++ words_bytes order us)
    ≡ words_bytes order us =
    ap (λ (k : ℕ). drop k (words_bytes order vs ++ words_bytes order us)) (sym long)
    ∙ drop-append_seam (words_bytes order vs) (words_bytes order us) in
    let behind : pieces_of order n (place + 4 * length vs) (id + 1)
    (drop (4 * length vs) (words_bytes order vs ++ words_bytes order us)) ≡ Ok rest.pieces =
    ap (λ (bs : List ℕ). pieces_of order n (place + 4 * length vs) (id + 1) bs) back ∙ rest.cut in
    let filled : 0 < length (words_bytes order vs ++ words_bytes order us) =
    omega (arith, some, width, long, all) in
    record {
      pieces = words_bytes order vs ∷ rest.pieces;
      cut =
          one_cut order n place id (length vs)
          (words_bytes order vs ++ words_bytes order us) rest.pieces filled head behind
          ∙ ap (λ (q : List ℕ).
          let o : Result (List (List ℕ)) BtfFault = Ok (q ∷ rest.pieces) in o) front;
      fault =
          first_fine order place id (length s) count (words_bytes order vs) rest.pieces
          (no_fault s (word_in order (words_bytes order vs)) count place id (length vs) alone)
          (ap (λ (k : ℕ). pieces_fault order (place + k) (id + 1) (length s) count rest.pieces) long
          ∙ rest.fault);
      many = ap (λ (k : ℕ). suc k) rest.many;
    }

some_words : (s : List ℕ) (t : CType) (fs : List Field) (ws : List ℕ)
    → AllZip (StandsFor s) (fields_of t) ws → 1 ≤ length ws
unfolding fields_of
some_words s t fs [] h = absurd h
some_words s t fs (w ∷ ws) h = omega arith

types_read : (s : List ℕ) (order : Order) (own : List CType) (n place id count : ℕ) (ws : List ℕ)
    → All IsWellFormed own → RefersWithin count own → All (λ (w : ℕ). w < 2 ^ 32) ws
    → AllZip (StandsFor s) (flat_map fields_of own) ws
    → length (words_bytes order ws) ≤ n
    → TypesRead s order n place id count (length own) (words_bytes order ws)
types_read s order [] n place id count ws formed within small h fuel =
    no_types s order n place id count ws h
types_read s order (t ∷ ts) n place id count ws formed within small h fuel =
    let q = zip_split (StandsFor s) (fields_of t) (flat_map fields_of ts) ws h in
    let f = subst (λ (xs : List ℕ). All (λ (w : ℕ). w < 2 ^ 32) xs) q.is small in
    let e : words_bytes order ws ≡ words_bytes order q.front ++ words_bytes order q.back =
    ap (λ (xs : List ℕ). words_bytes order xs) q.is
    ∙ flat_map-append (word_bytes order) q.front q.back in
    let some : 1 ≤ length q.front = some_words s t (flat_map fields_of ts) q.front q.first in
    let l : length (words_bytes order ws) ≡ 4 * length q.front + length (words_bytes order q.back) =
    ap (λ (xs : List ℕ). length xs) e
    ∙ length-append (words_bytes order q.front) (words_bytes order q.back)
    ∙ ap (λ (k : ℕ). k + length (words_bytes order q.back)) (length_words order q.front) in
    let m : n ≡ suc (n - 1) = omega (arith, l, some, fuel) in
    let ih = types_read s order ts (n - 1) (place + 4 * length q.front) (id + 1) count q.back
    (λ (k : ℕ) (d : CType) (lt : k < length ts). formed (suc k) d (omega arith))
    (λ (k : ℕ) (d : CType) (lt : k < length ts). within (suc k) d (omega arith))
    (all_right q.front q.back f) q.rest (omega (arith, l, some, fuel)) in
    let all = types_more s order (n - 1) place id count (length ts) t q.front q.back (formed 0 t
    (omega arith)) (within 0 t (omega arith)) (all_left q.front q.back f) q.first ih in
    subst (λ (k : ℕ).
    TypesRead s order k place id count (length (t ∷ ts)) (words_bytes order ws)) (sym m)
    (subst (λ (bs : List ℕ). TypesRead s order (suc (n - 1)) place id count (length (t ∷ ts)) bs)
    (sym e) all)

-- the header
header_next : (order : Order) (a b i : ℕ) (rest : List ℕ) → word_in order (header_bytes order a b
    ++ rest) (suc i) ≡ word_in order (words_bytes order (24 ∷ 0 ∷ a ∷ a ∷ b ∷ []) ++ rest) i
header_next Little a b i rest = ap (λ (bs : List ℕ). from_le_bytes w32 bs)
    (four_next _ _ _ _ i (words_bytes Little (24 ∷ 0 ∷ a ∷ a ∷ b ∷ []) ++ rest))
header_next Big a b i rest = ap (λ (bs : List ℕ). from_be_bytes w32 bs)
    (four_next _ _ _ _ i (words_bytes Big (24 ∷ 0 ∷ a ∷ a ∷ b ∷ []) ++ rest))

five_small : (a b : ℕ) → a < 2 ^ 32 → b < 2 ^ 32
    → All (λ (w : ℕ). w < 2 ^ 32) (24 ∷ 0 ∷ a ∷ a ∷ b ∷ [])
five_small a b la lb zero d lt = omega arith
five_small a b la lb (suc zero) d lt = omega arith
five_small a b la lb (suc (suc zero)) d lt = la
five_small a b la lb (suc (suc (suc zero))) d lt = la
five_small a b la lb (suc (suc (suc (suc zero)))) d lt = lb
five_small a b la lb (suc (suc (suc (suc (suc k))))) d lt = absurd (omega arith)

header_word : (order : Order) (a b i : ℕ) (rest : List ℕ) → a < 2 ^ 32 → b < 2 ^ 32 → i < 5
    → word_in order (header_bytes order a b ++ rest) (suc i) ≡ get_or (24 ∷ 0 ∷ a ∷ a ∷ b ∷ []) i 0
header_word order a b i rest la lb lt = header_next order a b i rest
    ∙ word_read order (24 ∷ 0 ∷ a ∷ a ∷ b ∷ []) rest i (five_small a b la lb) lt

version_there : (order : Order) (a b : ℕ) (rest : List ℕ) → (get_or (header_bytes order a b ++ rest)
    2 0 == 1 && get_or (header_bytes order a b ++ rest) 3 0 == 0) ≡ true
version_there Little a b rest = refl
version_there Big a b rest = refl

magic_there : (want : Option Order) (order : Order) (a b : ℕ) (rest : List ℕ)
    → is_wanted want order ≡ true → order_in want (header_bytes order a b ++ rest) ≡ Ok order
magic_there want Little a b rest h = ap
    (λ (t : Bool). let r : Result Order BtfFault = (if t then Ok Little else Err BtfMagic) in r) h
magic_there want Big a b rest h =
    ap (λ (t : Bool). let r : Result Order BtfFault = (if t then Ok Big else Err BtfMagic) in r) h

behind_header : (order : Order) (a b : ℕ) (rest : List ℕ)
    → drop 24 (header_bytes order a b ++ rest) ≡ rest
behind_header Little a b rest = refl
behind_header Big a b rest = refl

length_header : (order : Order) (a b : ℕ) (rest : List ℕ)
    → length (header_bytes order a b ++ rest) ≡ 24 + length rest
length_header Little a b rest = omega arith
length_header Big a b rest = omega arith

is_header_there : (order : Order) (bytes : List ℕ)
    → (get_or bytes 2 0 == 1 && get_or bytes 3 0 == 0) ≡ true → word_in order bytes 1 ≡ 24
    → word_in order bytes 2 ≡ 0 → word_in order bytes 3 % 4 ≡ 0
    → word_in order bytes 4 ≡ word_in order bytes 3 → length bytes
    ≡ 24 + word_in order bytes 3 + word_in order bytes 5 → is_header order bytes ≡ true
is_header_there order bytes v a b c d e =
    λ i. v i && eq-eqb (word_in order bytes 1) 24 a i && eq-eqb (word_in order bytes 2) 0 b i
    && eq-eqb (word_in order bytes 3 % 4) 0 c i
    && eq-eqb (word_in order bytes 4) (word_in order bytes 3) d i
    && eq-eqb (length bytes) (24 + word_in order bytes 3 + word_in order bytes 5) e i

sections_there : (order : Order) (body names : List ℕ) → length body < 2 ^ 32 → length body % 4 ≡ 0
    → length names < 2 ^ 32
    → sections_of order (header_bytes order (length body) (length names) ++ (body ++ names))
    ≡ Ok (body, names)
sections_there order body names la quarters lb =
    let bytes : List ℕ = header_bytes order (length body) (length names) ++ (body ++ names) in
    let h = length_header order (length body) (length names) (body ++ names) in
    let l = length-append body names in
    let w1 = header_word order (length body) (length names) 0 (body ++ names) la lb (omega arith) in
    let w2 = header_word order (length body) (length names) 1 (body ++ names) la lb (omega arith) in
    let w3 = header_word order (length body) (length names) 2 (body ++ names) la lb (omega arith) in
    let w4 = header_word order (length body) (length names) 3 (body ++ names) la lb (omega arith) in
    let w5 = header_word order (length body) (length names) 4 (body ++ names) la lb (omega arith) in
    let t3 : ℕ =
    word_in order (header_bytes order (length body) (length names) ++ (body ++ names)) 3 in
    let enough : nat_lt
    (length (header_bytes order (length body) (length names) ++ (body ++ names))) 24 ≡ false =
    le-ltb (length (header_bytes order (length body) (length names) ++ (body ++ names))) 24
    (omega (arith, h)) in
    let long : length (header_bytes order (length body) (length names) ++ (body ++ names))
    ≡ 24 + word_in order (header_bytes order (length body) (length names) ++ (body ++ names)) 3
    + word_in order (header_bytes order (length body) (length names) ++ (body ++ names)) 5 =
    omega (arith, h, l, w3, w5) in
    let good = is_header_there order (header_bytes order (length body) (length names)
    ++ (body ++ names)) (version_there order (length body) (length names) (body ++ names)) w1 w2
    (ap (λ (k : ℕ). k % 4) w3 ∙ quarters) (w4 ∙ sym w3) long in
    let rest = behind_header order (length body) (length names) (body ++ names) in
    let first : take
    (word_in order (header_bytes order (length body) (length names) ++ (body ++ names)) 3)
    (drop 24 (header_bytes order (length body) (length names) ++ (body ++ names))) ≡ body =
    (λ i. take (w3 i) (rest i)) ∙ take-append_seam body names in
    let second : drop (24 + word_in order (header_bytes order (length body) (length names) ++ (body
    ++ names)) 3) (header_bytes order (length body) (length names) ++ (body ++ names)) ≡ names =
    ap (λ (k : ℕ).
    drop (24 + k) (header_bytes order (length body) (length names) ++ (body ++ names))) w3
    ∙ sym (drop-drop (length body) 24
    (header_bytes order (length body) (length names) ++ (body ++ names)))
    ∙ ap (λ (xs : List ℕ). drop (length body) xs) rest
    ∙ drop-append_seam body names in
    (λ i. if enough i then Err BtfHeader else if good i then Ok (first i, second i)
    else Err BtfHeader)

-- the strings
begun_there : (before : Option Before) (names : List ℕ) → BeginsEmpty (base_seen before) names
    → is_begun (is_some before) names ≡ true
begun_there None [] h = cc
begun_there None (x ∷ xs) h = let q : x ≡ 0 = cc in eq-eqb x 0 q
begun_there (Some b) [] h = refl
begun_there (Some b) (x ∷ xs) h = refl

ended_there : (names : List ℕ) → (0 < length names → slice_get names (length names - 1) ≡ Some 0)
    → is_ended names ≡ true
ended_there [] h = refl
ended_there (x ∷ xs) h =
    let s = h (omega arith) in
    let g : Some (get_or (x ∷ xs) (length (x ∷ xs) - 1) 0) ≡ Some 0 =
    sym (slice_get-get_or (x ∷ xs) (length (x ∷ xs) - 1) 0 (omega arith)) ∙ s in
    let q : get_or (x ∷ xs) (length (x ∷ xs) - 1) 0 ≡ 0 = cc in
    ap (λ (b : Bool). (length (x ∷ xs) == 0) || b)
    (eq-eqb (get_or (x ∷ xs) (length (x ∷ xs) - 1) 0) 0 q) ∙ or_true (length (x ∷ xs) == 0)

-- the whole file
record FileRead (based : Bool) (types limit : ℕ) (want : Option Order) (order : Order)
    (names bytes : List ℕ) : Type 0 where
  pub pieces : List (List ℕ)
  pub read : file_of based types limit want bytes
      ≡ Ok (record { order = order; pieces = pieces; names = names })

file_read : (before : Option Before) (want : Option Order) (order : Order) (own : List CType) (names
    bytes : List ℕ) → Spells (base_seen before) order own names bytes → is_wanted want order ≡ true
    → FileRead (is_some before) (length (types_before before))
    (length (names_before before)) want order names bytes
file_read before want order own names bytes p wanted =
    let body : List ℕ = words_bytes order p.words in
    let long : length (words_bytes order p.words) ≡ 4 * length p.words =
    length_words order p.words in
    let small : length (words_bytes order p.words) < 2 ^ 32 = omega (arith, long, p.types_length) in
    let e : bytes ≡ header_bytes order (length (words_bytes order p.words)) (length names)
    ++ (words_bytes order p.words ++ names) =
    p.whole
    ∙ append_assoc (header_bytes order (4 * length p.words) (length names))
    (words_bytes order p.words) names
    ∙ ap (λ (k : ℕ). header_bytes order k (length names) ++ (words_bytes order p.words ++ names))
    (sym long) in
    let s : List ℕ = base_names (base_seen before) ++ names in
    let total : ℕ = base_types (base_seen before) + length own in
    let r = types_read (base_names (base_seen before) ++ names) order own (length (words_bytes order
    p.words)) 24 (length (types_before before) + 1) (base_types (base_seen before) + length own)
    p.words p.formed p.within p.narrow p.fields (omega arith) in
    let limit : length (base_names (base_seen before) ++ names)
    ≡ length (names_before before) + length names =
    length-append (base_names (base_seen before)) names
    ∙ ap (λ (xs : List ℕ). length xs + length names) (names_seen before) in
    let count : base_types (base_seen before) + length own ≡ length (types_before before)
    + length r.pieces = omega (arith, types_seen before, r.many) in
    let fault : pieces_fault order 24 (length (types_before before) + 1) (length (names_before
    before) + length names) (length (types_before before) + length r.pieces) r.pieces ≡ None =
    (λ i. pieces_fault order 24 (length (types_before before) + 1) (sym limit i)
    (sym count i) r.pieces) ∙ r.fault in
    record {
      pieces = r.pieces;
      read =
          all_well (is_some before) (length (types_before before)) (length (names_before before))
          want bytes order (words_bytes order p.words) names r.pieces
          (ap (λ (bs : List ℕ). order_in want bs) e ∙ magic_there want order (length (words_bytes
          order p.words)) (length names) (words_bytes order p.words ++ names) wanted)
          (ap (λ (bs : List ℕ). sections_of order bs) e ∙ sections_there order
          (words_bytes order p.words) names small (omega (arith, long)) p.names_length)
          (all_true (is_begun (is_some before) names) (is_ended names)
          (begun_there before names p.begins) (ended_there names p.ends)) r.cut fault;
    }

-- a spelled table is the one that is read
pub complete : (before : Option Before) (want : Option Order) (order : Order) (own : List CType)
    (names bytes : List ℕ) → AreBytes bytes → EndsWithNul (names_before before)
    → Spells (base_seen before) order own names bytes → is_wanted want order ≡ true
    → table_of before want bytes ≡ Ok (record {
      order = order;
      base = length (types_before before);
      types = types_before before ++ own;
      names = names;
    })
complete before want order own names bytes h ends p wanted =
    let f = file_read before want order own names bytes p wanted in
    let others : List CType = types_of (names_before before ++ names) order f.pieces in
    let t = table_read before want bytes (names_before before) (is_some before)
    (length (types_before before)) (record { order = order; pieces = f.pieces; names = names })
    (types_before before ++ types_of (names_before before ++ names) order f.pieces) refl refl
    refl f.read refl in
    let k = file_spells before want order bytes names f.pieces h ends f.read in
    let same = spelled_alone (base_seen before) order own
    (types_of (names_before before ++ names) order f.pieces) names names bytes p k in
    t ∙ ap (λ (ts : List CType). let r : Result Decoded BtfFault = Ok
    (record {
      order = order;
      base = length (types_before before);
      types = types_before before ++ ts;
      names = names;
    }) in r) same.0

-- what is refused for want of memory alone
pub memory_alone : (e : BtfFault) (r : Result Decoded BtfFault) (t : Decoded) → Fails e r → r ≡ Ok t
    → e ≡ Memory
memory_alone BtfMagic r t h f = cc
memory_alone BtfHeader r t h f = cc
memory_alone (BtfTruncated a) r t h f = cc
memory_alone (BtfKind a b c) r t h f = cc
memory_alone (BtfInfo a b) r t h f = cc
memory_alone (BtfName a b c) r t h f = cc
memory_alone (BtfRef a b c) r t h f = cc
memory_alone (BtfStrings a) r t h f = cc
memory_alone Memory r t h f = refl

pub is_own_order : (order : Order) → is_wanted (Some order) order ≡ true
is_own_order Little = refl
is_own_order Big = refl
