-- The pieces of a file, joined: their words stand for the fields of the types that they show.
use Rattle.std.proofs.Common.{◌≡◌, ℕ, zero, suc, ◌+◌, ◌*◌, ◌/◌, ◌<◌, ◌≤◌, ◌^◌, nat_lt, Bool, true}
use Rattle.std.proofs.Common.{false, List, [], ◌∷◌, ◌++◌, length, take, drop, All, Option, None}
use Rattle.std.proofs.Common.{Some, Result, Ok, Err, if◌then◌else◌, refl, sym, ap, subst, ◌∙◌}
use Rattle.std.proofs.Common.{arith}
use Rattle.std.specs.List.{AllZip, flat_map}
use Rattle.std.specs.Option.{option_or}
use Rattle.std.proofs.lemmas.Bool.{ltb-false}
use Rattle.std.proofs.lemmas.Grind.{flat_map-append}
use Rattle.std.proofs.lemmas.List.{get_or-drop, length-drop, length-take-le, nil_from_length}
use Rattle.std.proofs.lemmas.List.{take-append-drop, take_all}
use Rattle.dw_base.specs.Texts.{text_of}
use Rattle.dw_base.specs.declared.numbers.Order.{Order}
use Rattle.c_model.specs.Graph.{IsBelow, RefersWithin}
use Rattle.c_model.specs.Kinds.{IsWellFormed}
use Rattle.c_model.specs.declared.graph.CType.{CType}
use Rattle.btf_codec.specs.Fields.{fields_of, layout_of}
use Rattle.btf_codec.specs.Reading.{◌>>=◌, checked_width, first_past, head_of, ids_by, is_info}
use Rattle.btf_codec.specs.Reading.{kind_in}
use Rattle.btf_codec.specs.Reading.{name_at, names_by, pieces_fault, pieces_of, places, type_by}
use Rattle.btf_codec.specs.Reading.{decoded_type, type_width, types_of, vlen_in, word_in, words_at}
use Rattle.btf_codec.specs.Reading.{words_fault}
use Rattle.btf_codec.specs.Spells.{StandsFor, word_bytes, words_bytes}
use Rattle.btf_codec.specs.declared.fault.BtfFault.{BtfFault}
use Rattle.btf_codec.specs.declared.fault.BtfFault.TheVariants.{BtfTruncated, BtfInfo}
use Rattle.btf_codec.specs.declared.layout.KindLayout.{KindLayout}
use Rattle.btf_codec.proofs.Below.{ids_below, no_fault_split}
use Rattle.btf_codec.proofs.Gluing.{word_cut}
use Rattle.btf_codec.proofs.DecodedTypes.{type_formed, type_stands}
use Rattle.btf_codec.proofs.Splitting.{width_some}
use Rattle.btf_codec.proofs.Wording.{AreBytes, word_small, words_again}

-- a type that has passed its checks
pub record Passed (w : ℕ → ℕ) (size left : ℕ) : Type 0 where
  pub layout : KindLayout
  pub laid : layout_of (kind_in (w 1)) ≡ Some layout
  pub info : is_info layout (w 1) (w 2) ≡ true
  pub size_is : size ≡ type_width layout (vlen_in (w 1))
  pub few : size ≤ left

sized : (place id left size : ℕ) (w : ℕ → ℕ) (layout : KindLayout) (a b : Bool)
    → layout_of (kind_in (w 1)) ≡ Some layout → is_info layout (w 1) (w 2) ≡ a
    → nat_lt left (type_width layout (vlen_in (w 1))) ≡ b
    → ◌≡◌ {A = Result ℕ BtfFault} (if a then (if b then Err (BtfTruncated place)
    else Ok (type_width layout (vlen_in (w 1)))) else Err (BtfInfo place id)) (Ok size)
    → Passed w size left
sized place id left size w layout true true l h f e = cc
sized place id left size w layout true false l h f e =
    let q : type_width layout (vlen_in (w 1)) ≡ size = cc in
    let le : type_width layout (vlen_in (w 1)) ≤ left =
    ltb-false left (type_width layout (vlen_in (w 1))) f in
    record { layout = layout; laid = l; info = h; size_is = sym q; few = omega (arith, q, le) }
sized place id left size w layout false b l h f e = cc

passed_by : (place id left size : ℕ) (w : ℕ → ℕ) (o : Option KindLayout)
    → layout_of (kind_in (w 1)) ≡ o
    → checked_width place id (w 1) (w 2) left o ≡ Ok size → Passed w size left
passed_by place id left size w None l e = cc
passed_by place id left size w (Some layout) l e = sized place id left size w layout
    (is_info layout (w 1) (w 2)) (nat_lt left (type_width layout (vlen_in (w 1)))) l refl refl e

headed : (place id left size : ℕ) (w : ℕ → ℕ) (b : Bool)
    → ◌≡◌ {A = Result ℕ BtfFault} (if b then Err (BtfTruncated place)
    else checked_width place id (w 1)
    (w 2) left (layout_of (kind_in (w 1)))) (Ok size) → Passed w size left
headed place id left size w true e = cc
headed place id left size w false e =
    passed_by place id left size w (layout_of (kind_in (w 1))) refl e

head_passed : (place id left size : ℕ) (w : ℕ → ℕ) → head_of place id w left ≡ Ok size
    → Passed w size left
head_passed place id left size w e = headed place id left size w (nat_lt left 3) e

-- the words of pieces
abbrev pub piece_words : Order → List ℕ → List ℕ
piece_words order p = words_at (word_in order p) 0 1 (length p / 4)

abbrev pub pieces_words : Order → List (List ℕ) → List ℕ
pieces_words order ps = flat_map (piece_words order) ps

-- a piece of bytes that has passed its checks
pub record IsChecked (order : Order) (p : List ℕ) : Type 0 where
  pub layout : KindLayout
  pub laid : layout_of (kind_in (word_in order p 1)) ≡ Some layout
  pub info : is_info layout (word_in order p 1) (word_in order p 2) ≡ true
  pub long : length p / 4 ≡ type_width layout (vlen_in (word_in order p 1))
  pub bytes : AreBytes p

-- the pieces of some bytes, and no more than those
pub record Joined (order : Order) (bytes : List ℕ) (ps : List (List ℕ)) : Type 0 where
  pub each : All (IsChecked order) ps
  pub whole : words_bytes order (pieces_words order ps) ≡ bytes

pub take_bytes : (n : ℕ) (bytes : List ℕ) → AreBytes bytes → AreBytes (take n bytes)
take_bytes zero bytes h i = omega arith
take_bytes (suc n) [] h i = omega arith
take_bytes (suc n) (b ∷ bs) h zero = h 0
take_bytes (suc n) (b ∷ bs) h (suc i) = take_bytes n bs (λ (k : ℕ). h (suc k)) i

pub drop_bytes : (n : ℕ) (bytes : List ℕ) → AreBytes bytes → AreBytes (drop n bytes)
drop_bytes n bytes h i = let e = get_or-drop n bytes i 0 in omega (arith, e, h (n + i))

pub first_checked : (order : Order) (place id size : ℕ) (bytes : List ℕ) → AreBytes bytes
    → head_of place id (word_in order bytes) (length bytes / 4) ≡ Ok size
    → IsChecked order (take (4 * size) bytes)
first_checked order place id size bytes h e =
    let p = head_passed place id (length bytes / 4) size (word_in order bytes) e in
    let few = p.few in
    let is = p.size_is in
    let some = width_some p.layout (vlen_in (word_in order bytes 1)) in
    let l = length-take-le (4 * size) bytes (omega (arith, few)) in
    let w : word_in order (take (4 * size) bytes) 1 ≡ word_in order bytes 1 =
    word_cut order bytes (4 * size) 1 (omega (arith, some, is)) in
    let v : word_in order (take (4 * size) bytes) 2 ≡ word_in order bytes 2 =
    word_cut order bytes (4 * size) 2 (omega (arith, some, is)) in
    let quarter : length (take (4 * size) bytes) / 4 ≡ size = omega (arith, l) in
    record {
      layout = p.layout;
      laid = ap (λ (y : ℕ). layout_of (kind_in y)) w ∙ p.laid;
      info = (λ i. is_info p.layout (w i) (v i)) ∙ p.info;
      long = quarter ∙ is ∙ ap (λ (y : ℕ). type_width p.layout (vlen_in y)) (sym w);
      bytes = take_bytes (4 * size) bytes h;
    }

all_cons : {X : Type 0} (P : X → Type 0) (x : X) (xs : List X) → P x → All P xs → All P (x ∷ xs)
all_cons P x xs h hs zero d lt = h
all_cons P x xs h hs (suc k) d lt = hs k d (omega arith)

pub whole_piece : (order : Order) (p : List ℕ) → AreBytes p → 4 * (length p / 4) ≡ length p
    → words_bytes order (piece_words order p) ≡ p
whole_piece order p h e = words_again order p 0 (length p / 4) h (omega (arith, e))
    ∙ ap (λ (n : ℕ). take n p) e ∙ take_all (length p) p (omega arith)

joined_more : (order : Order) (place id size : ℕ) (bytes : List ℕ) (ps : List (List ℕ))
    → AreBytes bytes → head_of place id (word_in order bytes) (length bytes / 4) ≡ Ok size
    → Joined order (drop (4 * size) bytes) ps → Joined order bytes (take (4 * size) bytes ∷ ps)
joined_more order place id size bytes ps h e j =
    let few = (head_passed place id (length bytes / 4) size (word_in order bytes) e).few in
    let l = length-take-le (4 * size) bytes (omega (arith, few)) in
    record {
      each = all_cons (IsChecked order) (take (4 * size) bytes) ps
          (first_checked order place id size bytes h e) j.each;
      whole =
          flat_map-append (word_bytes order) (piece_words order (take (4 * size) bytes))
          (pieces_words order ps)
          ∙ (λ i. whole_piece order (take (4 * size) bytes) (take_bytes (4 * size) bytes h)
          (omega (arith, l)) i ++ j.whole i)
          ∙ take-append-drop (4 * size) bytes;
    }

joined_on : (order : Order) (place id size : ℕ) (bytes : List ℕ)
    (r : Result (List (List ℕ)) BtfFault) (ps : List (List ℕ)) → AreBytes bytes
    → head_of place id (word_in order bytes) (length bytes / 4) ≡ Ok size
    → ((qs : List (List ℕ)) → r ≡ Ok qs → Joined order (drop (4 * size) bytes) qs)
    → (r >>= λ (rest : List (List ℕ)). Ok (take (4 * size) bytes ∷ rest)) ≡ Ok ps
    → Joined order bytes ps
joined_on order place id size bytes (Ok qs) ps h e next f =
    let q : take (4 * size) bytes ∷ qs ≡ ps = cc in
    subst (λ (xs : List (List ℕ)). Joined order bytes xs) q
    (joined_more order place id size bytes qs h e (next qs refl))
joined_on order place id size bytes (Err fault) ps h e next f = cc

joined_head : (order : Order) (n place id : ℕ) (bytes : List ℕ) (ps : List (List ℕ))
    (r : Result ℕ BtfFault) → AreBytes bytes → length bytes ≤ suc n
    → head_of place id (word_in order bytes) (length bytes / 4) ≡ r
    → ((size : ℕ) (qs : List (List ℕ)) → length (drop (4 * size) bytes) ≤ n
    → pieces_of order n (place + 4 * size) (id + 1) (drop (4 * size) bytes) ≡ Ok qs
    → Joined order (drop (4 * size) bytes) qs)
    → (r >>= λ (size : ℕ). pieces_of order n (place + 4 * size) (id + 1) (drop (4 * size) bytes)
    >>= λ (rest : List (List ℕ)). Ok (take (4 * size) bytes ∷ rest)) ≡ Ok ps
    → Joined order bytes ps
joined_head order n place id bytes ps (Ok size) h fuel e next f =
    let p = head_passed place id (length bytes / 4) size (word_in order bytes) e in
    let some = width_some p.layout (vlen_in (word_in order bytes 1)) in
    let l : length (drop (4 * size) bytes) ≤ n =
    omega (arith, fuel, some, p.size_is, p.few, length-drop (4 * size) bytes) in
    joined_on order place id size bytes (pieces_of order n (place + 4 * size) (id + 1)
    (drop (4 * size) bytes)) ps h e (λ (qs : List (List ℕ)). next size qs l) f
joined_head order n place id bytes ps (Err fault) h fuel e next f = cc

joined_none : (order : Order) (bytes : List ℕ) (ps : List (List ℕ)) → bytes ≡ [] → [] ≡ ps
    → Joined order bytes ps
joined_none order bytes ps b e =
    subst (λ (bs : List ℕ). Joined order bs ps) (sym b)
    (subst (λ (qs : List (List ℕ)). Joined order [] qs) e
    (record { each = λ (k : ℕ) (d : List ℕ) (lt : k < 0). absurd (omega arith); whole = refl }))

pub joined : (order : Order) (n place id : ℕ) (bytes : List ℕ) (ps : List (List ℕ)) → AreBytes bytes
    → length bytes ≤ n → pieces_of order n place id bytes ≡ Ok ps → Joined order bytes ps
unfolding pieces_of
joined order zero place id bytes ps h fuel e = let q : [] ≡ ps = cc in
    joined_none order bytes ps (nil_from_length bytes (omega arith)) q
joined order (suc n) place id [] ps h fuel e = let q : [] ≡ ps = cc in
    joined_none order [] ps refl q
joined order (suc n) place id (b ∷ bs) ps h fuel e =
    joined_head order n place id (b ∷ bs) ps
    (head_of place id (word_in order (b ∷ bs)) (length (b ∷ bs) / 4)) h fuel refl
    (λ (size : ℕ) (qs : List (List ℕ)) (l : length (drop (4 * size) (b ∷ bs)) ≤ n)
    (q : pieces_of order n (place + 4 * size) (id + 1) (drop (4 * size) (b ∷ bs)) ≡ Ok qs).
    joined order n (place + 4 * size) (id + 1) (drop (4 * size) (b ∷ bs)) qs
    (drop_bytes (4 * size) (b ∷ bs) h) l q) e

-- the types of pieces without a fault
pub record Typed (s : List ℕ) (order : Order) (count : ℕ) (ps : List (List ℕ)) : Type 0 where
  pub formed : All IsWellFormed (types_of s order ps)
  pub within : RefersWithin count (types_of s order ps)
  pub fields : AllZip (StandsFor s) (flat_map fields_of (types_of s order ps))
      (pieces_words order ps)
  pub narrow : All (λ (w : ℕ). w < 2 ^ 32) (pieces_words order ps)

no_first : (a b : Option BtfFault) → option_or a b ≡ None → (a ≡ None) × (b ≡ None)
no_first None b h = (refl, h)
no_first (Some fault) b h = cc

fault_split : (order : Order) (place id limit count : ℕ) (p : List ℕ) (ps : List (List ℕ))
    → pieces_fault order place id limit count (p ∷ ps) ≡ None
    → (words_fault place id limit count (word_in order p) ≡ None)
    × (pieces_fault order (place + length p) (id + 1) limit count ps ≡ None)
unfolding pieces_fault
fault_split order place id limit count p ps h = no_first (words_fault place id limit count
    (word_in order p)) (pieces_fault order (place + length p) (id + 1) limit count ps) h

pub zip_both : {X Y : Type 0} (R : X → Y → Type 0) (xs us : List X) (ys vs : List Y)
    → AllZip R xs ys → AllZip R us vs → AllZip R (xs ++ us) (ys ++ vs)
zip_both R [] us [] vs h g = g
zip_both R [] us (y ∷ ys) vs h g = absurd h
zip_both R (x ∷ xs) us [] vs h g = absurd h
zip_both R (x ∷ xs) us (y ∷ ys) vs h g = (h.0, zip_both R xs us ys vs h.1 g)

all_both : (xs ys : List ℕ) → All (λ (w : ℕ). w < 2 ^ 32) xs → All (λ (w : ℕ). w < 2 ^ 32) ys
    → All (λ (w : ℕ). w < 2 ^ 32) (xs ++ ys)
all_both [] ys h g = g
all_both (x ∷ xs) ys h g = all_cons (λ (w : ℕ). w < 2 ^ 32) x (xs ++ ys) (h 0 0 (omega arith))
    (all_both xs ys (λ (k d : ℕ) (lt : k < length xs). h (suc k) d (omega arith)) g)

words_small : (order : Order) (p : List ℕ) (at n : ℕ) → AreBytes p
    → All (λ (w : ℕ). w < 2 ^ 32) (words_at (word_in order p) at 1 n)
unfolding places
words_small order p at zero h = λ (k d : ℕ) (lt : k < 0). absurd (omega arith)
words_small order p at (suc n) h = all_cons (λ (w : ℕ). w < 2 ^ 32) (word_in order p at) (words_at
    (word_in order p) (at + 1) 1 n) (word_small order p at h) (words_small order p (at + 1) n h)

-- one piece
record OneTyped (s : List ℕ) (count : ℕ) (t : CType) (ws : List ℕ) : Type 0 where
  pub formed : IsWellFormed t
  pub within : All (IsBelow count) t.targets
  pub fields : AllZip (StandsFor s) (fields_of t) ws

decoded_by : (s : List ℕ) (w : ℕ → ℕ) (o : Option KindLayout) → layout_of (kind_in (w 1)) ≡ o
    → type_by o s w ≡ decoded_type s w
unfolding decoded_type
decoded_by s w o e = ap (λ (l : Option KindLayout). type_by l s w) (sym e)

one_typed : (s : List ℕ) (order : Order) (place id count : ℕ) (p : List ℕ)
    → ((x : ℕ) → x < length s → text_of s x ≡ Some (name_at s x)) → IsChecked order p
    → words_fault place id (length s) count (word_in order p) ≡ None
    → OneTyped s count (decoded_type s (word_in order p)) (piece_words order p)
one_typed s order place id count p texts c h =
    let w : ℕ → ℕ = word_in order p in
    let small : (i : ℕ) → word_in order p i < 2 ^ 32 = λ (i : ℕ). word_small order p i c.bytes in
    let f = no_fault_split place id (length s) count (word_in order p) h in
    let names : first_past (length s)
    (names_by (Some c.layout) (word_in order p) (vlen_in (word_in order p 1))) ≡ None =
    ap (λ (o : Option KindLayout). first_past (length s)
    (names_by o (word_in order p) (vlen_in (word_in order p 1)))) (sym c.laid) ∙ f.0 in
    let ids : first_past (count + 1)
    (ids_by (Some c.layout) (word_in order p) (vlen_in (word_in order p 1))) ≡ None =
    ap (λ (o : Option KindLayout). first_past (count + 1)
    (ids_by o (word_in order p) (vlen_in (word_in order p 1)))) (sym c.laid) ∙ f.1 in
    let one : OneTyped s count (type_by (Some c.layout) s (word_in order p)) (words_at
    (word_in order p) 0 1 (type_width c.layout (vlen_in (word_in order p 1)))) = record {
      formed = type_formed s (word_in order p) small texts c.layout c.laid c.info;
      within = ids_below count
          (ids_by (Some c.layout) (word_in order p) (vlen_in (word_in order p 1))) ids;
      fields = type_stands s (word_in order p) small texts c.layout c.laid c.info names;
    } in
    subst (λ (n : ℕ). OneTyped s count (decoded_type s (word_in order p))
    (words_at (word_in order p) 0 1 n)) (sym c.long)
    (subst (λ (t : CType). OneTyped s count t (words_at (word_in order p) 0 1 (type_width c.layout
    (vlen_in (word_in order p 1))))) (decoded_by s (word_in order p) (Some c.layout) c.laid) one)

pub all_typed : (s : List ℕ) (order : Order) (place id count : ℕ) (ps : List (List ℕ))
    → ((x : ℕ) → x < length s → text_of s x ≡ Some (name_at s x)) → All (IsChecked order) ps
    → pieces_fault order place id (length s) count ps ≡ None → Typed s order count ps
all_typed s order place id count [] texts c h =
    record {
      formed = λ (k : ℕ) (d : CType) (lt : k < 0). absurd (omega arith);
      within = λ (k : ℕ) (d : CType) (lt : k < 0). absurd (omega arith);
      fields = tt;
      narrow = λ (k d : ℕ) (lt : k < 0). absurd (omega arith);
    }
all_typed s order place id count (p ∷ ps) texts c h =
    let f = fault_split order place id (length s) count p ps h in
    let first = c 0 p (omega arith) in
    let one = one_typed s order place id count p texts first f.0 in
    let rest = all_typed s order (place + length p) (id + 1) count ps texts
    (λ (k : ℕ) (d : List ℕ) (lt : k < length ps). c (suc k) d (omega arith)) f.1 in
    record {
      formed = all_cons IsWellFormed (decoded_type s (word_in order p))
          (types_of s order ps) one.formed rest.formed;
      within = all_cons (λ (t : CType). All (IsBelow count) t.targets)
          (decoded_type s (word_in order p)) (types_of s order ps) one.within rest.within;
      fields = zip_both (StandsFor s) (fields_of (decoded_type s (word_in order p)))
          (flat_map fields_of (types_of s order ps)) (piece_words order p)
          (pieces_words order ps) one.fields rest.fields;
      narrow = all_both (piece_words order p) (pieces_words order ps)
          (words_small order p 0 (length p / 4) first.bytes) rest.narrow;
    }
