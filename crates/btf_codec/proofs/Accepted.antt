-- What the reader accepts is spelled.
use Rattle.std.proofs.Common.{◌≡◌, ℕ, ◌+◌, ◌*◌, ◌-◌, ◌%◌, ◌<◌, ◌≤◌, ◌==◌, ◌&&◌, ◌||◌, nat_lt, Bool}
use Rattle.std.proofs.Common.{true, false, List, [], ◌∷◌, ◌++◌, length, take, drop, get_or}
use Rattle.std.proofs.Common.{slice_get, Option, None, Some, Result, Ok, Err, if◌then◌else◌, refl}
use Rattle.std.proofs.Common.{sym, ap, subst, ◌∙◌, arith, append_assoc, append-nil}
use Rattle.std.specs.Prelude.{is_some}
use Rattle.std.specs.List.{AllZip, flat_map}
use Rattle.std.proofs.lemmas.Bool.{eqb-true, ltb-false, and_parts}
use Rattle.std.proofs.lemmas.List.{drop-drop, get_or-append_right, length-append, length-drop}
use Rattle.std.proofs.lemmas.List.{length-map, length-take-le, take-append-drop}
use Rattle.std.proofs.lemmas.Option.{slice_get-get_or}
use Rattle.std.proofs.Math.Seq.{drop-append_seam, take-append_seam}
use Rattle.dw_base.specs.declared.numbers.Order.{Order}
use Rattle.dw_base.specs.declared.numbers.Order.TheVariants.{Little, Big}
use Rattle.c_model.specs.Graph.{RefersWithin}
use Rattle.c_model.specs.declared.graph.CType.{CType}
use Rattle.btf_codec.specs.Fields.{fields_of}
use Rattle.btf_codec.specs.Gives.{EndsWithNul, base_seen}
use Rattle.btf_codec.specs.Reading.{◌>>=◌, Before, File, Decoded, file_of, file_unless, is_begun}
use Rattle.btf_codec.specs.Reading.{is_ended, is_header, is_wanted, magic_order, names_before}
use Rattle.btf_codec.specs.Reading.{order_in, pieces_fault, pieces_of, places, sections_of}
use Rattle.btf_codec.specs.Reading.{table_of, decoded_type, types_before, types_of, wanted_order}
use Rattle.btf_codec.specs.Reading.{word_in}
use Rattle.btf_codec.specs.Spells.{BeginsEmpty, Spells, StandsFor, base_names, base_types}
use Rattle.btf_codec.specs.Spells.{half_bytes, header_bytes, words_bytes}
use Rattle.btf_codec.specs.declared.fault.BtfFault.{BtfFault}
use Rattle.btf_codec.specs.declared.fault.BtfFault.TheVariants.{BtfMagic, BtfHeader, BtfStrings}
use Rattle.btf_codec.proofs.Below.{name_stands}
use Rattle.btf_codec.proofs.Joined.{take_bytes, drop_bytes, all_typed, joined, pieces_words}
use Rattle.btf_codec.proofs.Wording.{AreBytes, four_more, word_small, words_again}

-- one step after another
pub record Bound (A B : Type 0) (r : Result A BtfFault) (f : A → Result B BtfFault)
    (y : B) : Type 0 where
  pub value : A
  pub is : r ≡ Ok value
  pub rest : f value ≡ Ok y

pub bound : {A B : Type 0} (r : Result A BtfFault) (f : A → Result B BtfFault) (y : B)
    → (r >>= f) ≡ Ok y → Bound A B r f y
bound (Ok x) f y h = record { value = x; is = refl; rest = h }
bound (Err e) f y h = cc

abbrev rest_pieces : ℕ → ℕ → Order → List ℕ × List ℕ → Result File BtfFault
rest_pieces types limit order t =
    pieces_of order (length t.0) 24 (types + 1) t.0 >>= λ (pieces : List (List ℕ)).
    file_unless order pieces t.1
    (pieces_fault order 24 (types + 1) (limit + length t.1) (types + length pieces) pieces)

abbrev rest_strings : Bool → ℕ → ℕ → Order → List ℕ × List ℕ → Result File BtfFault
rest_strings based types limit order s =
    (if is_begun based s.1 && is_ended s.1 then Ok s else Err (BtfStrings (24 + length s.0)))
    >>= λ (t : List ℕ × List ℕ). rest_pieces types limit order t

abbrev rest_sections : Bool → ℕ → ℕ → List ℕ → Order → Result File BtfFault
rest_sections based types limit bytes order =
    sections_of order bytes >>= λ (s : List ℕ × List ℕ). rest_strings based types limit order s

-- the parts of an accepted file
pub record FileParts (based : Bool) (types limit : ℕ) (want : Option Order) (bytes : List ℕ)
    (f : File) : Type 0 where
  pub order : Order
  pub body : List ℕ
  pub names : List ℕ
  pub pieces : List (List ℕ)
  pub order_is : order_in want bytes ≡ Ok order
  pub sections : sections_of order bytes ≡ Ok (body, names)
  pub strings : (is_begun based names && is_ended names) ≡ true
  pub cut : pieces_of order (length body) 24 (types + 1) body ≡ Ok pieces
  pub fault : pieces_fault order 24 (types + 1) (limit + length names)
      (types + length pieces) pieces ≡ None
  pub is : ◌≡◌ {A = File} (record { order = order; pieces = pieces; names = names }) f

strings_ok : (b : Bool) (s : List ℕ × List ℕ) (e : BtfFault) (g : List ℕ × List ℕ → Result File
    BtfFault) (f : File) → ((if b then Ok s else Err e) >>= g) ≡ Ok f → (b ≡ true) × (g s ≡ Ok f)
strings_ok true s e g f h = (refl, h)
strings_ok false s e g f h = cc

accepted_ok : (order : Order) (pieces : List (List ℕ)) (names : List ℕ) (o : Option BtfFault)
    (f : File) → file_unless order pieces names o ≡ Ok f
    → (o ≡ None) × (◌≡◌ {A = File} (record { order = order; pieces = pieces; names = names }) f)
accepted_ok order pieces names None f h = (refl, cc)
accepted_ok order pieces names (Some fault) f h = cc

pub file_parts : (based : Bool) (types limit : ℕ) (want : Option Order) (bytes : List ℕ) (f : File)
    → file_of based types limit want bytes ≡ Ok f → FileParts based types limit want bytes f
unfolding file_of
file_parts based types limit want bytes f h =
    let a = bound (order_in want bytes)
    (λ (order : Order). rest_sections based types limit bytes order) f h in
    let b = bound (sections_of a.value bytes)
    (λ (s : List ℕ × List ℕ). rest_strings based types limit a.value s) f a.rest in
    let c = strings_ok (is_begun based b.value.1 && is_ended b.value.1) b.value
    (BtfStrings (24 + length b.value.0))
    (λ (t : List ℕ × List ℕ). rest_pieces types limit a.value t) f b.rest in
    let d = bound (pieces_of a.value (length b.value.0) 24 (types + 1) b.value.0)
    (λ (pieces : List (List ℕ)). file_unless a.value pieces b.value.1 (pieces_fault a.value 24
    (types + 1) (limit + length b.value.1) (types + length pieces) pieces)) f c.1 in
    let e = accepted_ok a.value d.value b.value.1 (pieces_fault a.value 24 (types + 1)
    (limit + length b.value.1) (types + length d.value) d.value) f d.rest in
    record {
      order = a.value;
      body = b.value.0;
      names = b.value.1;
      pieces = d.value;
      order_is = a.is;
      sections = b.is;
      strings = c.0;
      cut = d.is;
      fault = e.0;
      is = e.1;
    }

-- the magic number
wanted_some : (want : Option Order) (x order : Order) (b : Bool) → is_wanted want x ≡ b
    → ◌≡◌ {A = Result Order BtfFault} (if b then Ok x else Err BtfMagic) (Ok order)
    → (x ≡ order) × (is_wanted want order ≡ true)
wanted_some want x order true e h = let q : x ≡ order = cc in
    (q, sym (ap (λ (y : Order). is_wanted want y) q) ∙ e)
wanted_some want x order false e h = cc

wanted_by : (want : Option Order) (o : Option Order) (order : Order)
    → wanted_order want o ≡ Ok order → (o ≡ Some order) × (is_wanted want order ≡ true)
wanted_by want None order h = cc
wanted_by want (Some x) order h = let q = wanted_some want x order (is_wanted want x) refl h in
    (ap (λ (y : Order). let o : Option Order = Some y in o) q.0, q.1)

magic_by : (a b : ℕ) (order : Order) (t u : Bool) → (a == 0x9f && b == 0xeb) ≡ t
    → (a == 0xeb && b == 0x9f) ≡ u → ◌≡◌ {A = Option Order} (if t then Some Little else if u
    then Some Big else None) (Some order) → a ∷ b ∷ [] ≡ half_bytes order 0xeb9f
magic_by a b order true u e f h =
    let q : Little ≡ order = cc in
    let p = and_parts (a == 0x9f) (b == 0xeb) e in
    subst (λ (o : Order). a ∷ b ∷ [] ≡ half_bytes o 0xeb9f) q
    (λ i. eqb-true a 0x9f p.0 i ∷ eqb-true b 0xeb p.1 i ∷ [])
magic_by a b order false true e f h =
    let q : Big ≡ order = cc in
    let p = and_parts (a == 0xeb) (b == 0x9f) f in
    subst (λ (o : Order). a ∷ b ∷ [] ≡ half_bytes o 0xeb9f) q
    (λ i. eqb-true a 0xeb p.0 i ∷ eqb-true b 0x9f p.1 i ∷ [])
magic_by a b order false false e f h = cc

magic_bytes : (a b : ℕ) (order : Order) → magic_order a b ≡ Some order
    → a ∷ b ∷ [] ≡ half_bytes order 0xeb9f
magic_bytes a b order h =
    magic_by a b order (a == 0x9f && b == 0xeb) (a == 0xeb && b == 0x9f) refl refl h

-- the header
pub record HeaderFacts (order : Order) (bytes : List ℕ) : Type 0 where
  pub version : get_or bytes 2 0 ≡ 1
  pub flags : get_or bytes 3 0 ≡ 0
  pub own_length : word_in order bytes 1 ≡ 24
  pub types_at : word_in order bytes 2 ≡ 0
  pub names_at : word_in order bytes 4 ≡ word_in order bytes 3
  pub long : length bytes ≡ 24 + word_in order bytes 3 + word_in order bytes 5

header_facts : (order : Order) (bytes : List ℕ) → is_header order bytes ≡ true
    → HeaderFacts order bytes
header_facts order bytes h =
    let a = and_parts (get_or bytes 2 0 == 1 && get_or bytes 3 0 == 0 && word_in order bytes 1 == 24
    && word_in order bytes 2 == 0 && word_in order bytes 3 % 4 == 0 && word_in order bytes 4
    == word_in order bytes 3)
    (length bytes == 24 + word_in order bytes 3 + word_in order bytes 5) h in
    let b = and_parts (get_or bytes 2 0 == 1 && get_or bytes 3 0 == 0 && word_in order bytes 1 == 24
    && word_in order bytes 2 == 0 && word_in order bytes 3 % 4 == 0)
    (word_in order bytes 4 == word_in order bytes 3) a.0 in
    let c = and_parts (get_or bytes 2 0 == 1 && get_or bytes 3 0 == 0 && word_in order bytes 1 == 24
    && word_in order bytes 2 == 0) (word_in order bytes 3 % 4 == 0) b.0 in
    let d = and_parts (get_or bytes 2 0 == 1 && get_or bytes 3 0 == 0
    && word_in order bytes 1 == 24) (word_in order bytes 2 == 0) c.0 in
    let e =
    and_parts (get_or bytes 2 0 == 1 && get_or bytes 3 0 == 0) (word_in order bytes 1 == 24) d.0 in
    let f = and_parts (get_or bytes 2 0 == 1) (get_or bytes 3 0 == 0) e.0 in
    record {
      version = eqb-true (get_or bytes 2 0) 1 f.0;
      flags = eqb-true (get_or bytes 3 0) 0 f.1;
      own_length = eqb-true (word_in order bytes 1) 24 e.1;
      types_at = eqb-true (word_in order bytes 2) 0 d.1;
      names_at = eqb-true (word_in order bytes 4) (word_in order bytes 3) b.1;
      long = eqb-true (length bytes) (24 + word_in order bytes 3 + word_in order bytes 5) a.1;
    }

header_whole : (order : Order) (bytes : List ℕ) → AreBytes bytes → 24 ≤ length bytes
    → get_or bytes 0 0 ∷ get_or bytes 1 0 ∷ [] ≡ half_bytes order 0xeb9f → HeaderFacts order bytes
    → bytes ≡ header_bytes order (word_in order bytes 3) (word_in order bytes 5) ++ drop 24 bytes
unfolding places
header_whole order bytes h le magic facts =
    let w : ℕ → ℕ = word_in order bytes in
    let cut : drop 4 bytes
    ≡ words_bytes order (word_in order bytes 1 ∷ word_in order bytes 2 ∷ word_in order bytes 3
    ∷ word_in order bytes 4 ∷ word_in order bytes 5 ∷ []) ++ drop 24 bytes =
    sym (take-append-drop 20 (drop 4 bytes))
    ∙ (λ i. sym (words_again order bytes 1 5 h (omega arith)) i ++ drop-drop 20 4 bytes i) in
    let front : bytes ≡ get_or bytes 0 0 ∷ get_or bytes 1 0 ∷ get_or bytes 2 0 ∷ get_or bytes 3 0
    ∷ drop 4 bytes = four_more bytes 0 (omega arith) in
    front
    ∙ (λ i. get_or bytes 0 0 ∷ get_or bytes 1 0 ∷ facts.version i ∷ facts.flags i ∷ cut i)
    ∙ (λ i. get_or bytes 0 0 ∷ get_or bytes 1 0 ∷ 1 ∷ 0
    ∷ (words_bytes order (facts.own_length i ∷ facts.types_at i ∷ word_in order bytes 3
    ∷ facts.names_at i ∷ word_in order bytes 5 ∷ []) ++ drop 24 bytes))
    ∙ ap (λ (half : List ℕ). (half ++ 1 ∷ 0 ∷ words_bytes order (24 ∷ 0 ∷ word_in order bytes 3
    ∷ word_in order bytes 3 ∷ word_in order bytes 5 ∷ [])) ++ drop 24 bytes) magic

pub record Sections (order : Order) (bytes body names : List ℕ) : Type 0 where
  pub enough : 24 ≤ length bytes
  pub facts : HeaderFacts order bytes
  pub body_is : take (word_in order bytes 3) (drop 24 bytes) ≡ body
  pub names_is : drop (24 + word_in order bytes 3) bytes ≡ names

sections_by : (b c : Bool) (xs ys zs us : List ℕ) → ◌≡◌ {A = Result (List ℕ × List ℕ) BtfFault}
    (if b then Err BtfHeader else if c then Ok (xs, ys) else Err BtfHeader) (Ok (zs, us))
    → (b ≡ false) × (c ≡ true) × (xs ≡ zs) × (ys ≡ us)
sections_by true c xs ys zs us h = cc
sections_by false true xs ys zs us h =
    let q : ◌≡◌ {A = List ℕ × List ℕ} (xs, ys) (zs, us) = cc in
    (refl, refl, ap (λ (p : List ℕ × List ℕ). p.0) q, ap (λ (p : List ℕ × List ℕ). p.1) q)
sections_by false false xs ys zs us h = cc

sections_are : (order : Order) (bytes body names : List ℕ)
    → sections_of order bytes ≡ Ok (body, names) → Sections order bytes body names
sections_are order bytes body names h =
    let q = sections_by (nat_lt (length bytes) 24) (is_header order bytes) (take (word_in order
    bytes 3) (drop 24 bytes)) (drop (24 + word_in order bytes 3) bytes) body names h in
    record {
      enough = ltb-false (length bytes) 24 q.0;
      facts = header_facts order bytes q.1;
      body_is = q.2;
      names_is = q.3;
    }

pub length_words : (order : Order) (ws : List ℕ) → length (words_bytes order ws) ≡ 4 * length ws
length_words order [] = refl
length_words Little (w ∷ ws) = omega (arith, length_words Little ws)
length_words Big (w ∷ ws) = omega (arith, length_words Big ws)

-- the strings
begins_by : (b : Bool) (names : List ℕ) → is_begun b names ≡ true → b ≡ false
    → slice_get names 0 ≡ Some 0
begins_by b [] h e = cc
begins_by true (x ∷ xs) h e = cc
begins_by false (x ∷ xs) h e = ap (λ (n : ℕ). Some n) (eqb-true x 0 h)

begins_are : (before : Option Before) (names : List ℕ) → is_begun (is_some before) names ≡ true
    → BeginsEmpty (base_seen before) names
begins_are None names h = begins_by false names h refl
begins_are (Some b) names h = tt

ended_by : (names : List ℕ) (a b : Bool) → (length names == 0) ≡ a
    → (get_or names (length names - 1) 0 == 0) ≡ b → (a || b) ≡ true → EndsWithNul names
ended_by names true b e f h =
    λ (lt : 0 < length names). absurd (omega (arith, eqb-true (length names) 0 e))
ended_by names false true e f h =
    λ (lt : 0 < length names). eqb-true (get_or names (length names - 1) 0) 0 f
ended_by names false false e f h = cc

pub ended : (names : List ℕ) → is_ended names ≡ true → EndsWithNul names
ended names h =
    ended_by names (length names == 0) (get_or names (length names - 1) 0 == 0) refl refl h

pub ends_both : (xs ys : List ℕ) → EndsWithNul xs → EndsWithNul ys → EndsWithNul (xs ++ ys)
ends_both xs [] h g = subst (λ (zs : List ℕ). EndsWithNul zs) (sym (append-nil xs)) h
ends_both xs (y ∷ ys) h g = λ (lt : 0 < length (xs ++ y ∷ ys)).
    let l = length-append xs (y ∷ ys) in
    get_or-append_right xs (y ∷ ys) (length xs) (length (xs ++ y ∷ ys) - 1) 0 refl
    (omega (arith, l))
    ∙ ap (λ (k : ℕ). get_or (y ∷ ys) k 0) (omega (arith, l))
    ∙ g (omega arith)

pub types_seen : (before : Option Before)
    → base_types (base_seen before) ≡ length (types_before before)
types_seen None = refl
types_seen (Some b) = refl

pub names_seen : (before : Option Before) → base_names (base_seen before) ≡ names_before before
names_seen None = refl
names_seen (Some b) = refl

-- the whole file
spelled_parts : (before : Option Before) (want : Option Order) (order : Order)
    (bytes body names : List ℕ) (pieces : List (List ℕ)) → AreBytes bytes
    → EndsWithNul (names_before before) → order_in want bytes ≡ Ok order
    → sections_of order bytes ≡ Ok (body, names)
    → (is_begun (is_some before) names && is_ended names) ≡ true
    → pieces_of order (length body) 24 (length (types_before before) + 1) body ≡ Ok pieces
    → pieces_fault order 24 (length (types_before before) + 1) (length (names_before before)
    + length names) (length (types_before before) + length pieces) pieces ≡ None
    → Spells (base_seen before) order
    (types_of (names_before before ++ names) order pieces) names bytes
spelled_parts before want order bytes body names pieces h ends o s strings cut fault =
    let all : List ℕ = names_before before ++ names in
    let own : List CType = types_of (names_before before ++ names) order pieces in
    let secs = sections_are order bytes body names s in
    let t = and_parts (is_begun (is_some before) names) (is_ended names) strings in
    let ended_names = ended names t.1 in
    let ends_all = ends_both (names_before before) names ends ended_names in
    let long = secs.facts.long in
    let few_body : word_in order bytes 3 ≤ length (drop 24 bytes) =
    omega (arith, long, length-drop 24 bytes) in
    let body_long : word_in order bytes 3 ≡ length body =
    sym (length-take-le (word_in order bytes 3) (drop 24 bytes) few_body)
    ∙ ap (λ (xs : List ℕ). length xs) secs.body_is in
    let names_long : word_in order bytes 5 ≡ length names =
    let l = length-drop (24 + word_in order bytes 3) bytes in
    let m = ap (λ (xs : List ℕ). length xs) secs.names_is in
    omega (arith, l, m, long) in
    let body_bytes : AreBytes body = subst (λ (xs : List ℕ). AreBytes xs) secs.body_is
    (take_bytes (word_in order bytes 3) (drop 24 bytes) (drop_bytes 24 bytes h)) in
    let j = joined order (length body) 24 (length (types_before before) + 1) body pieces body_bytes
    (omega arith) cut in
    let limit : length (names_before before) + length names
    ≡ length (names_before before ++ names) = sym (length-append (names_before before) names) in
    let no_fault = subst (λ (n : ℕ). pieces_fault order 24 (length (types_before before) + 1) n
    (length (types_before before) + length pieces) pieces ≡ None) limit fault in
    let typed = all_typed (names_before before ++ names) order 24 (length (types_before before) + 1)
    (length (types_before before) + length pieces) pieces
    (λ (x : ℕ) (lt : x < length (names_before before ++ names)).
    name_stands (names_before before ++ names) x ends_all lt) j.each no_fault in
    let count : length (types_before before) + length pieces ≡ base_types (base_seen before)
    + length (types_of (names_before before ++ names) order pieces) =
    let m = length-map pieces
    (λ (p : List ℕ). decoded_type (names_before before ++ names) (word_in order p)) in
    omega (arith, m, types_seen before) in
    let words : List ℕ = pieces_words order pieces in
    let length_is : length body ≡ 4 * length (pieces_words order pieces) = ap (λ (xs : List ℕ).
    length xs) (sym j.whole) ∙ length_words order (pieces_words order pieces) in
    let rest : drop 24 bytes ≡ words_bytes order (pieces_words order pieces) ++ names =
    sym (take-append-drop (word_in order bytes 3) (drop 24 bytes))
    ∙ (λ i. (secs.body_is ∙ sym j.whole) i
    ++ (drop-drop (word_in order bytes 3) 24 bytes ∙ secs.names_is) i) in
    let small3 = word_small order bytes 3 h in
    let small5 = word_small order bytes 5 h in
    let magic = wanted_by want (magic_order (get_or bytes 0 0) (get_or bytes 1 0)) order o in
    record {
      formed = typed.formed;
      within = subst (λ (n : ℕ).
          RefersWithin n (types_of (names_before before ++ names) order pieces)) count typed.within;
      words = pieces_words order pieces;
      fields =
          subst (λ (xs : List ℕ). AllZip (StandsFor (xs ++ names)) (flat_map fields_of
          (types_of (names_before before ++ names) order pieces)) (pieces_words order pieces))
          (sym (names_seen before)) typed.fields;
      narrow = typed.narrow;
      types_length = omega (arith, body_long, length_is, small3);
      names_length = omega (arith, names_long, small5);
      begins = begins_are before names t.0;
      ends = λ (lt : 0 < length names). slice_get-get_or names (length names - 1) 0 (omega arith)
          ∙ ap (λ (n : ℕ). Some n) (ended_names lt);
      whole =
          header_whole order bytes h secs.enough
          (magic_bytes (get_or bytes 0 0) (get_or bytes 1 0) order magic.0) secs.facts
          ∙ (λ i. header_bytes order ((body_long ∙ length_is) i) (names_long i) ++ rest i)
          ∙ sym (append_assoc (header_bytes order (4 * length (pieces_words order pieces))
          (length names)) (words_bytes order (pieces_words order pieces)) names);
    }

-- the file of a table
pub file_spells : (before : Option Before) (want : Option Order) (order : Order) (bytes names : List
    ℕ) (pieces : List (List ℕ)) → AreBytes bytes → EndsWithNul (names_before before)
    → file_of (is_some before) (length (types_before before)) (length (names_before before)) want
    bytes ≡ Ok (record { order = order; pieces = pieces; names = names })
    → Spells (base_seen before) order
    (types_of (names_before before ++ names) order pieces) names bytes
file_spells before want order bytes names pieces h ends e =
    let f : File = record { order = order; pieces = pieces; names = names } in
    let p = file_parts (is_some before) (length (types_before before)) (length (names_before
    before)) want bytes (record { order = order; pieces = pieces; names = names }) e in
    subst (λ (g : File). Spells (base_seen before) g.order
    (types_of (names_before before ++ g.names) g.order g.pieces) g.names bytes) p.is
    (spelled_parts before want p.order bytes p.body p.names p.pieces h ends p.order_is p.sections
    p.strings p.cut p.fault)

-- a table that was read, over the one before it
pub record Taken (before : Option Before) (want : Option Order) (bytes : List ℕ)
    (t : Decoded) : Type 0 where
  pub own : List CType
  pub base_is : length (types_before before) ≡ t.base
  pub types_are : types_before before ++ own ≡ t.types
  pub spells : Spells (base_seen before) t.order own t.names bytes
  pub wanted : is_wanted want t.order ≡ true

pub taken : (before : Option Before) (want : Option Order) (bytes : List ℕ) (t : Decoded)
    → AreBytes bytes → EndsWithNul (names_before before) → table_of before want bytes ≡ Ok t
    → Taken before want bytes t
unfolding table_of
taken before want bytes t h ends e =
    let a = bound (file_of (is_some before) (length (types_before before))
    (length (names_before before)) want bytes)
    (λ (f : File). let r : Result Decoded BtfFault = Ok (record {
      order = f.order;
      base = length (types_before before);
      types = types_before before ++ types_of
          (names_before before ++ f.names) f.order f.pieces;
      names = f.names;
    }) in r) t e in
    let p = file_parts (is_some before) (length (types_before before))
    (length (names_before before)) want bytes a.value a.is in
    let q = subst (λ (f : File). ◌≡◌ {A = Result Decoded BtfFault} (Ok (record {
      order = f.order;
      base = length (types_before before);
      types = types_before before ++ types_of (names_before
          before ++ f.names) f.order f.pieces;
      names = f.names;
    })) (Ok t)) (sym p.is) a.rest in
    let s : ◌≡◌ {A = Decoded} (record {
      order = p.order;
      base = length (types_before before);
      types = types_before before ++ types_of (names_before before ++ p.names) p.order p.pieces;
      names = p.names;
    }) t = cc in
    subst (λ (u : Decoded). Taken before want bytes u) s (record {
      own = types_of (names_before before ++ p.names) p.order p.pieces;
      base_is = refl;
      types_are = refl;
      spells = spelled_parts before want p.order bytes p.body p.names p.pieces h ends p.order_is
          p.sections p.strings p.cut p.fault;
      wanted =
          (wanted_by want (magic_order (get_or bytes 0 0) (get_or bytes 1 0)) p.order p.order_is).1;
    })

-- the types before and the own ones
first_are : (xs ys zs : List CType) (n : ℕ) → length xs ≡ n → xs ++ ys ≡ zs → take n zs ≡ xs
first_are xs ys zs n l e = (λ i. take (sym l i) (sym e i)) ∙ take-append_seam xs ys

own_are : (xs ys zs : List CType) (n : ℕ) → length xs ≡ n → xs ++ ys ≡ zs → ys ≡ drop n zs
own_are xs ys zs n l e = sym ((λ i. drop (sym l i) (sym e i)) ∙ drop-append_seam xs ys)

pub record Shows (before : Option Before) (want : Option Order) (bytes : List ℕ)
    (t : Decoded) : Type 0 where
  pub base : t.base ≡ length (types_before before)
  pub first : take t.base t.types ≡ types_before before
  pub spelled : Spells (base_seen before) t.order (drop t.base t.types) t.names bytes
  pub wanted : is_wanted want t.order ≡ true

pub shows : (before : Option Before) (want : Option Order) (bytes : List ℕ) (t : Decoded)
    → AreBytes bytes → EndsWithNul (names_before before) → table_of before want bytes ≡ Ok t
    → Shows before want bytes t
shows before want bytes t h ends e =
    let k = taken before want bytes t h ends e in
    record {
      base = sym k.base_is;
      first = first_are (types_before before) k.own t.types t.base k.base_is k.types_are;
      spelled = subst (λ (ts : List CType). Spells (base_seen before) t.order ts t.names bytes)
          (own_are (types_before before) k.own t.types t.base k.base_is k.types_are) k.spells;
      wanted = k.wanted;
    }
