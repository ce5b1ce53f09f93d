-- What was stored, and is read again; and no bytes are refused for want of memory.
use Rattle.std.proofs.Common.{◌≡◌, ◌⊎◌, ℕ, zero, suc, ◌+◌, ◌*◌, ◌/◌, ◌&&◌, ◌∷◌, [], Bool, true}
use Rattle.std.proofs.Common.{false, ⊎_elim, arith}
use Rattle.std.proofs.Common.{List, Option, None, Some, Result, Ok, Err, if◌then◌else◌, inl, inr}
use Rattle.std.proofs.Common.{nat_lt, length, take, drop, get_or, refl, sym, ap, subst, ◌∙◌, ◌++◌}
use Rattle.std.proofs.lemmas.Bool.{and_parts}
use Rattle.std.specs.Prelude.{is_some}
use Rattle.std.specs.Option.{option_map, option_or}
use Rattle.dw_base.specs.declared.numbers.Order.{Order}
use Rattle.dw_base.specs.declared.numbers.Order.TheVariants.{Little, Big}
use Rattle.btf_codec.specs.Again.{NoMemoryFault, StoredAloneIsRead, StoredOverIsRead}
use Rattle.btf_codec.specs.Again.{before_decoded}
use Rattle.btf_codec.specs.Fields.{layout_of}
use Rattle.btf_codec.specs.Gives.{EndsWithNul}
use Rattle.btf_codec.specs.Reading.{◌>>=◌, Before, Decoded, File, checked_width, file_of}
use Rattle.btf_codec.specs.Reading.{file_unless, first_past, head_of, ids_in, is_begun}
use Rattle.btf_codec.specs.Reading.{is_ended, is_header, is_info, is_wanted, kind_in}
use Rattle.btf_codec.specs.Reading.{magic_order, names_before, names_in, order_in, pieces_fault}
use Rattle.btf_codec.specs.Reading.{pieces_of, sections_of, table_of, type_width, types_before}
use Rattle.btf_codec.specs.Reading.{types_of, vlen_in, wanted_order, word_in, words_fault}
use Rattle.btf_codec.specs.declared.format.TheConstants.{INFO, SIZE}
use Rattle.btf_codec.specs.declared.fault.BtfFault.{BtfFault}
use Rattle.btf_codec.specs.declared.fault.BtfFault.TheVariants.{BtfMagic, BtfHeader, BtfTruncated}
use Rattle.btf_codec.specs.declared.fault.BtfFault.TheVariants.{BtfInfo, BtfName, BtfRef}
use Rattle.btf_codec.specs.declared.fault.BtfFault.TheVariants.{BtfStrings, Memory}
use Rattle.btf_codec.specs.declared.layout.KindLayout.{KindLayout}
use Rattle.btf_codec.proofs.Accepted.{bound, ended, file_parts}
use Rattle.btf_codec.proofs.Complete.{complete}

-- a fault of two steps is one's
either : {A B : Type 0} (r : Result A BtfFault) (f : A → Result B BtfFault) (e : BtfFault)
    → (r >>= f) ≡ Err e → (r ≡ Err e) ⊎ ((x : A) × (f x ≡ Err e))
either (Ok x) f e h = inr (x, h)
either (Err d) f e h = inl (cc)

never_ok : {A : Type 0} (x : A) → ◌≡◌ {A = Result A BtfFault} (Ok x) (Err Memory) → ⊥
never_ok x h = cc

order_by : (b : Bool) (order : Order)
    → ◌≡◌ {A = Result Order BtfFault} (if b then Ok order else Err BtfMagic) (Err Memory) → ⊥
order_by true order h = cc
order_by false order h = cc

sections_by : (short fits : Bool) (s : List ℕ × List ℕ)
    → ◌≡◌ {A = Result (List ℕ × List ℕ) BtfFault}
    (if short then Err BtfHeader else if fits then Ok s else Err BtfHeader) (Err Memory) → ⊥
sections_by true fits s h = cc
sections_by false true s h = cc
sections_by false false s h = cc

strings_by : (b : Bool) (s : List ℕ × List ℕ) (at : ℕ)
    → ◌≡◌ {A = Result (List ℕ × List ℕ) BtfFault} (if b then Ok s else Err (BtfStrings at))
    (Err Memory) → ⊥
strings_by true s at h = cc
strings_by false s at h = cc

-- the steps of reading a file, behind the byte order
abbrev last_of : Order → ℕ → ℕ → List ℕ × List ℕ → List (List ℕ) → Result File BtfFault
last_of order types limit t pieces =
    file_unless order pieces t.1
    (pieces_fault order 24 (types + 1) (limit + length t.1) (types + length pieces) pieces)

abbrev rest_pieces : Order → ℕ → ℕ → List ℕ × List ℕ → Result File BtfFault
rest_pieces order types limit t =
    pieces_of order (length t.0) 24 (types + 1) t.0 >>= λ (pieces : List (List ℕ)).
    last_of order types limit t pieces

abbrev strings_of : Bool → List ℕ × List ℕ → Result (List ℕ × List ℕ) BtfFault
strings_of based s =
    if is_begun based s.1 && is_ended s.1 then Ok s else Err (BtfStrings (24 + length s.0))

abbrev rest_strings : Order → Bool → ℕ → ℕ → List ℕ × List ℕ → Result File BtfFault
rest_strings order based types limit s =
    strings_of based s >>= λ (t : List ℕ × List ℕ). rest_pieces order types limit t

abbrev rest_sections : Bool → ℕ → ℕ → List ℕ → Order → Result File BtfFault
rest_sections based types limit bytes order =
    sections_of order bytes >>= λ (s : List ℕ × List ℕ). rest_strings order based types limit s

abbrev decoded : Option Before → File → Result Decoded BtfFault
decoded before f = Ok (record {
  order = f.order;
  base = length (types_before before);
  types = types_before before ++ types_of (names_before before ++ f.names) f.order f.pieces;
  names = f.names;
})

table_ok : (before : Option Before) (f : File) → decoded before f ≡ Err Memory → ⊥
table_ok before f h = cc

-- no check refuses for want of memory
width_checked : (a b : Bool) (place id w : ℕ)
    → (if a then (if b then Err (BtfTruncated place) else Ok w) else Err (BtfInfo place id))
    ≡ Err Memory → ⊥
width_checked true true place id w h = cc
width_checked true false place id w h = cc
width_checked false b place id w h = cc

layout_checked : (place id y third left : ℕ) (layout : Option KindLayout)
    → checked_width place id y third left layout ≡ Err Memory → ⊥
layout_checked place id y third left None h = cc
layout_checked place id y third left (Some layout) h =
    width_checked (is_info layout y third) (nat_lt left (type_width layout (vlen_in y)))
    place id (type_width layout (vlen_in y)) h

head_by : (short : Bool) (place : ℕ) (r : Result ℕ BtfFault) → (r ≡ Err Memory → ⊥)
    → (if short then Err (BtfTruncated place) else r) ≡ Err Memory → ⊥
head_by true place r other h = cc
head_by false place r other h = other h

head_checked : (place id : ℕ) (w : ℕ → ℕ) (left : ℕ) → head_of place id w left ≡ Err Memory → ⊥
head_checked place id w left h =
    head_by (nat_lt left 3) place
    (checked_width place id (w INFO) (w SIZE) left (layout_of (kind_in (w INFO))))
    (layout_checked place id (w INFO) (w SIZE) left (layout_of (kind_in (w INFO)))) h

pieces_checked : (order : Order) (n place id : ℕ) (bytes : List ℕ)
    → pieces_of order n place id bytes ≡ Err Memory → ⊥
unfolding pieces_of
pieces_checked order zero place id bytes h = cc
pieces_checked order (suc n) place id [] h = cc
pieces_checked order (suc n) place id (b ∷ bs) h =
    ⊎_elim (λ e. head_checked place id (word_in order (b ∷ bs)) (length (b ∷ bs) / 4) e)
    (λ s.
    ⊎_elim (λ e. pieces_checked order n (place + 4 * s.0) (id + 1) (drop (4 * s.0) (b ∷ bs)) e)
    (λ t. never_ok (take (4 * s.0) (b ∷ bs) ∷ t.0) t.1)
    (either (pieces_of order n (place + 4 * s.0) (id + 1) (drop (4 * s.0) (b ∷ bs)))
    (λ (rest : List (List ℕ)).
    let r : Result (List (List ℕ)) BtfFault = Ok (take (4 * s.0) (b ∷ bs) ∷ rest) in r)
    Memory s.1))
    (either (head_of place id (word_in order (b ∷ bs)) (length (b ∷ bs) / 4))
    (λ (size : ℕ).
    pieces_of order n (place + 4 * size) (id + 1) (drop (4 * size) (b ∷ bs))
    >>= λ (rest : List (List ℕ)).
    let r : Result (List (List ℕ)) BtfFault = Ok (take (4 * size) (b ∷ bs) ∷ rest) in r)
    Memory h)

word_checked : (place id : ℕ) (name target : Option ℕ)
    → option_or (option_map (λ (x : ℕ). BtfName place id x) name)
    (option_map (λ (x : ℕ). BtfRef place id x) target) ≡ Some Memory → ⊥
word_checked place id (Some x) target h = cc
word_checked place id None (Some y) h = cc
word_checked place id None None h = cc

one_or_rest : (one rest : Option BtfFault) → (one ≡ Some Memory → ⊥) → (rest ≡ Some Memory → ⊥)
    → option_or one rest ≡ Some Memory → ⊥
one_or_rest None rest first others h = others h
one_or_rest (Some e) rest first others h = first h

words_checked : (order : Order) (place id limit count : ℕ) (pieces : List (List ℕ))
    → pieces_fault order place id limit count pieces ≡ Some Memory → ⊥
unfolding pieces_fault
words_checked order place id limit count [] h = cc
words_checked order place id limit count (p ∷ ps) h =
    one_or_rest (words_fault place id limit count (word_in order p))
    (pieces_fault order (place + length p) (id + 1) limit count ps)
    (word_checked place id (first_past limit (names_in (word_in order p)))
    (first_past (count + 1) (ids_in (word_in order p))))
    (words_checked order (place + length p) (id + 1) limit count ps) h

fault_checked : (order : Order) (pieces : List (List ℕ)) (names : List ℕ) (o : Option BtfFault)
    → (o ≡ Some Memory → ⊥) → file_unless order pieces names o ≡ Err Memory → ⊥
fault_checked order pieces names None other h = cc
fault_checked order pieces names (Some e) other h = other (cc)

order_checked : (want o : Option Order) → wanted_order want o ≡ Err Memory → ⊥
order_checked want None h = cc
order_checked want (Some order) h = order_by (is_wanted want order) order h

sections_checked : (order : Order) (bytes : List ℕ) → sections_of order bytes ≡ Err Memory → ⊥
sections_checked order bytes h =
    sections_by (nat_lt (length bytes) 24) (is_header order bytes) _ h

file_checked : (based : Bool) (types limit : ℕ) (want : Option Order) (bytes : List ℕ)
    → file_of based types limit want bytes ≡ Err Memory → ⊥
unfolding file_of
file_checked based types limit want bytes h =
    ⊎_elim (λ e. order_checked want (magic_order (get_or bytes 0 0) (get_or bytes 1 0)) e)
    (λ order.
    ⊎_elim (λ e. sections_checked order.0 bytes e)
    (λ s.
    ⊎_elim (λ e. strings_by (is_begun based s.0.1 && is_ended s.0.1) s.0 (24 + length s.0.0) e)
    (λ t.
    ⊎_elim (λ e. pieces_checked order.0 (length t.0.0) 24 (types + 1) t.0.0 e)
    (λ pieces.
    fault_checked order.0 pieces.0 t.0.1
    (pieces_fault order.0 24 (types + 1) (limit + length t.0.1) (types + length pieces.0) pieces.0)
    (words_checked order.0 24 (types + 1) (limit + length t.0.1) (types + length pieces.0)
    pieces.0) pieces.1)
    (either (pieces_of order.0 (length t.0.0) 24 (types + 1) t.0.0)
    (λ (ps : List (List ℕ)). last_of order.0 types limit t.0 ps) Memory t.1))
    (either (strings_of based s.0) (λ (t : List ℕ × List ℕ). rest_pieces order.0 types limit t)
    Memory s.1))
    (either (sections_of order.0 bytes)
    (λ (s : List ℕ × List ℕ). rest_strings order.0 based types limit s) Memory order.1))
    (either (order_in want bytes)
    (λ (order : Order). rest_sections based types limit bytes order) Memory h)

pub never_memory : NoMemoryFault
unfolding table_of
never_memory before want bytes h =
    ⊎_elim (λ e. file_checked (is_some before) (length (types_before before))
    (length (names_before before)) want bytes e)
    (λ f. table_ok before f.0 f.1)
    (either (file_of (is_some before) (length (types_before before))
    (length (names_before before)) want bytes) (λ (f : File). decoded before f) Memory h)

-- a table that is read in a wanted byte order
pub record ReadAnyway (before : Option Before) (want : Option Order) (bytes : List ℕ)
    (t : Decoded) : Type 0 where
  pub any : table_of before None bytes ≡ Ok t
  pub wanted : is_wanted want t.order ≡ true
  pub ends : EndsWithNul t.names

order_kept : (want : Option Order) (x order : Order) (b : Bool) → is_wanted want x ≡ b
    → ◌≡◌ {A = Result Order BtfFault} (if b then Ok x else Err BtfMagic) (Ok order)
    → (x ≡ order) × (is_wanted want order ≡ true)
order_kept want x order true e h = let q : x ≡ order = cc in
    (q, sym (ap (λ (y : Order). is_wanted want y) q) ∙ e)
order_kept want x order false e h = cc

any_order : (want o : Option Order) (order : Order) → wanted_order want o ≡ Ok order
    → (wanted_order None o ≡ Ok order) × (is_wanted want order ≡ true)
any_order want None order h = cc
any_order want (Some x) order h =
    let q = order_kept want x order (is_wanted want x) refl h in
    (ap (λ (y : Order). let r : Result Order BtfFault = Ok y in r) q.0, q.1)

-- the file
record FileAnyway (based : Bool) (types limit : ℕ) (want : Option Order) (bytes : List ℕ)
    (f : File) : Type 0 where
  any : file_of based types limit None bytes ≡ Ok f
  wanted : is_wanted want f.order ≡ true
  ends : EndsWithNul f.names

any_file : (based : Bool) (types limit : ℕ) (want : Option Order) (bytes : List ℕ) (f : File)
    → file_of based types limit want bytes ≡ Ok f → FileAnyway based types limit want bytes f
unfolding file_of
any_file based types limit want bytes f h =
    let p = file_parts based types limit want bytes f h in
    let q = any_order want (magic_order (get_or bytes 0 0) (get_or bytes 1 0)) p.order p.order_is in
    let go : Result Order BtfFault → Result File BtfFault =
    λ r. r >>= λ (order : Order). rest_sections based types limit bytes order in
    let same : go (order_in None bytes) ≡ go (order_in want bytes) = ap go (q.0 ∙ sym p.order_is) in
    record {
      any = same ∙ h;
      wanted = subst (λ (g : File). is_wanted want g.order ≡ true) p.is q.1;
      ends = subst (λ (g : File). EndsWithNul g.names) p.is
          (ended p.names (and_parts (is_begun based p.names) (is_ended p.names) p.strings).1);
    }

pub read_anyway : (before : Option Before) (want : Option Order) (bytes : List ℕ) (t : Decoded)
    → table_of before want bytes ≡ Ok t → ReadAnyway before want bytes t
unfolding table_of
read_anyway before want bytes t h =
    let a = bound (file_of (is_some before) (length (types_before before))
    (length (names_before before)) want bytes) (λ (f : File). decoded before f) t h in
    let f = any_file (is_some before) (length (types_before before))
    (length (names_before before)) want bytes a.value a.is in
    let go : Result File BtfFault → Result Decoded BtfFault =
    λ r. r >>= λ (f : File). decoded before f in
    let same : go (file_of (is_some before) (length (types_before before))
    (length (names_before before)) None bytes) ≡ Ok t = ap go f.any ∙ a.rest in
    let is : ◌≡◌ {A = Decoded} (record {
      order = a.value.order;
      base = length (types_before before);
      types = types_before before
          ++ types_of (names_before before ++ a.value.names) a.value.order a.value.pieces;
      names = a.value.names;
    }) t = cc in
    record {
      any = same;
      wanted = ap (λ (u : Decoded). is_wanted want u.order) (sym is) ∙ f.wanted;
      ends = subst (λ (u : Decoded). EndsWithNul u.names) is f.ends;
    }

pub same_order : (a b : Order) → is_wanted (Some a) b ≡ true → is_wanted (Some b) a ≡ true
same_order Little Little h = refl
same_order Little Big h = cc
same_order Big Little h = cc
same_order Big Big h = refl

pub stored_alone : StoredAloneIsRead
stored_alone order own names bytes h p =
    complete None None order own names bytes h (λ lt. absurd (omega arith)) p refl

pub stored_over : StoredOverIsRead
stored_over order base bytes b own names h e p =
    let r = read_anyway None (Some order) base b e in
    record {
      base_is = r.any;
      file_is = complete (Some (before_decoded b)) (Some b.order) order own names bytes h r.ends p
          (same_order order b.order r.wanted);
    }
