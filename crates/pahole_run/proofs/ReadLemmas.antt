-- A BTF file that no check refuses spells a table, and only one.
use Rattle.std.proofs.Common.{◌≡◌, ◌<◌, ◌+◌, ◌*◌, ◌/◌, ◌&&◌, ◌++◌, ℕ, zero, suc, Bool, true}
use Rattle.std.proofs.Common.{false, nat_lt, List, [], ◌∷◌, All, length, take, drop}
use Rattle.std.proofs.Common.{Option, None, Some, Result, Ok, Err, IfSome, refl, sym, ap, subst}
use Rattle.std.proofs.Common.{◌∙◌, ◌-◌, arith, get_or, ⊎_elim}
use Rattle.std.proofs.Common.{if◌then◌else◌}
use Rattle.std.specs.Option.{option_map, option_or}
use Rattle.std.specs.Result.{result_err}
use Rattle.std.proofs.lemmas.Bool.{cases_lt}
use Rattle.std.proofs.lemmas.List.{get_or_past, take-append-drop}
use Rattle.std.proofs.lemmas.Option.{get_or_from_slice_get}
use Rattle.dw_base.specs.declared.numbers.Order.{Order}
use Rattle.c_model.specs.Graph.{RefersWithin}
use Rattle.c_model.specs.Kinds.{IsWellFormed}
use Rattle.c_model.specs.declared.graph.CType.{CType}
use Rattle.btf_codec.specs.Gives.{EndsWithNul}
use Rattle.btf_codec.specs.Reading.{◌>>=◌, Before, Decoded, File, table_of, file_of, file_unless}
use Rattle.btf_codec.specs.Reading.{order_in, wanted_order, is_wanted, magic_order, sections_of}
use Rattle.btf_codec.specs.Reading.{is_begun, is_ended, pieces_of, pieces_fault}
use Rattle.btf_codec.specs.Reading.{words_fault, head_of, checked_width, word_in, layout_in}
use Rattle.btf_codec.specs.Reading.{types_before, names_before, kind_in, is_info, type_width}
use Rattle.btf_codec.specs.Reading.{vlen_in}
use Rattle.btf_codec.specs.Spells.{Spells}
use Rattle.btf_codec.specs.declared.layout.KindLayout.{KindLayout}
use Rattle.btf_codec.specs.declared.fault.BtfFault.{BtfFault}
use Rattle.btf_codec.specs.declared.fault.BtfFault.TheVariants.{BtfMagic, BtfHeader, BtfTruncated}
use Rattle.btf_codec.specs.declared.fault.BtfFault.TheVariants.{BtfKind, BtfInfo, BtfName, BtfRef}
use Rattle.btf_codec.specs.declared.fault.BtfFault.TheVariants.{BtfStrings, Memory}
use Rattle.btf_codec.proofs.Accepted.{shows}
use Rattle.btf_codec.proofs.Complete.{complete}
use Rattle.btf_codec.proofs.Wording.{AreBytes}
use Rattle.split_base.proofs.Spelled.{spelled_is_base}
use Rattle.pahole_run.specs.Files.{base_count, base_read, before_by}
use Rattle.pahole_run.specs.Layers.{of_btf, refusal_in, seen_as}
use Rattle.pahole_run.specs.Refusals.{btf_check}
use Rattle.pahole_run.specs.Tables.{TheTable, SpellsTypes}
use Rattle.pahole_run.specs.Tables.Origin.{OfBytes}

-- ---- what is defined of the reader never is want of memory

abbrev NotMemory : {X : Type 0} → Result X BtfFault → Type 0
NotMemory r = r ≡ Err Memory → ⊥

after : {A B : Type 0} (r : Result A BtfFault) (f : A → Result B BtfFault) → NotMemory r
    → ((x : A) → NotMemory (f x)) → NotMemory (r >>= f)
after (Ok x) f a b h = b x h
after (Err e) f a b h = let q : e ≡ Memory = cc in a (ap (λ (z : BtfFault). Err z) q)

pick : {X : Type 0} (b : Bool) (r s : Result X BtfFault) → NotMemory r → NotMemory s
    → NotMemory (if b then r else s)
pick true r s p q = p
pick false r s p q = q

fine : {X : Type 0} (x : X) → NotMemory {X = X} (Ok x)
fine x h = absurd (cc)

magic : {X : Type 0} → NotMemory {X = X} (Err BtfMagic)
magic h = absurd (cc)

header : {X : Type 0} → NotMemory {X = X} (Err BtfHeader)
header h = absurd (cc)

truncated : {X : Type 0} (at : ℕ) → NotMemory {X = X} (Err (BtfTruncated at))
truncated at h = absurd (cc)

strings : {X : Type 0} (at : ℕ) → NotMemory {X = X} (Err (BtfStrings at))
strings at h = absurd (cc)

info : {X : Type 0} (at id : ℕ) → NotMemory {X = X} (Err (BtfInfo at id))
info at id h = absurd (cc)

kind : {X : Type 0} (at id k : ℕ) → NotMemory {X = X} (Err (BtfKind at id k))
kind at id k h = absurd (cc)

width_not : (place id y third left : ℕ) (o : Option KindLayout)
    → NotMemory (checked_width place id y third left o)
width_not place id y third left None = kind place id (kind_in y)
width_not place id y third left (Some layout) =
    pick (is_info layout y third)
    (if nat_lt left (type_width layout (vlen_in y)) then Err (BtfTruncated place)
    else Ok (type_width layout (vlen_in y))) (Err (BtfInfo place id))
    (pick (nat_lt left (type_width layout (vlen_in y))) (Err (BtfTruncated place))
    (Ok (type_width layout (vlen_in y))) (truncated place) (fine (type_width layout (vlen_in y))))
    (info place id)

head_not : (place id : ℕ) (w : ℕ → ℕ) (left : ℕ) → NotMemory (head_of place id w left)
head_not place id w left =
    pick (nat_lt left 3) (Err (BtfTruncated place))
    (checked_width place id (w 1) (w 2) left (layout_in w)) (truncated place)
    (width_not place id (w 1) (w 2) left (layout_in w))

pieces_not : (order : Order) (n place id : ℕ) (bytes : List ℕ)
    → NotMemory (pieces_of order n place id bytes)
unfolding pieces_of
pieces_not order zero place id bytes h = absurd (cc)
pieces_not order (suc n) place id [] h = absurd (cc)
pieces_not order (suc n) place id (b ∷ bs) h =
    after (head_of place id (word_in order (b ∷ bs)) (length (b ∷ bs) / 4))
    (λ (size : ℕ). pieces_of order n (place + 4 * size) (id + 1) (drop (4 * size) (b ∷ bs))
    >>= λ (rest : List (List ℕ)). Ok (take (4 * size) (b ∷ bs) ∷ rest))
    (head_not place id (word_in order (b ∷ bs)) (length (b ∷ bs) / 4))
    (λ (size : ℕ).
    after (pieces_of order n (place + 4 * size) (id + 1) (drop (4 * size) (b ∷ bs)))
    (λ (rest : List (List ℕ)). Ok (take (4 * size) (b ∷ bs) ∷ rest))
    (pieces_not order n (place + 4 * size) (id + 1) (drop (4 * size) (b ∷ bs)))
    (λ (rest : List (List ℕ)). fine (take (4 * size) (b ∷ bs) ∷ rest)))
    h

abbrev NoMemory : Option BtfFault → Type 0
NoMemory o = o ≡ Some Memory → ⊥

or_not : (a b : Option BtfFault) → NoMemory a → NoMemory b → NoMemory (option_or a b)
or_not None b p q = q
or_not (Some e) b p q = p

names_not : (place id : ℕ) (o : Option ℕ) → NoMemory (option_map (λ (x : ℕ). BtfName place id x) o)
names_not place id None h = absurd (cc)
names_not place id (Some x) h = absurd (cc)

refs_not : (place id : ℕ) (o : Option ℕ) → NoMemory (option_map (λ (x : ℕ). BtfRef place id x) o)
refs_not place id None h = absurd (cc)
refs_not place id (Some x) h = absurd (cc)

fault_not : (order : Order) (place id limit count : ℕ) (ps : List (List ℕ))
    → NoMemory (pieces_fault order place id limit count ps)
unfolding pieces_fault
fault_not order place id limit count [] h = absurd (cc)
fault_not order place id limit count (p ∷ ps) h =
    or_not (words_fault place id limit count (word_in order p))
    (pieces_fault order (place + length p) (id + 1) limit count ps)
    (or_not _ _ (names_not place id _) (refs_not place id _))
    (fault_not order (place + length p) (id + 1) limit count ps) h

unless_not : (order : Order) (pieces : List (List ℕ)) (names : List ℕ) (o : Option BtfFault)
    → NoMemory o → NotMemory (file_unless order pieces names o)
unless_not order pieces names None n h = absurd (cc)
unless_not order pieces names (Some e) n h =
    let q : e ≡ Memory = cc in n (ap (λ (z : BtfFault). Some z) q)

wanted_not : (want o : Option Order) → NotMemory (wanted_order want o)
wanted_not want None = magic
wanted_not want (Some order) =
    pick (is_wanted want order) (Ok order) (Err BtfMagic) (fine order) magic

sections_not : (order : Order) (bytes : List ℕ) → NotMemory (sections_of order bytes)
sections_not order bytes = pick _ _ _ header (pick _ _ _ (fine _) header)

module _ (based : Bool) (types limit : ℕ) (want : Option Order) (bytes : List ℕ) where
  abbrev of_pieces : Order → List ℕ × List ℕ → List (List ℕ) → Result File BtfFault
  of_pieces order t pieces =
      file_unless order pieces t.1
      (pieces_fault order 24 (types + 1) (limit + length t.1) (types + length pieces) pieces)

  abbrev of_strings : Order → List ℕ × List ℕ → Result File BtfFault
  of_strings order t = pieces_of order (length t.0) 24 (types + 1) t.0 >>= of_pieces order t

  abbrev of_sections : Order → List ℕ × List ℕ → Result File BtfFault
  of_sections order s =
      (if is_begun based s.1 && is_ended s.1 then Ok s else Err (BtfStrings (24 + length s.0)))
      >>= of_strings order

  abbrev of_order : Order → Result File BtfFault
  of_order order = sections_of order bytes >>= of_sections order

  file_not : NotMemory (file_of based types limit want bytes)
  unfolding file_of
  file_not =
      after (order_in want bytes) of_order
      (wanted_not want (magic_order (get_or bytes 0 0) (get_or bytes 1 0)))
      (λ (order : Order). after (sections_of order bytes) (of_sections order)
      (sections_not order bytes)
      (λ (s : List ℕ × List ℕ). after
      (if is_begun based s.1 && is_ended s.1 then Ok s else Err (BtfStrings (24 + length s.0)))
      (of_strings order)
      (pick (is_begun based s.1 && is_ended s.1) (Ok s) (Err (BtfStrings (24 + length s.0)))
      (fine s) (strings (24 + length s.0)))
      (λ (t : List ℕ × List ℕ). after (pieces_of order (length t.0) 24 (types + 1) t.0)
      (of_pieces order t)
      (pieces_not order (length t.0) 24 (types + 1) t.0)
      (λ (pieces : List (List ℕ)). unless_not order pieces t.1
      (pieces_fault order 24 (types + 1) (limit + length t.1) (types + length pieces) pieces)
      (fault_not order 24 (types + 1) (limit + length t.1) (types + length pieces) pieces)))))

table_not : (before : Option Before) (want : Option Order) (bytes : List ℕ)
    → NotMemory (table_of before want bytes)
unfolding table_of
table_not before want bytes =
    after _ _ (file_not _ (length (types_before before)) (length (names_before before)) want bytes)
    (λ (f : File). fine _)

-- ---- an accepted file

memory_alone : (i : ℕ) (e : BtfFault) → refusal_in (of_btf i e) ≡ None → e ≡ Memory
memory_alone i BtfMagic h = absurd (cc)
memory_alone i BtfHeader h = absurd (cc)
memory_alone i (BtfTruncated at) h = absurd (cc)
memory_alone i (BtfKind at id k) h = absurd (cc)
memory_alone i (BtfInfo at id) h = absurd (cc)
memory_alone i (BtfName at id offset) h = absurd (cc)
memory_alone i (BtfRef at id target) h = absurd (cc)
memory_alone i (BtfStrings at) h = absurd (cc)
memory_alone i Memory h = refl

accepted : (i : ℕ) (r : Result Decoded BtfFault) → NotMemory r
    → seen_as (of_btf i) (result_err r) ≡ None → (t : Decoded) × (r ≡ Ok t)
accepted i (Ok t) n h = (t, refl)
accepted i (Err e) n h = absurd (n (ap (λ (z : BtfFault). Err z) (memory_alone i e h)))

same_types : (t u : Decoded) (r : Result Decoded BtfFault) → r ≡ Ok t → r ≡ Ok u
    → t.types ≡ u.types
same_types t u r e f = let q : t ≡ u = cc in ap (λ (d : Decoded). d.types) q

pub bytes_table : (before : Option Before) (want : Option Order) (i : ℕ) (bytes : List ℕ)
    → AreBytes bytes → EndsWithNul (names_before before) → btf_check before want i bytes ≡ None
    → TheTable (OfBytes before want bytes)
bytes_table before want i bytes h ends none =
    let a = accepted i (table_of before want bytes) (table_not before want bytes) none in
    let t : Decoded = a.0 in
    let s = shows before want bytes t h ends a.1 in
    record {
      types = t.types;
      from = record {
        order = t.order;
        own = drop t.base t.types;
        names = t.names;
        spells = s.spelled;
        wanted = s.wanted;
        whole = sym (take-append-drop t.base t.types)
            ∙ ap (λ (first : List CType). first ++ drop t.base t.types) s.first;
      };
      faithful = tt;
      only = λ (others : List CType) (o : SpellsTypes before want bytes others). o.whole
          ∙ sym (same_types t (record {
            order = o.order;
            base = length (types_before before);
            types = types_before before ++ o.own;
            names = o.names;
          }) (table_of before want bytes) a.1
          (complete before want o.order o.own o.names bytes h ends o.spells o.wanted));
    }

-- ---- a base that is read

-- its types are well formed and refer to one another, and its strings end with NUL
pub record IsReadBase (before : Option Before) : Type 0 where
  pub formed : All IsWellFormed (types_before before)
  pub within : RefersWithin (base_count before) (types_before before)
  pub ends : EndsWithNul (names_before before)

pub no_base : IsReadBase None
no_base = record {
  formed = λ k d lt. absurd (omega (arith, lt));
  within = λ k d lt. absurd (omega (arith, lt));
  ends = λ lt. absurd (omega (arith, lt));
}

spelled_base : (order : Order) (types : List CType) (names bytes : List ℕ)
    → Spells None order types names bytes
    → IsReadBase (Some (record { types = types; names = names }))
spelled_base order types names bytes s = record {
  formed = s.formed;
  within = (spelled_is_base order types names bytes s).within;
  ends = λ lt. get_or_from_slice_get names (length names - 1) 0 0 (s.ends lt);
}

read_base : (want : Option Order) (bytes : List ℕ) → AreBytes bytes
    → (r : Result Decoded BtfFault) → table_of None want bytes ≡ r → IsReadBase (before_by r)
read_base want bytes h (Err e) is = no_base
read_base want bytes h (Ok t) is =
    let s = shows None want bytes t h (λ lt. absurd (omega (arith, lt))) is in
    spelled_base t.order t.types t.names bytes
    (subst (λ (k : ℕ). Spells None t.order (drop k t.types) t.names bytes) s.base s.spelled)

pub base_is_read : (want : Option Order) (o : Option (List ℕ)) → IfSome o AreBytes
    → IsReadBase (base_read want o)
base_is_read want None h = no_base
base_is_read want (Some bytes) h = read_base want bytes h (table_of None want bytes) refl

pub bytes_are : (bytes : List ℕ) → All (λ (b : ℕ). b < 256) bytes → AreBytes bytes
bytes_are bytes all i = ⊎_elim (λ lt. all i 0 lt)
    (λ le. let e : get_or bytes i 0 ≡ 0 = get_or_past bytes i 0 le in omega (arith, e))
    (cases_lt i (length bytes))
