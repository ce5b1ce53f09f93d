-- The types of a file, one piece after another.
use Rattle.std.proofs.Common.{◌≡◌, ℕ, zero, suc, ◌+◌, ◌*◌, ◌-◌, ◌/◌, ◌<◌, ◌≤◌, nat_lt, Bool, true}
use Rattle.std.proofs.Common.{false, List, [], ◌∷◌, ◌++◌, length, take, drop, Option, None, Some}
use Rattle.std.proofs.Common.{Result, Ok, Err, if◌then◌else◌, refl, sym, ap, subst, ◌∙◌, arith}
use Rattle.std.proofs.Common.{append_assoc, append-nil}
use Rattle.std.proofs.lemmas.Bool.{le-ltb, ltb-false}
use Rattle.std.proofs.lemmas.List.{drop-drop}
use Rattle.dw_base.specs.declared.numbers.Order.{Order}
use Rattle.btf_codec.specs.Fields.{layout_of}
use Rattle.btf_codec.specs.Gives.{Fails, Gives}
use Rattle.btf_codec.specs.Reading.{◌>>=◌, checked_width, head_of, is_header, is_info, kind_in}
use Rattle.btf_codec.specs.Reading.{pieces_of}
use Rattle.btf_codec.specs.Reading.{sections_of, type_width, vlen_in, word_in}
use Rattle.btf_codec.specs.declared.fault.BtfFault.{BtfFault}
use Rattle.btf_codec.specs.declared.fault.BtfFault.TheVariants.{BtfMagic, BtfHeader, BtfTruncated}
use Rattle.btf_codec.specs.declared.fault.BtfFault.TheVariants.{BtfKind, BtfInfo, BtfName, BtfRef}
use Rattle.btf_codec.specs.declared.fault.BtfFault.TheVariants.{BtfStrings, Memory}
use Rattle.btf_codec.specs.declared.layout.KindLayout.{KindLayout}
use Rattle.btf_codec.specs.declared.layout.KindLayout.TheVariants.{Int, Link, Array, Forward}
use Rattle.btf_codec.specs.declared.layout.KindLayout.TheVariants.{TaggedLink, Float, Sized}
use Rattle.btf_codec.specs.declared.layout.KindLayout.TheVariants.{Prototype}

-- a refusal is what reading gives
pub fails_with : {Y : Type 0} (e : BtfFault) (read : Result Y BtfFault) → read ≡ Err e
    → Fails e read
fails_with BtfMagic read h = h
fails_with BtfHeader read h = h
fails_with (BtfTruncated a) read h = h
fails_with (BtfKind a b c) read h = h
fails_with (BtfInfo a b) read h = h
fails_with (BtfName a b c) read h = h
fails_with (BtfRef a b c) read h = h
fails_with (BtfStrings a) read h = h
fails_with Memory read h = tt

-- a call that gives a fault answers what reading refuses with it
pub refused : {X Y : Type 0} (view : X → Y) (r : Result X BtfFault) (e : BtfFault)
    (read : Result Y BtfFault) → r ≡ Err e → Fails e read → Gives view r read
refused {X} {Y} view r e read gone fails =
    subst (λ (s : Result X BtfFault). Gives view s read) (sym gone) fails

-- pieces before the rest
abbrev pub with_front : List (List ℕ) → Result (List (List ℕ)) BtfFault
    → Result (List (List ℕ)) BtfFault
with_front front r = r >>= λ (rest : List (List ℕ)). Ok (front ++ rest)

with_one : (front : List (List ℕ)) (p : List ℕ) (r : Result (List (List ℕ)) BtfFault) → with_front
    front (r >>= λ (rest : List (List ℕ)). Ok (p ∷ rest)) ≡ with_front (front ++ p ∷ []) r
with_one front p (Ok rest) = ap (λ (xs : List (List ℕ)).
    let r : Result (List (List ℕ)) BtfFault = Ok xs in r) (sym (append_assoc front (p ∷ []) rest))
with_one front p (Err e) = refl

pub width_some : (layout : KindLayout) (v : ℕ) → 3 ≤ type_width layout v
width_some Int v = omega arith
width_some Link v = omega arith
width_some Array v = omega arith
width_some Forward v = omega arith
width_some TaggedLink v = omega arith
width_some Float v = omega arith
width_some (Sized parts) v = omega arith
width_some Prototype v = omega arith

pub record Fit (layout : Option KindLayout) (size left v : ℕ) : Type 0 where
  pub is : KindLayout
  pub laid : layout ≡ Some is
  pub size_is : size ≡ type_width is v
  pub some : 3 ≤ size
  pub few : size ≤ left

sized : (place id left size v : ℕ) (layout : KindLayout) (a b : Bool)
    → nat_lt left (type_width layout v) ≡ b
    → ◌≡◌ {A = Result ℕ BtfFault} (if a then (if b then Err (BtfTruncated place)
    else Ok (type_width layout v)) else Err (BtfInfo place id)) (Ok size)
    → Fit (Some layout) size left v
sized place id left size v layout true true f e = cc
sized place id left size v layout true false f e =
    let q : type_width layout v ≡ size = cc in
    let le : type_width layout v ≤ left = ltb-false left (type_width layout v) f in
    record {
      is = layout;
      laid = refl;
      size_is = sym q;
      some = omega (arith, q, width_some layout v);
      few = omega (arith, q, le);
    }
sized place id left size v layout false b f e = cc

checked_fits : (place id y third left size : ℕ) (o : Option KindLayout)
    → checked_width place id y third left o ≡ Ok size → Fit o size left (vlen_in y)
checked_fits place id y third left size None e = cc
checked_fits place id y third left size (Some layout) e = sized place id left size
    (vlen_in y) layout (is_info layout y third) (nat_lt left (type_width layout (vlen_in y))) refl e

headed : (place id left size : ℕ) (w : ℕ → ℕ) (b : Bool)
    → ◌≡◌ {A = Result ℕ BtfFault} (if b then Err (BtfTruncated place)
    else checked_width place id (w 1) (w 2) left (layout_of (kind_in (w 1)))) (Ok size)
    → Fit (layout_of (kind_in (w 1))) size left (vlen_in (w 1))
headed place id left size w true e = cc
headed place id left size w false e =
    checked_fits place id (w 1) (w 2) left size (layout_of (kind_in (w 1))) e

pub head_fits : (place id left size : ℕ) (w : ℕ → ℕ) → head_of place id w left ≡ Ok size
    → Fit (layout_of (kind_in (w 1))) size left (vlen_in (w 1))
head_fits place id left size w e = headed place id left size w (nat_lt left 3) e

-- a piece more, none, or a refusal
pub one_piece : (order : Order) (n i place id size : ℕ) (rest : List ℕ) (front : List (List ℕ))
    (total : Result (List (List ℕ)) BtfFault) → i < n → 0 < length rest
    → head_of place id (word_in order rest) (length rest / 4) ≡ Ok size
    → with_front front (pieces_of order (n - i) place id rest) ≡ total
    → with_front (front ++ take (4 * size) rest ∷ [])
    (pieces_of order (n - (i + 1)) (place + 4 * size) (id + 1) (drop (4 * size) rest)) ≡ total
unfolding pieces_of
one_piece order n i place id size [] front total lt some h so_far = absurd (omega arith)
one_piece order n i place id size (b ∷ bs) front total lt some h so_far =
    let e : n - i ≡ suc (n - (i + 1)) = omega arith in
    let s : with_front front (pieces_of order (suc (n - (i + 1))) place id (b ∷ bs)) ≡ total = subst
    (λ (k : ℕ). with_front front (pieces_of order k place id (b ∷ bs)) ≡ total) e so_far in
    sym (with_one front (take (4 * size) (b ∷ bs))
    (pieces_of order (n - (i + 1)) (place + 4 * size) (id + 1) (drop (4 * size) (b ∷ bs))))
    ∙ sym (rw h refl)
    ∙ s

pub at_end : (order : Order) (k place id : ℕ) → pieces_of order k place id [] ≡ Ok []
unfolding pieces_of
at_end order zero place id = refl
at_end order (suc k) place id = refl

pub no_piece : (order : Order) (n i place id : ℕ) (rest : List ℕ) (front : List (List ℕ))
    (total : Result (List (List ℕ)) BtfFault) → rest ≡ []
    → with_front front (pieces_of order (n - i) place id rest) ≡ total → total ≡ Ok front
no_piece order n i place id rest front total none so_far =
    sym so_far
    ∙ ap (λ (bs : List ℕ). with_front front (pieces_of order (n - i) place id bs)) none
    ∙ ap (λ (r : Result (List (List ℕ)) BtfFault). with_front front r)
    (at_end order (n - i) place id)
    ∙ ap (λ (xs : List (List ℕ)). let r : Result (List (List ℕ)) BtfFault = Ok xs in
    r) (append-nil front)

pub no_fuel : (order : Order) (n i place id : ℕ) (rest : List ℕ) (front : List (List ℕ))
    (total : Result (List (List ℕ)) BtfFault) → n ≤ i
    → with_front front (pieces_of order (n - i) place id rest) ≡ total → total ≡ Ok front
unfolding pieces_of
no_fuel order n i place id rest front total le so_far =
    let z : n - i ≡ 0 = omega arith in
    sym so_far
    ∙ ap (λ (k : ℕ). with_front front (pieces_of order k place id rest)) z
    ∙ ap (λ (xs : List (List ℕ)). let r : Result (List (List ℕ)) BtfFault = Ok xs in
    r) (append-nil front)

pub bad_piece : (order : Order) (n i place id : ℕ) (e : BtfFault) (rest : List ℕ)
    (front : List (List ℕ)) (total : Result (List (List ℕ)) BtfFault) → i < n → 0 < length rest
    → head_of place id (word_in order rest) (length rest / 4) ≡ Err e
    → with_front front (pieces_of order (n - i) place id rest) ≡ total → total ≡ Err e
unfolding pieces_of
bad_piece order n i place id e [] front total lt some h so_far = absurd (omega arith)
bad_piece order n i place id e (b ∷ bs) front total lt some h so_far =
    let k : n - i ≡ suc (n - (i + 1)) = omega arith in
    sym so_far ∙ ap (λ (j : ℕ). with_front front (pieces_of order j place id (b ∷ bs))) k
    ∙ rw h refl

-- the two sections
pub sections_are : (order : Order) (bytes rest front back : List ℕ) (t : ℕ) → 24 ≤ length bytes
    → is_header order bytes ≡ true → t ≡ word_in order bytes 3
    → rest ≡ drop 24 bytes → front ≡ take t rest → back ≡ drop t rest
    → ◌≡◌ {A = Result (List ℕ × List ℕ) BtfFault} (Ok (front, back)) (sections_of order bytes)
sections_are order bytes rest front back t le h is whole f b =
    let l : nat_lt (length bytes) 24 ≡ false = le-ltb (length bytes) 24 le in
    let g : front ≡ take (word_in order bytes 3) (drop 24 bytes) =
    f ∙ ap (λ (xs : List ℕ). take t xs) whole ∙ ap (λ (n : ℕ). take n (drop 24 bytes)) is in
    let d : back ≡ drop (24 + word_in order bytes 3) bytes = b ∙ ap (λ (xs : List ℕ). drop t xs)
    whole ∙ drop-drop t 24 bytes ∙ ap (λ (n : ℕ). drop (24 + n) bytes) is in
    (λ i. let r : Result (List ℕ × List ℕ) BtfFault = Ok (g i, d i) in r) ∙ sym (rw (l, h) refl)

-- a quarter of the bytes
pub quarter : (size n : ℕ) → size ≤ n / 4 → 4 * size ≤ n
quarter size n h = omega arith

-- the loop over pieces, one step on
pub kept_on : (order : Order) (n i place id size : ℕ) (rest piece behind : List ℕ)
    (front new : List (List ℕ)) (total : Result (List (List ℕ)) BtfFault) → i < n → 0 < length rest
    → head_of place id (word_in order rest) (length rest / 4) ≡ Ok size
    → new ≡ front ++ piece ∷ [] → piece ≡ take (4 * size) rest → behind ≡ drop (4 * size) rest
    → with_front front (pieces_of order (n - i) place id rest) ≡ total
    → with_front new (pieces_of order (n - (i + 1)) (place + 4 * size) (id + 1) behind) ≡ total
kept_on order n i place id size rest piece behind front new total lt some h is p b so_far =
    ap (λ (xs : List (List ℕ)). with_front xs (pieces_of order (n - (i + 1)) (place + 4 * size)
    (id + 1) behind)) (is ∙ ap (λ (x : List ℕ). front ++ x ∷ []) p)
    ∙ ap (λ (bs : List ℕ). with_front (front ++ take (4 * size) rest ∷ [])
    (pieces_of order (n - (i + 1)) (place + 4 * size) (id + 1) bs)) b
    ∙ one_piece order n i place id size rest front total lt some h so_far
