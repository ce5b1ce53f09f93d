-- Names that stand one after another.
use Rattle.std.proofs.Common.{◌≡◌, ℕ, ◌+◌, ◌≤◌, Bool, true, false, cond, List, [], ◌∷◌, ◌++◌}
use Rattle.std.proofs.Common.{length, drop, Option, None, Some, if◌then◌else◌, is_some, refl, sym}
use Rattle.std.proofs.Common.{ap, ◌||◌, ◌∙◌, arith, append_assoc}
use Rattle.std.specs.List.{flat_map, list_any}
use Rattle.std.specs.Str.{bytes_eq}
use Rattle.std.proofs.lemmas.List.{length-append, drop_at}
use Rattle.dw_base.specs.Texts.{text_from, text_of, HasNoNul}
use Rattle.dw_base.proofs.Texts.{bytes_eq_same, bytes_eq_true}
use Rattle.btf_strings.specs.Names.{offset_among, with_nul}
use Rattle.btf_strings.specs.Kept.{ArePlaced, names_of, value_of}
use Rattle.btf_strings.proofs.Texts.{text_with_nul}

-- the value that is kept of a name is its offset
chosen : (t : Bool) (v at : ℕ) (a b : Option ℕ) → v ≡ at → a ≡ b
    → cond t (Some v) a ≡ (if t then Some at else b)
chosen true v at a b e f = ap (λ (n : ℕ). Some n) e
chosen false v at a b e f = f

pub value_is : (at : ℕ) (es : List (List ℕ × ℕ)) (name : List ℕ) → ArePlaced at es
    → value_of name es ≡ offset_among at (names_of es) name
unfolding offset_among
value_is at [] name h = refl
value_is at (e ∷ es) name h =
    chosen (bytes_eq name e.0) e.1 at (value_of name es)
    (offset_among (at + length e.0 + 1) (names_of es) name) h.0
    (value_is (at + length e.0 + 1) es name h.2)

-- one name more is placed behind the others
pub placed_more : (at : ℕ) (es : List (List ℕ × ℕ)) (e : List ℕ × ℕ) → ArePlaced at es
    → e.1 ≡ at + length (flat_map with_nul (names_of es)) → e.1 ≤ 0x00ff_ffff
    → ArePlaced at (es ++ e ∷ [])
placed_more at [] e h is le = (omega (arith, is), omega (arith, is, le), tt)
placed_more at (f ∷ es) e h is le =
    let l : length (with_nul f.0 ++ flat_map with_nul (names_of es))
    ≡ length f.0 + 1 + length (flat_map with_nul (names_of es)) =
    omega (
      arith,
      length-append (with_nul f.0) (flat_map with_nul (names_of es)),
      length-append f.0 (0 ∷ []),
    ) in
    (h.0, h.1, placed_more (at + length f.0 + 1) es e h.2 (omega (arith, is, l)) le)

-- a name that isn't among them is found once it is appended
step_none : (t : Bool) (at : ℕ) (o : Option ℕ) → (if t then Some at else o) ≡ None
    → (t ≡ false) × (o ≡ None)
step_none true at o e = cc
step_none false at o e = (refl, e)

pub found_last : (at : ℕ) (ns : List (List ℕ)) (name : List ℕ) → offset_among at ns name ≡ None
    → offset_among at (ns ++ name ∷ []) name ≡ Some (at + length (flat_map with_nul ns))
unfolding offset_among
found_last at [] name e =
    let t : bytes_eq name name ≡ true = bytes_eq_true name name refl in
    let z : at + 0 ≡ at = omega arith in
    rw (t, z) refl
found_last at (n ∷ ns) name e =
    let s = step_none (bytes_eq name n) at (offset_among (at + length n + 1) ns name) e in
    let t : bytes_eq name n ≡ false = s.0 in
    let l : at + length n + 1 + length (flat_map with_nul ns)
    ≡ at + length (with_nul n ++ flat_map with_nul ns) =
    omega (
      arith,
      length-append (with_nul n) (flat_map with_nul ns),
      length-append n (0 ∷ []),
    ) in
    rw t (found_last (at + length n + 1) ns name s.1 ∙ ap (λ (m : ℕ). Some m) l)

-- a name that is among them stays where it is
stays : (t : Bool) (at k : ℕ) (o more : Option ℕ) → (o ≡ Some k → more ≡ Some k)
    → (if t then Some at else o) ≡ Some k → (if t then Some at else more) ≡ Some k
stays true at k o more ih e = e
stays false at k o more ih e = ih e

pub found_still : (at : ℕ) (ns : List (List ℕ)) (name last : List ℕ) (k : ℕ)
    → offset_among at ns name ≡ Some k → offset_among at (ns ++ last ∷ []) name ≡ Some k
unfolding offset_among
found_still at [] name last k e = cc
found_still at (n ∷ ns) name last k e =
    stays (bytes_eq name n) at k (offset_among (at + length n + 1) ns name)
    (offset_among (at + length n + 1) (ns ++ last ∷ []) name)
    (λ (h : offset_among (at + length n + 1) ns name ≡ Some k).
    found_still (at + length n + 1) ns name last k h) e

-- a name has an offset among them exactly where it is one of them
any_step : (t : Bool) (at : ℕ) (o : Option ℕ) (b : Bool) → is_some o ≡ b
    → is_some (if t then Some at else o) ≡ (t || b)
any_step true at o b e = refl
any_step false at o b e = e

pub has_offset : (at : ℕ) (ns : List (List ℕ)) (name : List ℕ)
    → is_some (offset_among at ns name) ≡ list_any (bytes_eq name) ns
unfolding offset_among
has_offset at [] name = refl
has_offset at (n ∷ ns) name = any_step (bytes_eq name n) at (offset_among (at + length n + 1) ns
    name) (list_any (bytes_eq name) ns) (has_offset (at + length n + 1) ns name)

-- the text at the offset of a name is the name
text_step : (p n name : List ℕ) (ns : List (List ℕ)) (at from : ℕ) (t : Bool) → HasNoNul name
    → from ≡ length p → bytes_eq name n ≡ t
    → (offset_among (from + length n + 1) ns name ≡ Some at
    → text_of ((p ++ with_nul n) ++ flat_map with_nul ns) at ≡ Some name)
    → (if t then Some from else offset_among (from + length n + 1) ns name) ≡ Some at
    → text_of (p ++ (with_nul n ++ flat_map with_nul ns)) at ≡ Some name
unfolding text_of
text_step p n name ns at from true clean is e later h =
    let q : from ≡ at = cc in
    let d : drop at (p ++ (with_nul n ++ flat_map with_nul ns)) ≡ with_nul n ++ flat_map
    with_nul ns = drop_at p (with_nul n ++ flat_map with_nul ns) at (sym is ∙ q) in
    let s : name ≡ n = bytes_eq_same name n e in
    rw d (ap (λ (m : List ℕ). text_from (with_nul m ++ flat_map with_nul ns)) (sym s)
    ∙ text_with_nul name (flat_map with_nul ns) clean)
text_step p n name ns at from false clean is e later h = ap (λ (xs : List ℕ). text_of xs at)
    (sym (append_assoc p (with_nul n) (flat_map with_nul ns))) ∙ later h

pub text_among : (p : List ℕ) (ns : List (List ℕ)) (name : List ℕ) (at from : ℕ) → HasNoNul name
    → from ≡ length p → offset_among from ns name ≡ Some at
    → text_of (p ++ flat_map with_nul ns) at ≡ Some name
unfolding offset_among
text_among p [] name at from clean is e = cc
text_among p (n ∷ ns) name at from clean is e =
    text_step p n name ns at from (bytes_eq name n) clean is refl
    (λ (h : offset_among (from + length n + 1) ns name ≡ Some at).
    text_among (p ++ with_nul n) ns name at (from + length n + 1) clean
    (omega (arith, length-append p (with_nul n), length-append n (0 ∷ []))) h)
    e

-- no offset among placed names is past the last
near_step : (t : Bool) (at k : ℕ) (o : Option ℕ) → at ≤ 0x00ff_ffff → (o ≡ Some k → k ≤ 0x00ff_ffff)
    → (if t then Some at else o) ≡ Some k → k ≤ 0x00ff_ffff
near_step true at k o le later e = let q : at ≡ k = cc in omega (arith, q, le)
near_step false at k o le later e = later e

pub offset_near : (at : ℕ) (es : List (List ℕ × ℕ)) (name : List ℕ) (k : ℕ) → ArePlaced at es
    → offset_among at (names_of es) name ≡ Some k → k ≤ 0x00ff_ffff
unfolding offset_among
offset_near at [] name k h e = cc
offset_near at (f ∷ es) name k h e =
    near_step (bytes_eq name f.0) at k
    (offset_among (at + length f.0 + 1) (names_of es) name) h.1
    (λ (later : offset_among (at + length f.0 + 1) (names_of es) name ≡ Some k).
    offset_near (at + length f.0 + 1) es name k h.2 later) e
