-- A number lies in the bytes, and takes one byte at least.
use Rattle.std.proofs.Common.{ℤ, ◌≡◌, ℕ, ◌+◌, ◌-◌, ◌<◌, ◌≤◌, ◌^◌, Bool, true, false, List, [], ◌∷◌}
use Rattle.std.proofs.Common.{length, drop, Option, Some, None, Result, Ok, Err, if◌then◌else◌}
use Rattle.std.proofs.Common.{nat_lt, suc, refl, sym, ap, subst, arith}
use Rattle.std.specs.Option.{option_map}
use Rattle.std.proofs.lemmas.List.{length-drop}
use Rattle.std.proofs.lemmas.Bool.{ltb-true}
use Rattle.dw_base.specs.Leb128.{leb_bytes, uleb_of, unsigned_of, unsigned_at, sleb_of, signed_of}
use Rattle.dw_base.specs.Leb128.{signed_at, fits_i64}
use Rattle.dw_base.specs.declared.leb128.LebFault.{LebFault}
use Rattle.dw_base.specs.declared.leb128.LebFault.TheVariants.{TooWide}

pub ok_parts : {A B F : Type 0} (a c : A) (b d : B)
    → ◌≡◌ {A = Result (A × B) F} (Ok (a, b)) (Ok (c, d)) → (a ≡ c) × (b ≡ d)
ok_parts {A} {B} {F} a c b d e = let p : ◌≡◌ {A = A × B} (a, b) (c, d) = cc in
    (ap (λ (x : A × B). x.0) p, ap (λ (x : A × B). x.1) p)

first : (x : ℕ) (xs ds : List ℕ) (t : Bool) (o : Option (List ℕ))
    → ((es : List ℕ) → o ≡ Some es → (0 < length es) × (length es ≤ length xs))
    → (if t then Some (x ∷ []) else option_map (λ (rest : List ℕ). x ∷ rest) o) ≡ Some ds
    → (0 < length ds) × (length ds ≤ suc (length xs))
first x xs ds true o ih e = let q : x ∷ [] ≡ ds = cc in rw (← q) (omega arith, omega arith)
first x xs ds false None ih e = cc
first x xs ds false (Some es) ih e = let q : x ∷ es ≡ ds = cc in let i = ih es refl in
    rw (← q) (omega arith, omega (arith, i.1))

pub leb_long : (xs ds : List ℕ) → leb_bytes xs ≡ Some ds → (0 < length ds) × (length ds ≤ length xs)
unfolding leb_bytes
leb_long [] ds e = cc
leb_long (x ∷ xs) ds e = first x xs ds (nat_lt x 128) (leb_bytes xs) (λ es h. leb_long xs es h) e

number : (at : ℕ) (ds : List ℕ) (t : Bool) (v end : ℕ) → nat_lt (unsigned_of ds) (2 ^ 64) ≡ t
    → ◌≡◌ {A = Result (ℕ × ℕ) LebFault} (if t then Ok (unsigned_of ds, at + length ds)
    else Err TooWide) (Ok (v, end)) → (v < 2 ^ 64) × (end ≡ at + length ds)
number at ds true v end h e = let p = ok_parts {F = LebFault} (unsigned_of ds) v (at + length ds)
    end e in (subst (λ (n : ℕ). n < 2 ^ 64) p.0 (ltb-true (unsigned_of ds) (2 ^ 64) h), sym p.1)
number at ds false v end h e = cc

placed : (bytes : List ℕ) (at v end : ℕ) (o : Option (List ℕ)) → leb_bytes (drop at bytes) ≡ o
    → unsigned_at at o ≡ Ok (v, end) → (at < end) × (end ≤ length bytes) × (v < 2 ^ 64)
placed bytes at v end None h e = cc
placed bytes at v end (Some ds) h e =
    let l = leb_long (drop at bytes) ds h in
    let n = number at ds (nat_lt (unsigned_of ds) (2 ^ 64)) v end refl e in
    let d : length (drop at bytes) ≡ length bytes - at = length-drop at bytes in
    (omega (arith, l.0, n.1), omega (arith, l.0, l.1, n.1), n.0)

pub uleb_after : (bytes : List ℕ) (at v end : ℕ) → uleb_of bytes at ≡ Ok (v, end)
    → (at < end) × (end ≤ length bytes) × (v < 2 ^ 64)
unfolding uleb_of
uleb_after bytes at v end e = placed bytes at v end (leb_bytes (drop at bytes)) refl e

signed_number : (at : ℕ) (ds : List ℕ) (t : Bool) (v : ℤ) (end : ℕ)
    → ◌≡◌ {A = Result (ℤ × ℕ) LebFault} (if t then Ok (signed_of ds, at + length ds)
    else Err TooWide) (Ok (v, end)) → end ≡ at + length ds
signed_number at ds true v end e =
    sym (ok_parts {F = LebFault} (signed_of ds) v (at + length ds) end e).1
signed_number at ds false v end e = cc

signed_placed : (bytes : List ℕ) (at : ℕ) (v : ℤ) (end : ℕ) (o : Option (List ℕ)) → leb_bytes
    (drop at bytes) ≡ o → signed_at at o ≡ Ok (v, end) → (at < end) × (end ≤ length bytes)
signed_placed bytes at v end None h e = cc
signed_placed bytes at v end (Some ds) h e =
    let l = leb_long (drop at bytes) ds h in
    let n = signed_number at ds (fits_i64 (signed_of ds)) v end e in
    let d : length (drop at bytes) ≡ length bytes - at = length-drop at bytes in
    (omega (arith, l.0, n), omega (arith, l.0, l.1, n))

pub sleb_after : (bytes : List ℕ) (at : ℕ) (v : ℤ) (end : ℕ) → sleb_of bytes at ≡ Ok (v, end)
    → (at < end) × (end ≤ length bytes)
unfolding sleb_of
sleb_after bytes at v end e = signed_placed bytes at v end (leb_bytes (drop at bytes)) refl e
