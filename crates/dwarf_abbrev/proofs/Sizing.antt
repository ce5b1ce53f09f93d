-- The bytes of some pairs, and of one pair more.
use Rattle.std.proofs.Common.{◌≡◌, ℕ, ◌+◌, List, [], ◌∷◌, ◌++◌, Option, None, Some, refl, sym, ap}
use Rattle.std.proofs.Common.{◌∙◌, arith}
use Rattle.std.specs.Prelude.{IfSome}
use Rattle.dwarf_abbrev.specs.Sizes.{bytes_of, plus, sizes_of, total}
use Rattle.dwarf_abbrev.specs.declared.runs.FixedRun.{FixedRun}
use Rattle.dwarf_abbrev.specs.declared.spec.Spec.{Spec}

plus_zero : (p : Option ℕ) → plus p (Some 0) ≡ plus (Some 0) p
plus_zero (Some n) = let e : n + 0 ≡ 0 + n = omega arith in ap (λ (k : ℕ). Some k) e
plus_zero None = refl

plus_assoc : (p q r : Option ℕ) → plus p (plus q r) ≡ plus (plus p q) r
plus_assoc (Some l) (Some m) (Some n) =
    let e : l + (m + n) ≡ (l + m) + n = omega arith in ap (λ (k : ℕ). Some k) e
plus_assoc (Some l) (Some m) None = refl
plus_assoc (Some l) None r = refl
plus_assoc None q r = refl

-- one pair more at the end
pub sizes_push : (o a : ℕ) (ss : List Spec) (s : Spec)
    → sizes_of o a (ss ++ s ∷ []) ≡ plus (sizes_of o a ss) (bytes_of o a s.form)
sizes_push o a [] s = plus_zero (bytes_of o a s.form)
sizes_push o a (t ∷ ss) s =
    ap (plus (bytes_of o a t.form)) (sizes_push o a ss s)
    ∙ plus_assoc (bytes_of o a t.form) (sizes_of o a ss) (bytes_of o a s.form)

-- the size of one form more
pub with_one : (run : FixedRun) (form : ℕ) (w : ℕ → ℕ → ℕ) (r : Option FixedRun)
    → ((o a : ℕ) → bytes_of o a form ≡ Some (w o a))
    → ((o a : ℕ) → IfSome r (λ z. total o a z ≡ total o a run + w o a)) → (o a : ℕ)
    → IfSome r (λ z. plus (Some (total o a run)) (bytes_of o a form) ≡ Some (total o a z))
with_one run form w None b h o a = h o a
with_one run form w (Some z) b h o a = rw (b o a) (ap (λ (k : ℕ). Some k) (sym (h o a)))
