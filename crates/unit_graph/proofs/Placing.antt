-- Where the places of nodes rise, the node at a place is found.
use Rattle.std.proofs.Common.{◌≡◌, ◌+◌, ◌<◌, ◌^◌, ◌⊎◌, ◌==◌, ◌&&◌, ◌∷◌, [], nat_lt, ℕ, zero, suc}
use Rattle.std.proofs.Common.{Bool, true, false, List, Option, None, Some, refl, ap, subst, ◌∙◌}
use Rattle.std.proofs.Common.{arith, ⊎_elim}
use Rattle.std.specs.List.{slice_get}
use Rattle.std.proofs.lemmas.Bool.Decides.{nat_tests}
use Rattle.std.proofs.lemmas.Option.{none-some, same_Some}
use Rattle.unit_graph.specs.Sources.{Source}
use Rattle.unit_graph.specs.Links.{at_offset, is_at, or_here, number_from, number_of}
use Rattle.unit_graph.specs.Numbers.{PlacesRise}

nowhere : (p : ℕ × ℕ) (k : ℕ) (ss : List Source) → ((m : ℕ) (t : Source) → slice_get ss m ≡ Some t
    → is_at p t ≡ false) → number_from p k ss ≡ None
nowhere p k [] away = refl
nowhere p k (s ∷ ss) away =
    ap (or_here k (is_at p s)) (nowhere p (k + 1) ss (λ m t e. away (suc m) t e))
    ∙ ap (λ (b : Bool). or_here k b None) (away 0 s refl)

only : (p : ℕ × ℕ) (k n : ℕ) (ss : List Source) (s : Source) → slice_get ss n ≡ Some s → is_at p s
    ≡ true → ((m : ℕ) (t : Source) → n < m → slice_get ss m ≡ Some t → is_at p t ≡ false)
    → number_from p k ss ≡ Some (k + n)
only p k n [] s e here away = absurd (none-some s e)
only p k zero (x ∷ ss) s e here away =
    let is : x ≡ s = same_Some x s e in
    let same : k ≡ k + 0 = omega arith in
    ap (or_here k (is_at p x)) (nowhere p (k + 1) ss (λ m t f. away (suc m) t (omega arith) f))
    ∙ ap (λ (b : Bool). or_here k b None) (ap (is_at p) is ∙ here) ∙ ap (λ (j : ℕ). Some j) same
only p k (suc n) (x ∷ ss) s e here away =
    let same : k + 1 + n ≡ k + suc n = omega arith in
    ap (or_here k (is_at p x)) (only p (k + 1) n ss s e here
    (λ m t lt f. away (suc m) t (omega arith) f) ∙ ap (λ (j : ℕ). Some j) same)

place_is : (file at f : ℕ) (o : Option ℕ) → f ≡ file → o ≡ Some at
    → (f == file && at_offset at o) ≡ true
place_is file at f None ef eo = absurd (none-some at eo)
place_is file at f (Some b) ef eo = let is : b ≡ at = same_Some b at eo in grind (arith, nat_tests)

later : (file at f : ℕ) (o : Option ℕ) → ((b : ℕ) → o ≡ Some b
    → (file < f) ⊎ ((file ≡ f) × (at < b))) → (f == file && at_offset at o) ≡ false
later file at f None rise = grind (arith, nat_tests)
later file at f (Some b) rise = let r = rise b refl in ⊎_elim (λ lt. grind (arith, nat_tests))
    (λ q. let x = q.0 in let y = q.1 in grind (arith, nat_tests)) r

within : (n : ℕ) → n < 2 ^ 64 → nat_lt n (2 ^ 64) ≡ true
within n lt = grind (arith, nat_tests)

pub place_found : (all : List Source) (file at m : ℕ) (s : Source) → PlacesRise all → slice_get all
    m ≡ Some s → s.file ≡ file → s.at ≡ Some at → at < 2 ^ 64 → number_of all file at ≡ Some m
place_found all file at m s rise e ef ea small =
    rw (within at small)
    (only (file, at) 0 m all s e (place_is file at s.file s.at ef ea)
    (λ k t lt f. later file at t.file t.at (λ b eb.
    subst (λ x. (x < t.file) ⊎ ((x ≡ t.file) × (at < b))) ef (rise m k s t at b lt e f ea eb)))
    ∙ (let same : 0 + m ≡ m = omega arith in ap (λ (j : ℕ). Some j) same))
