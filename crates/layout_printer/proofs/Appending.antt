-- Texts that are appended one after the other.
use Rattle.std.proofs.Common.{◌≡◌, ℕ, List, ◌++◌, ap, ◌∙◌}
use Rattle.std.proofs.lemmas.List.{append_assoc}

pub two : (a b old x y : List ℕ) → x ≡ old ++ a → y ≡ x ++ b → y ≡ old ++ (a ++ b)
two a b old x y p q = q ∙ ap (λ (t : List ℕ). t ++ b) p ∙ append_assoc old a b

pub three : (a b c old x y z : List ℕ) → x ≡ old ++ a → y ≡ x ++ b → z ≡ y ++ c
    → z ≡ old ++ (a ++ (b ++ c))
three a b c old x y z p q r = two a (b ++ c) old x z p (two b c x y z q r)

pub four : (a b c d old x y z w : List ℕ) → x ≡ old ++ a → y ≡ x ++ b → z ≡ y ++ c → w ≡ z ++ d
    → w ≡ old ++ (a ++ (b ++ (c ++ d)))
four a b c d old x y z w p q r s = two a (b ++ (c ++ d)) old x w p (three b c d x y z w q r s)
