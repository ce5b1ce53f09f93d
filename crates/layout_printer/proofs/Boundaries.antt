-- Boundaries of cache lines, by the last line that a member begins in.
use Rattle.std.proofs.Common.{◌≡◌, ℕ, ◌*◌, ◌/◌, ◌<◌, ◌≤◌, max, Bool, true, false, ◌&&◌, List, []}
use Rattle.std.proofs.Common.{◌∷◌, ◌++◌, take, length, get_or, refl, sym, ap, ◌∙◌, arith, ltb, ◌+◌}
use Rattle.std.specs.List.{list_all}
use Rattle.std.proofs.lemmas.Bool.{cond-true, cond-false, lt-ltb, le-ltb}
use Rattle.std.proofs.lemmas.Bool.Decides.{nat_tests}
use Rattle.std.proofs.lemmas.List.{take_more, append-nil}
use Rattle.layout_printer.specs.Text.{boundary_text, boundary_line, line_of, opens}
use Rattle.layout_printer.specs.Lines.{greatest_line}
use Rattle.layout_printer.specs.declared.slots.Slot.{Slot}

exchanged : (a b c : Bool) → (a && (b && c)) ≡ (b && (a && c))
exchanged true true c = refl
exchanged true false c = refl
exchanged false true c = refl
exchanged false false c = refl

both_below : (x y n : ℕ) → (ltb x n && ltb y n) ≡ ltb (max x y) n
both_below x y n = grind (arith, nat_tests)

-- a member opens a line that is greater than the last one
opens_is : (line : ℕ) (earlier : List Slot) (n : ℕ)
    → opens line earlier n ≡ ltb (greatest_line line earlier) n
opens_is line [] n = by (ltb 0 n)
  where
    by : (b : Bool) → (b && true) ≡ b
    by true = refl
    by false = refl
opens_is line (s ∷ ss) n =
    exchanged (ltb 0 n) (ltb (line_of line s) n)
    (list_all (λ (e : Slot). ltb (line_of line e) n) ss)
    ∙ ap (λ b. ltb (line_of line s) n && b) (opens_is line ss n)
    ∙ both_below (line_of line s) (greatest_line line ss) n

pub boundary_none : (line : ℕ) (earlier : List Slot) (s : Slot) (number greatest : ℕ) (out : List ℕ)
    → number ≡ line_of line s → greatest ≡ greatest_line line earlier → number ≤ greatest
    → out ≡ out ++ boundary_text line earlier s
boundary_none line earlier s number greatest out e g h =
    sym (ap (λ (t : List ℕ). out ++ t) (cond-false _ _ _ (opens_is line earlier (line_of line s)
    ∙ le-ltb (greatest_line line earlier) (line_of line s) (omega arith))) ∙ append-nil out)

pub boundary_some : (line from : ℕ) (earlier : List Slot) (s : Slot) (number greatest : ℕ) → number
    ≡ line_of line s → from ≡ line → greatest ≡ greatest_line line earlier → greatest < number
    → boundary_line number (number * from) (s.start / 8) ≡ boundary_text line earlier s
boundary_some line from earlier s number greatest e f g h =
    ap (λ n. boundary_line n (n * from) (s.start / 8)) e
    ∙ ap (λ n. boundary_line (line_of line s) (line_of line s * n) (s.start / 8)) f
    ∙ sym (cond-true _ _ _ (opens_is line earlier (line_of line s)
    ∙ lt-ltb (greatest_line line earlier) (line_of line s) (omega arith)))

pub greatest_push : (line : ℕ) (ss : List Slot) (s : Slot)
    → greatest_line line (ss ++ s ∷ []) ≡ max (greatest_line line ss) (line_of line s)
greatest_push line [] s = omega arith
greatest_push line (a ∷ ss) s = let e = greatest_push line ss s in omega arith

pub greatest_more : (line : ℕ) (ss : List Slot) (i : ℕ) (d : Slot) → i < length ss → greatest_line
    line (take (i + 1) ss) ≡ max (greatest_line line (take i ss)) (line_of line (get_or ss i d))
greatest_more line ss i d h =
    ap (greatest_line line) (take_more ss i d h) ∙ greatest_push line (take i ss) (get_or ss i d)
