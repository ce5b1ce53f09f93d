-- One word further.
use Rattle.std.proofs.Common.{Bool, cond, true, false, ◌≡◌, ℕ, ◌+◌, List, [], ◌∷◌, ◌++◌, length}
use Rattle.std.proofs.Common.{drop, Some, None, Option, ap, ◌∙◌, sym, refl, arith, append_assoc}
use Rattle.std.proofs.Common.{length-append, append-nil, drop-drop}
use Rattle.std.specs.Option.{option_or, option_map}
use Rattle.command_line.specs.declared.options.Setting.{Setting}
use Rattle.command_line.specs.Words.{Role, option, unknown, value, dashes, file, Before, nothing}
use Rattle.command_line.specs.Words.{first_of, role, behind, roles, uses, files, code_after, usage}
use Rattle.command_line.specs.Words.{word_fault, option_role, value_at, behind_option, awaits_value}
use Rattle.command_line.specs.Words.{is_used}
use Rattle.command_line.specs.declared.options.ValuePlace.{ValuePlace}
use Rattle.command_line.specs.declared.options.ValuePlace.TheVariants.{Nowhere, NextWord, SameWord}
use Rattle.command_line.specs.Options.{row}
use Rattle.command_line.specs.Reading.{Reached, width}

pub uses-append : (rs ts : List Role) → uses (rs ++ ts) ≡ uses rs ++ uses ts
uses-append [] ts = refl
uses-append (option s (Some v) ∷ rs) ts = ap (λ us. (s, v) ∷ us) (uses-append rs ts)
uses-append (option s None ∷ rs) ts = uses-append rs ts
uses-append (unknown ∷ rs) ts = uses-append rs ts
uses-append (value ∷ rs) ts = uses-append rs ts
uses-append (dashes ∷ rs) ts = uses-append rs ts
uses-append (file w ∷ rs) ts = uses-append rs ts

pub files-append : (rs ts : List Role) → files (rs ++ ts) ≡ files rs ++ files ts
files-append [] ts = refl
files-append (option s v ∷ rs) ts = files-append rs ts
files-append (unknown ∷ rs) ts = files-append rs ts
files-append (value ∷ rs) ts = files-append rs ts
files-append (dashes ∷ rs) ts = files-append rs ts
files-append (file w ∷ rs) ts = ap (λ fs. w ∷ fs) (files-append rs ts)

first_cons : (ws : List (List ℕ)) (w : List ℕ) → first_of ws ≡ Some w → ws ≡ w ∷ drop 1 ws
first_cons [] w e = absurd (cc)
first_cons (v ∷ ws) w e = let same : v ≡ w = cc in ap (λ u. u ∷ ws) same

first_none : (ws : List (List ℕ)) → first_of ws ≡ None → ws ≡ []
first_none [] e = refl
first_none (v ∷ ws) e = absurd (cc)

-- the first of the words from a position on, and the rest
pub drop_at : (ws : List (List ℕ)) (at : ℕ) (w : List ℕ) → first_of (drop at ws) ≡ Some w
    → drop at ws ≡ w ∷ drop (at + 1) ws
drop_at ws at w e = first_cons (drop at ws) w e ∙ ap (λ vs. w ∷ vs) (drop-drop 1 at ws)

-- at the first position nothing is known
pub started : (ws : List (List ℕ)) → Reached ws nothing 0 [] []
started ws = record {
  before = [];
  count = refl;
  whole = refl;
  fault = refl;
  uses_are = refl;
  files_are = refl;
}

module _ (ws : List (List ℕ)) (b : Before) (at : ℕ) (us : List (Setting × List ℕ))
    (fs : List (List ℕ)) (w : List ℕ) (r : Role) where
  -- a word without a fault
  pub stepped :
      Reached ws b at us fs → first_of (drop at ws) ≡ Some w → role b w (drop (at + 1) ws) ≡ r
      → code_after us r ≡ None
      → Reached ws (behind b r) (at + 1) (us ++ uses (r ∷ [])) (fs ++ files (r ∷ []))
  stepped k first is fine =
      let here : roles b (drop at ws) ≡ r ∷ roles (behind b r) (drop (at + 1) ws) =
      ap (roles b) (drop_at ws at w first)
      ∙ ap (λ (q : Role). q ∷ roles (behind b q) (drop (at + 1) ws)) is in
      let known : code_after (uses k.before) r ≡ None =
      ap (λ vs. code_after vs r) (sym k.uses_are) ∙ fine in
      let past : word_fault k.before (r ∷ roles (behind b r) (drop (at + 1) ws))
      ≡ word_fault (k.before ++ r ∷ []) (roles (behind b r) (drop (at + 1) ws)) =
      ap (λ c. option_or (option_map (usage (length k.before)) c)
      (word_fault (k.before ++ r ∷ []) (roles (behind b r) (drop (at + 1) ws)))) known in
      record {
        before = k.before ++ r ∷ [];
        count = simp length-append (omega (arith, k.count));
        whole = append_assoc k.before (r ∷ []) (roles (behind b r) (drop (at + 1) ws))
            ∙ ap (λ rs. k.before ++ rs) (sym here) ∙ k.whole;
        fault = sym past ∙ sym (ap (word_fault k.before) here) ∙ k.fault;
        uses_are = ap (λ vs. vs ++ uses (r ∷ [])) k.uses_are ∙ sym (uses-append k.before (r ∷ []));
        files_are =
            ap (λ vs. vs ++ files (r ∷ [])) k.files_are ∙ sym (files-append k.before (r ∷ []));
      }

  -- a word with a fault
  pub stopped :
      (code : ℕ) → Reached ws b at us fs → first_of (drop at ws) ≡ Some w
      → role b w (drop (at + 1) ws) ≡ r → code_after us r ≡ Some code
      → word_fault [] (roles nothing ws) ≡ Some (usage at code)
  stopped code k first is bad =
      let here : roles b (drop at ws) ≡ r ∷ roles (behind b r) (drop (at + 1) ws) =
      ap (roles b) (drop_at ws at w first)
      ∙ ap (λ (q : Role). q ∷ roles (behind b q) (drop (at + 1) ws)) is in
      let known : code_after (uses k.before) r ≡ Some code =
      ap (λ vs. code_after vs r) (sym k.uses_are) ∙ bad in
      let past : word_fault k.before (r ∷ roles (behind b r) (drop (at + 1) ws))
      ≡ Some (usage (length k.before) code) =
      ap (λ c. option_or (option_map (usage (length k.before)) c)
      (word_fault (k.before ++ r ∷ []) (roles (behind b r) (drop (at + 1) ws)))) known in
      sym k.fault ∙ ap (word_fault k.before) here ∙ past ∙ ap (λ n. Some (usage n code)) k.count

-- at the end there are no words left
pub ended :
    (ws : List (List ℕ)) (b : Before) (at : ℕ) (us : List (Setting × List ℕ)) (fs : List (List ℕ))
    → Reached ws b at us fs
    → first_of (drop at ws) ≡ None
    → (word_fault [] (roles nothing ws) ≡ None) × (us ≡ uses (roles nothing ws))
    × (fs ≡ files (roles nothing ws))
ended ws b at us fs k none =
    let left : drop at ws ≡ [] = first_none (drop at ws) none in
    let all : k.before ≡ roles nothing ws =
    sym (append-nil k.before) ∙ sym (ap (λ vs. k.before ++ roles b vs) left) ∙ k.whole in (
      sym k.fault ∙ ap (λ vs. word_fault k.before (roles b vs)) left,
      k.uses_are ∙ ap uses all,
      k.files_are ∙ ap files all,
    )

not_missing : (b : Bool) → cond {A = Option ℕ} b (Some 4) (Some 2) ≡ None → ⊥
not_missing true e = cc
not_missing false e = cc

no_more : {A : Type 0} (xs : List A) → xs ++ [] ≡ xs
no_more xs = append-nil xs

-- an option, with the next word if that is its value
option_stepped_by :
    (ws : List (List ℕ)) (at : ℕ) (us : List (Setting × List ℕ)) (fs : List (List ℕ)) (w : List ℕ)
    (o : Setting × List ℕ)
    (p : ValuePlace) (next : Option (List ℕ))
    → (row o.0).place ≡ p → first_of (drop (at + 1) ws) ≡ next
    → Reached ws nothing at us fs → first_of (drop at ws) ≡ Some w
    → role nothing w (drop (at + 1) ws) ≡ option_role (Some o) (drop (at + 1) ws)
    → code_after us (option_role (Some o) (drop (at + 1) ws)) ≡ None
    → Reached ws nothing (at + width p)
    (us ++ uses (option_role (Some o) (drop (at + 1) ws) ∷ [])) fs
option_stepped_by ws at us fs w o SameWord next e n k first is fine =
    let one =
    stepped ws nothing at us fs w (option_role (Some o) (drop (at + 1) ws)) k first is fine in
    let behind_is : behind_option (row o.0).place ≡ nothing = ap behind_option e in
    rw behind_is at (rw (no_more fs) at one)
option_stepped_by ws at us fs w o Nowhere next e n k first is fine =
    let one =
    stepped ws nothing at us fs w (option_role (Some o) (drop (at + 1) ws)) k first is fine in
    let behind_is : behind_option (row o.0).place ≡ nothing = ap behind_option e in
    rw behind_is at (rw (no_more fs) at one)
option_stepped_by ws at us fs w o NextWord None e n k first is fine =
    let lacks : value_at (row o.0).place o.1 (drop (at + 1) ws) ≡ None = rw (e, n) in
    absurd (not_missing (is_used us o.0)
    (ap (λ (v : Option (List ℕ)). code_after us (option o.0 v)) (sym lacks) ∙ fine))
option_stepped_by ws at us fs w o NextWord (Some v) e n k first is fine =
    let r : Role = option_role (Some o) (drop (at + 1) ws) in
    let one = stepped ws nothing at us fs w r k first is fine in
    let behind_is : behind_option (row o.0).place ≡ awaits_value = ap behind_option e in
    let kept : Reached ws awaits_value (at + 1) (us ++ uses (r ∷ [])) fs =
    rw behind_is at (rw (no_more fs) at one) in
    let two = stepped ws awaits_value (at + 1) (us ++ uses (r ∷ [])) fs v value kept n refl refl in
    let sum : (at + 1) + 1 ≡ at + 2 = omega arith in
    rw sum at (rw (no_more fs) at (rw (no_more (us ++ uses (r ∷ []))) at two))

pub option_stepped :
    (ws : List (List ℕ)) (at : ℕ) (us : List (Setting × List ℕ)) (fs : List (List ℕ)) (w : List ℕ)
    (o : Setting × List ℕ)
    → Reached ws nothing at us fs → first_of (drop at ws) ≡ Some w
    → role nothing w (drop (at + 1) ws) ≡ option_role (Some o) (drop (at + 1) ws)
    → code_after us (option_role (Some o) (drop (at + 1) ws)) ≡ None
    → Reached ws nothing (at + width (row o.0).place)
    (us ++ uses (option_role (Some o) (drop (at + 1) ws) ∷ [])) fs
option_stepped ws at us fs w o k first is fine = option_stepped_by ws at us fs w o (row o.0).place
    (first_of (drop (at + 1) ws)) refl refl k first is fine
