-- Words below a limit: offsets in the strings and ids of the table.
use Rattle.std.proofs.Common.{◌≡◌, ℕ, zero, suc, ◌+◌, ◌-◌, ◌<◌, nat_le, cond, Bool, true}
use Rattle.std.proofs.Common.{false, List, [], ◌∷◌, length, map, drop, get_or, unwrap_or, All}
use Rattle.std.proofs.Common.{Option, None, Some, refl, sym, ap, ◌∙◌, arith}
use Rattle.std.specs.Option.{option_map, option_or}
use Rattle.std.proofs.lemmas.Bool.{leb-false, lt-leb}
use Rattle.std.proofs.lemmas.List.{get_or-drop, length-drop}
use Rattle.dw_base.specs.Texts.{text_from, text_of, HasNoNul}
use Rattle.c_model.specs.Graph.{IsBelow}
use Rattle.c_model.specs.declared.graph.Ref.{Ref}
use Rattle.c_model.specs.declared.graph.Ref.TheVariants.{Void, Node}
use Rattle.dw_base.proofs.Texts.{text_from_no_nul, text_within}
use Rattle.btf_codec.specs.Fields.{id_of}
use Rattle.btf_codec.specs.Gives.{EndsWithNul}
use Rattle.btf_codec.specs.Reading.{first_past, name_at, ref_of, words_fault, names_in, ids_in}
use Rattle.btf_codec.specs.declared.fault.BtfFault.TheVariants.{BtfName, BtfRef}
use Rattle.btf_codec.proofs.Strung.{text_there}

-- none is past the limit
past_first : (limit x : ℕ) (xs : List ℕ) (b : Bool) → nat_le limit x ≡ b
    → cond b (Some x) (first_past limit xs) ≡ None → (x < limit) × (first_past limit xs ≡ None)
past_first limit x xs true e h = cc
past_first limit x xs false e h = (leb-false limit x e, h)

pub past_split : (limit x : ℕ) (xs : List ℕ) → first_past limit (x ∷ xs) ≡ None
    → (x < limit) × (first_past limit xs ≡ None)
past_split limit x xs h = past_first limit x xs (nat_le limit x) refl h

pub past_join : (limit x : ℕ) (xs : List ℕ) → x < limit → first_past limit xs ≡ None
    → first_past limit (x ∷ xs) ≡ None
past_join limit x xs lt h = let e : nat_le limit x ≡ false = lt-leb limit x lt in rw e h

neither : (place id : ℕ) (a b : Option ℕ) → option_or (option_map (λ (x : ℕ). BtfName place id x) a)
    (option_map (λ (x : ℕ). BtfRef place id x) b) ≡ None → (a ≡ None) × (b ≡ None)
neither place id None None h = (refl, refl)
neither place id None (Some x) h = cc
neither place id (Some x) b h = cc

pub no_fault_split : (place id limit count : ℕ) (w : ℕ → ℕ) → words_fault place id limit count w
    ≡ None → (first_past limit (names_in w) ≡ None) × (first_past (count + 1) (ids_in w) ≡ None)
no_fault_split place id limit count w h =
    neither place id (first_past limit (names_in w)) (first_past (count + 1) (ids_in w)) h

pub no_fault_join : (place id limit count : ℕ) (w : ℕ → ℕ) → first_past limit (names_in w) ≡ None
    → first_past (count + 1) (ids_in w) ≡ None → words_fault place id limit count w ≡ None
no_fault_join place id limit count w a b =
    (λ i. option_or (option_map (λ (x : ℕ). BtfName place id x) (a i))
    (option_map (λ (x : ℕ). BtfRef place id x) (b i)))

-- ids and references
pub ref_stands : (x : ℕ) → x ≡ id_of (ref_of x)
ref_stands zero = refl
ref_stands (suc x) = omega arith

below_one : (count x : ℕ) → x < count + 1 → IsBelow count (ref_of x)
below_one count zero lt = tt
below_one count (suc x) lt = omega arith

pub ids_below : (count : ℕ) (xs : List ℕ) → first_past (count + 1) xs ≡ None
    → All (IsBelow count) (map ref_of xs)
ids_below count [] h k d lt = absurd (omega arith)
ids_below count (x ∷ xs) h zero d lt = below_one count x (past_split (count + 1) x xs h).0
ids_below count (x ∷ xs) h (suc k) d lt =
    ids_below count xs (past_split (count + 1) x xs h).1 k d (omega arith)

pub id_below : (count : ℕ) (r : Ref) → IsBelow count r → id_of r < count + 1
id_below count Void b = omega arith
id_below count (Node x) b = omega arith

clean_option : (xs : List ℕ) (o : Option (List ℕ)) → text_from xs ≡ o → HasNoNul (unwrap_or o [])
clean_option xs None e = λ (k d : ℕ) (lt : k < 0). absurd (omega arith)
clean_option xs (Some t) e = text_from_no_nul xs t e

pub name_clean : (s : List ℕ) (x : ℕ) → HasNoNul (name_at s x)
unfolding text_of
name_clean s x = clean_option (drop x s) (text_from (drop x s)) refl

-- at each offset below the length is a text
some_there : (o : Option (List ℕ)) (t : List ℕ) → o ≡ Some t → o ≡ Some (unwrap_or o [])
some_there o t e =
    e ∙ ap (λ (p : Option (List ℕ)). let r : Option (List ℕ) = Some (unwrap_or p []) in r) (sym e)

pub name_stands : (s : List ℕ) (x : ℕ) → EndsWithNul s → x < length s
    → text_of s x ≡ Some (name_at s x)
unfolding text_of
name_stands s x ends lt =
    let l : length (drop x s) ≡ length s - x = length-drop x s in
    let i : x + (length (drop x s) - 1) ≡ length s - 1 = omega (arith, l) in
    let g : get_or (drop x s) (length (drop x s) - 1) 0 ≡ 0 = get_or-drop x s
    (length (drop x s) - 1) 0 ∙ ap (λ (k : ℕ). get_or s k 0) i ∙ ends (omega arith) in
    let h = text_there (drop x s) (omega (arith, l)) g in
    some_there (text_from (drop x s)) h.0 h.1

pub offset_below : (s : List ℕ) (x : ℕ) (name : List ℕ) → text_of s x ≡ Some name → x < length s
offset_below s x name e = omega (arith, text_within s x name e)
