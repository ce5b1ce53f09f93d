-- References as words, node by node, and hashes by words.
use Rattle.std.proofs.Common.{◌≡◌, ◌<◌, ◌≤◌, ◌+◌, ℕ, true, false, Some, List, [], ◌∷◌, ◌++◌, ◌⊎◌}
use Rattle.std.proofs.Common.{All, map, length, get_or, take, refl, sym, ◌∙◌, ap, arith, ⊎_elim}
use Rattle.std.specs.List.{fold, slice_get, slice_range, AllByRecursion}
use Rattle.std.proofs.lemmas.Bool.{cases_lt}
use Rattle.std.proofs.lemmas.List.{append_assoc, length_push, length-append, map_push}
use Rattle.std.proofs.lemmas.List.{get_or_append_left, get_or_push}
use Rattle.std.proofs.lemmas.List.Elements.{All-nil, All-cons, All-append}
use Rattle.c_model.specs.declared.graph.CType.{CType}
use Rattle.c_model.specs.declared.graph.Ref.{Ref}
use Rattle.c_model.specs.declared.graph.Ref.TheVariants.{Void, Node}
use Rattle.c_model.specs.Graph.{IsBelow, RefersWithin}
use Rattle.c_model.specs.Partition.{classes_of, targets_at}
use Rattle.c_model.specs.Forwards.{definitions_in, IsOpen}
use Rattle.c_model.proofs.Taking.{take-read}
use Rattle.c_model.proofs.Targets.{targets_at-below}
use Rattle.packed_graph.specs.Packed.{word_of, ref_of}
use Rattle.packed_graph.proofs.Pushing.{part-left, part-right, refs_of-words}
use Rattle.type_signature.specs.Hashing.{mixed, hash_by, IsHashed}
use Rattle.type_signature.specs.Links.{words_at, AreLinks, hash_at, IsHashedBy}
use Rattle.type_signature.specs.Signatures.{is_open_at, signature_at}
use Rattle.type_signature.proofs.Codes.{open-cases}

-- one more word of a node
pub words-read : (ts : List Ref) (i : ℕ) (t : Ref) (before old new : List ℕ)
    → slice_get ts i ≡ Some t → old ≡ before ++ map word_of (take i ts)
    → new ≡ old ++ word_of t ∷ [] → new ≡ before ++ map word_of (take (i + 1) ts)
words-read ts i t before old new at o n =
    let f : map word_of (take (i + 1) ts) ≡ map word_of (take i ts) ++ word_of t ∷ [] =
    ap (map word_of) (take-read ts i t at) ∙ map_push word_of (take i ts) t in
    n ∙ (ap (λ ws. ws ++ word_of t ∷ []) o ∙ (append_assoc before (map word_of (take i ts))
    (word_of t ∷ []) ∙ ap (λ ws. before ++ ws) (sym f)))

pub words-below : (n : ℕ) (ts : List Ref) → AllByRecursion (IsBelow n) ts
    → All (λ w. w ≤ n) (map word_of ts)
words-below n [] h = All-nil (λ w. w ≤ n)
words-below n (Void ∷ ts) h =
    All-cons (λ w. w ≤ n) 0 (map word_of ts) (omega arith) (words-below n ts h.1)
words-below n (Node x ∷ ts) h = All-cons (λ w. w ≤ n) (x + 1) (map word_of ts)
    (let k : x < n = h.0 in omega arith) (words-below n ts h.1)

-- what holds once the references of the first x nodes are words
pub record AreLinked (nodes : List CType) (x : ℕ) (ends words : List ℕ) : Type 0 where
  pub covers : length ends ≡ x + 1
  pub last : get_or ends x 0 ≡ length words
  pub rises : (k : ℕ) → k < x → get_or ends k 0 ≤ get_or ends (k + 1) 0
  pub within : (k : ℕ) → k < x → get_or ends (k + 1) 0 ≤ length words
  pub below : All (λ w. w ≤ length nodes) words
  pub at : (k : ℕ) → k < x → words_at ends words k ≡ map word_of (targets_at nodes k)

pub AreLinked-none : (nodes : List CType) → AreLinked nodes 0 (0 ∷ []) []
AreLinked-none nodes = record {
  covers = refl;
  last = refl;
  rises = λ k h. absurd (omega arith);
  within = λ k h. absurd (omega arith);
  below = All-nil (λ w. w ≤ length nodes);
  at = λ k h. absurd (omega arith);
}

module _ (nodes : List CType) (r : RefersWithin (length nodes) nodes) (x : ℕ)
    (ends words more : List ℕ) (l : AreLinked nodes x ends words)
    (is : more ≡ words ++ map word_of (targets_at nodes x)) (e : ℕ) (end : e ≡ length more) where
  old_end : (k : ℕ) → k ≤ x → get_or (ends ++ e ∷ []) k 0 ≡ get_or ends k 0
  old_end k h =
      get_or_append_left ends (e ∷ []) 0 k (let c : length ends ≡ x + 1 = l.covers in omega arith)

  new_end : (k : ℕ) → k ≡ x + 1 → get_or (ends ++ e ∷ []) k 0 ≡ e
  new_end k h = get_or_push ends e 0 k (let c : length ends ≡ x + 1 = l.covers in omega arith)

  longer : length more ≡ length words + length (map word_of (targets_at nodes x))
  longer = ap length is ∙ length-append words (map word_of (targets_at nodes x))

  pub AreLinked-more : AreLinked nodes (x + 1) (ends ++ e ∷ []) more
  AreLinked-more = record {
    covers = length_push ends e ∙ ap (λ k. k + 1) l.covers;
    last = new_end (x + 1) refl ∙ end;
    rises = λ k h. ⊎_elim
        (λ before. rw (old_end k (omega arith), old_end (k + 1) (omega arith)) (l.rises k before))
        (λ after.
        let same : k ≡ x = omega arith in
        let a : get_or (ends ++ e ∷ []) k 0 ≡ get_or ends k 0 = old_end k (omega arith) in
        let b : get_or (ends ++ e ∷ []) (k + 1) 0 ≡ e = new_end (k + 1) (omega arith) in
        let c : get_or ends k 0 ≡ length words = ap (λ j. get_or ends j 0) same ∙ l.last in
        omega (arith, longer, end))
        (cases_lt k x);
    within = λ k h. ⊎_elim
        (λ before.
        let a : get_or (ends ++ e ∷ []) (k + 1) 0 ≡ get_or ends (k + 1) 0 =
        old_end (k + 1) (omega arith) in
        let b : get_or ends (k + 1) 0 ≤ length words = l.within k before in
        omega (arith, longer))
        (λ after.
        let b : get_or (ends ++ e ∷ []) (k + 1) 0 ≡ e = new_end (k + 1) (omega arith) in
        omega (arith, end))
        (cases_lt k x);
    below = rw is (All-append
        (λ w. w ≤ length nodes) words (map word_of (targets_at nodes x)) l.below (words-below
        (length nodes) (targets_at nodes x) (targets_at-below (length nodes) nodes r x)));
    at = λ k h. ⊎_elim (before k) (λ after. here k (omega arith)) (cases_lt k x);
  }
    where
      before : (k : ℕ) → k < x → words_at (ends ++ e ∷ []) more k ≡ map word_of (targets_at nodes k)
      before k h =
          ap (λ ws.
          slice_range ws (get_or (ends ++ e ∷ []) k 0) (get_or (ends ++ e ∷ []) (k + 1) 0)) is
          ∙ (ap (λ a. slice_range (words ++ map word_of (targets_at nodes x)) a
          (get_or (ends ++ e ∷ []) (k + 1) 0)) (old_end k (omega arith))
          ∙ (ap (slice_range (words ++ map word_of (targets_at nodes x)) (get_or ends k 0))
          (old_end (k + 1) (omega arith))
          ∙ (part-left words (map word_of (targets_at nodes x)) (get_or ends k 0)
          (get_or ends (k + 1) 0) (l.rises k h) (l.within k h)
          ∙ l.at k h)))

      here : (k : ℕ) → k ≡ x → words_at (ends ++ e ∷ []) more k ≡ map word_of (targets_at nodes k)
      here k h =
          ap (λ ws.
          slice_range ws (get_or (ends ++ e ∷ []) k 0) (get_or (ends ++ e ∷ []) (k + 1) 0)) is
          ∙ (ap (λ a. slice_range (words ++ map word_of (targets_at nodes x)) a (get_or (ends ++ e
          ∷ []) (k + 1) 0)) (old_end k (omega arith) ∙ (ap (λ j. get_or ends j 0) h ∙ l.last))
          ∙ (ap (slice_range (words ++ map word_of (targets_at nodes x)) (length words))
          (new_end (k + 1) (omega arith))
          ∙ (part-right words (map word_of (targets_at nodes x)) e (end ∙ longer)
          ∙ ap (λ j. map word_of (targets_at nodes j)) (sym h))))

pub AreLinks-all : (nodes : List CType) (x : ℕ) (ends words : List ℕ) → x ≡ length nodes
    → AreLinked nodes x ends words → AreLinks nodes ends words
AreLinks-all nodes x ends words e l = record {
  fits = record {
    covers = l.covers ∙ ap (λ k. k + 1) e;
    rises = λ k h. l.rises k (omega arith);
    within = λ k h. l.within k (omega arith);
    below = l.below;
  };
  at = λ k h. l.at k (omega arith);
}

-- hashes by words are those of signatures
pub IsHashed-words : (nodes : List CType) (index : List (List ℕ)) (ends words p v : List ℕ)
    → length index ≡ length nodes → AreLinks nodes ends words → IsHashedBy index ends words p v
    → IsHashed nodes index p v
IsHashed-words nodes index ends words p v same l h = record {
  covers = h.covers ∙ same;
  at = λ x lt. h.at x (omega arith) ∙ by x lt (open-cases index x);
}
  where
    by : (x : ℕ) → x < length nodes → (IsOpen index x × (is_open_at index x ≡ true))
        ⊎ ((definitions_in index x ≡ []) × (is_open_at index x ≡ false)) → hash_at index ends words
        p x ≡ hash_by (signature_at nodes index p x).0 (signature_at nodes index p x).1
    by x lt c = ⊎_elim
        (λ o. rw o.1 refl)
        (λ o. rw o.1 (ap (λ ts. fold mixed (get_or p x 0) (classes_of p ts))
        (ap (map ref_of) (l.at x lt) ∙ refs_of-words (targets_at nodes x))))
        c
