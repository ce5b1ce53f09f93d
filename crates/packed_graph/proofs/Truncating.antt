-- The first nodes of a list.
use Rattle.std.proofs.Common.{◌≡◌, ◌<◌, ◌≤◌, ◌+◌, ◌-◌, min, ℕ, zero, suc, List, Some, map, length}
use Rattle.std.proofs.Common.{get_or, take, drop, refl, sym, ◌∙◌, ap, subst, arith}
use Rattle.std.specs.List.{slice_get, slice_range, range_with_len}
use Rattle.std.proofs.lemmas.Option.{slice_get-get_or, slice_get_within, get_or_from_slice_get}
use Rattle.std.proofs.lemmas.List.{length-take, length-take-le, get_or-take, take-append-drop}
use Rattle.std.proofs.lemmas.List.FromFn.{take-map-range_with_len}
use Rattle.c_model.specs.declared.label.Label.{Label}
use Rattle.packed_graph.specs.Packed.{Columns, IsPacked, no_label, node_at, nodes_of, words_at}
use Rattle.packed_graph.specs.Packed.{ref_of}
use Rattle.packed_graph.specs.declared.rows.Rows.{Rows}
use Rattle.packed_graph.specs.Rows.{columns_of, AreFirst}
use Rattle.packed_graph.proofs.Pushing.{map-range_same, part-left}

-- the columns of the first n nodes, whose words end there
abbrev pub first_columns : Columns → ℕ → ℕ → Columns
first_columns c n end = record {
  labels = take n c.labels;
  numbers = take n c.numbers;
  ends = take (n + 1) c.ends;
  words = take end c.words;
}

slice_get-first : (ls : List Label) (n i : ℕ) (l : Label) → slice_get (take n ls) i ≡ Some l
    → slice_get ls i ≡ Some l
slice_get-first ls n i l e =
    let w : i < length (take n ls) = slice_get_within (take n ls) i l e in
    let size : length (take n ls) ≡ min n (length ls) = length-take n ls in
    slice_get-get_or ls i no_label (omega arith)
    ∙ ap (λ (k : Label). Some k) (sym (get_or-take n ls i no_label (omega arith))
    ∙ get_or_from_slice_get (take n ls) i l no_label e)

module _ (c : Columns) (p : IsPacked c) (n : ℕ) (lt : n < length c.numbers) (end : ℕ)
    (is : get_or c.ends n 0 ≡ end) where
  ends_rise : (k x : ℕ) → x + k ≡ n → get_or c.ends x 0 ≤ end
  ends_rise zero x e = let at : x ≡ n = omega arith in rw at (omega (arith, is))
  ends_rise (suc k) x e =
      let up : get_or c.ends x 0 ≤ get_or c.ends (x + 1) 0 = p.rises x (omega arith) in
      let more : get_or c.ends (x + 1) 0 ≤ end = ends_rise k (x + 1) (omega arith) in
      omega arith

  before_end : (x : ℕ) → x ≤ n → get_or c.ends x 0 ≤ end
  before_end x h = ends_rise (n - x) x (omega arith)

  first_end : (x : ℕ) → x ≤ n → get_or (take (n + 1) c.ends) x 0 ≡ get_or c.ends x 0
  first_end x h = get_or-take (n + 1) c.ends x 0 (omega arith)

  first_words : length (take end c.words) ≡ end
  first_words = length-take-le end c.words
      (let w : get_or c.ends n 0 ≤ length c.words = p.within n (omega arith) in omega arith)

  words-first : (x : ℕ) → x < n → words_at (first_columns c n end) x ≡ words_at c x
  words-first x h =
      let rises : get_or c.ends x 0 ≤ get_or c.ends (x + 1) 0 = p.rises x (omega arith) in
      let before : get_or c.ends (x + 1) 0 ≤ end = before_end (x + 1) (omega arith) in
      let size : length (take end c.words) ≡ end = first_words in
      ap (λ a. slice_range (take end c.words) a (get_or (take (n + 1) c.ends) (x + 1) 0))
      (first_end x (omega arith))
      ∙ (ap (slice_range (take end c.words) (get_or c.ends x 0)) (first_end (x + 1) (omega arith))
      ∙ (sym (part-left (take end c.words) (drop end c.words) (get_or c.ends x 0)
      (get_or c.ends (x + 1) 0) rises (omega arith))
      ∙ ap (λ ws. slice_range ws (get_or c.ends x 0) (get_or c.ends (x + 1) 0))
      (take-append-drop end c.words)))

  label-first : (x : ℕ) → x < n → get_or (take n c.labels) (get_or (take n c.numbers) x 0) no_label
      ≡ get_or c.labels (get_or c.numbers x 0) no_label
  label-first x h =
      let early : get_or c.numbers x 0 ≤ x = p.early x (omega arith) in
      ap (λ k. get_or (take n c.labels) k no_label) (get_or-take n c.numbers x 0 h)
      ∙ get_or-take n c.labels (get_or c.numbers x 0) no_label (omega arith)

  node-first : (x : ℕ) → x < n → node_at (first_columns c n end) x ≡ node_at c x
  node-first x h = let a = label-first x h in let b = words-first x h in
      λ i. record { label = a i; targets = map ref_of (b i) }

  pub nodes_of-first : nodes_of (first_columns c n end) ≡ take n (nodes_of c)
  unfolding nodes_of
  nodes_of-first =
      ap (λ k. map (node_at (first_columns c n end)) (range_with_len 0 k))
      (length-take-le n c.numbers (omega arith))
      ∙ (map-range_same (node_at (first_columns c n end)) (node_at c) 0 n
      (λ x a b. node-first x (omega arith))
      ∙ sym (take-map-range_with_len (node_at c) 0 (length c.numbers) n (omega arith)))

  pub IsPacked-first : IsPacked (first_columns c n end)
  IsPacked-first =
      let k : length c.ends ≡ length c.numbers + 1 = p.ends in
      let numbers : length (take n c.numbers) ≡ n = length-take-le n c.numbers (omega arith) in
      let ends : length (take (n + 1) c.ends) ≡ n + 1 = length-take-le (n + 1) c.ends
      (omega arith) in
      let words : length (take end c.words) ≡ end = first_words in
      let labels : length (take n c.labels) ≡ min n (length c.labels) = length-take n c.labels in
      record {
        ends = omega arith;
        first = first_end 0 (omega arith) ∙ p.first;
        rises = λ x h.
            let a : get_or (take (n + 1) c.ends) x 0 ≡ get_or c.ends x 0 =
            first_end x (omega arith) in
            let b : get_or (take (n + 1) c.ends) (x + 1) 0 ≡ get_or c.ends (x + 1) 0 =
            first_end (x + 1) (omega arith) in
            let up : get_or c.ends x 0 ≤ get_or c.ends (x + 1) 0 = p.rises x (omega arith) in
            omega arith;
        within = λ x h.
            let a : get_or (take (n + 1) c.ends) x 0 ≡ get_or c.ends x 0 =
            first_end x (omega arith) in
            let b : get_or c.ends x 0 ≤ end = before_end x (omega arith) in
            omega arith;
        last = ap (λ x. get_or (take (n + 1) c.ends) x 0) numbers
            ∙ (first_end n (omega arith) ∙ (is ∙ sym words));
        numbers = λ x h.
            let a : get_or (take n c.numbers) x 0 ≡ get_or c.numbers x 0 =
            get_or-take n c.numbers x 0 (omega arith) in
            let b : get_or c.numbers x 0 < length c.labels = p.numbers x (omega arith) in
            let early : get_or c.numbers x 0 ≤ x = p.early x (omega arith) in
            omega arith;
        early = λ x h.
            let a : get_or (take n c.numbers) x 0 ≡ get_or c.numbers x 0 =
            get_or-take n c.numbers x 0 (omega arith) in
            let b : get_or c.numbers x 0 ≤ x = p.early x (omega arith) in
            omega arith;
        distinct = λ i j l a b.
            p.distinct i j l (slice_get-first c.labels n i l a) (slice_get-first c.labels n j l b);
        few = omega arith;
      }

-- ---- the first columns, as the calls give them

module _ (ls : List Label) (rs : Rows) (p : IsPacked (columns_of ls rs)) (n : ℕ)
    (lt : n < length rs.numbers.items) (labels : List Label) (k : labels ≡ take n ls) (rows : Rows)
    (h : AreFirst n rs rows) where
  columns_are : columns_of labels rows
      ≡ first_columns (columns_of ls rs) n (get_or rs.ends.items n 0)
  columns_are = λ i. record {
    labels = k i;
    numbers = h.numbers i;
    ends = h.ends i;
    words = h.words i;
  }

  pub IsPacked-by : IsPacked (columns_of labels rows)
  IsPacked-by = subst (λ c. IsPacked c) (sym columns_are)
      (IsPacked-first (columns_of ls rs) p n lt (get_or rs.ends.items n 0) refl)

  pub nodes_of-by : nodes_of (columns_of labels rows) ≡ take n (nodes_of (columns_of ls rs))
  nodes_of-by = ap nodes_of columns_are
      ∙ nodes_of-first (columns_of ls rs) p n lt (get_or rs.ends.items n 0) refl
