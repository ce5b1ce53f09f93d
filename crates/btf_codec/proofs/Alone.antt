-- Bytes spell one table alone.
use Rattle.std.proofs.Common.{◌≡◌, ℕ, suc, ◌*◌, ◌<◌, ◌^◌, List, [], ◌∷◌, ◌++◌, length, take, drop}
use Rattle.std.proofs.Common.{All, Option, refl, sym, ap, subst, ◌∙◌, arith, append_assoc}
use Rattle.std.specs.List.{AllZip, flat_map}
use Rattle.std.specs.Int.{from_le_bytes, from_be_bytes, w32}
use Rattle.std.proofs.lemmas.Nat.{from_be_bytes-to_be_bytes_4, from_le_bytes-to_le_bytes_4}
use Rattle.dw_base.specs.declared.numbers.Order.{Order}
use Rattle.dw_base.specs.declared.numbers.Order.TheVariants.{Little, Big}
use Rattle.c_model.specs.declared.graph.CType.{CType}
use Rattle.btf_codec.specs.Fields.{fields_of}
use Rattle.btf_codec.specs.Spells.{Base, Spells, StandsFor, base_names, header_bytes, word_bytes}
use Rattle.btf_codec.specs.Spells.{words_bytes}
use Rattle.btf_codec.proofs.Decoding.{types_alone}

word_alone : (order : Order) (a b : ℕ) → a < 2 ^ 32 → b < 2 ^ 32
    → word_bytes order a ≡ word_bytes order b → a ≡ b
word_alone Little a b la lb e = sym (from_le_bytes-to_le_bytes_4 a la)
    ∙ ap (λ (bs : List ℕ). from_le_bytes w32 bs) e ∙ from_le_bytes-to_le_bytes_4 b lb
word_alone Big a b la lb e = sym (from_be_bytes-to_be_bytes_4 a la)
    ∙ ap (λ (bs : List ℕ). from_be_bytes w32 bs) e ∙ from_be_bytes-to_be_bytes_4 b lb

-- four bytes and what is behind them
split_word : (order : Order) (a b : ℕ) (xs ys : List ℕ) → word_bytes order a ++ xs
    ≡ word_bytes order b ++ ys → (word_bytes order a ≡ word_bytes order b) × (xs ≡ ys)
split_word Little a b xs ys e =
    (ap (λ (bs : List ℕ). take 4 bs) e, ap (λ (bs : List ℕ). drop 4 bs) e)
split_word Big a b xs ys e = (ap (λ (bs : List ℕ). take 4 bs) e, ap (λ (bs : List ℕ). drop 4 bs) e)

words_alone : (order : Order) (ws vs xs ys : List ℕ) → length ws ≡ length vs
    → All (λ (w : ℕ). w < 2 ^ 32) ws → All (λ (w : ℕ). w < 2 ^ 32) vs
    → words_bytes order ws ++ xs ≡ words_bytes order vs ++ ys → (ws ≡ vs) × (xs ≡ ys)
words_alone order [] [] xs ys l f g e = (refl, e)
words_alone order [] (v ∷ vs) xs ys l f g e = absurd (omega arith)
words_alone order (w ∷ ws) [] xs ys l f g e = absurd (omega arith)
words_alone order (w ∷ ws) (v ∷ vs) xs ys l f g e =
    let s = split_word order w v (words_bytes order ws ++ xs) (words_bytes order vs ++ ys)
    (sym (append_assoc (word_bytes order w) (words_bytes order ws) xs) ∙ e
    ∙ append_assoc (word_bytes order v) (words_bytes order vs) ys) in
    let r = words_alone order ws vs xs ys (omega arith) (λ (k d : ℕ) (lt : k < length ws). f (suc k)
    d (omega arith)) (λ (k d : ℕ) (lt : k < length vs). g (suc k) d (omega arith)) s.1 in
    let q : w ≡ v = word_alone order w v (f 0 0 (omega arith)) (g 0 0 (omega arith)) s.0 in
    ((λ i. q i ∷ r.0 i), r.1)

-- a header and what is behind it
pub record HeaderAlone (order : Order) (a b c d : ℕ) (xs ys : List ℕ) : Type 0 where
  pub types : word_bytes order a ≡ word_bytes order c
  pub names : word_bytes order b ≡ word_bytes order d
  pub rest : xs ≡ ys

header_alone : (order : Order) (a b c d : ℕ) (xs ys : List ℕ)
    → header_bytes order a b ++ xs ≡ header_bytes order c d ++ ys → HeaderAlone order a b c d xs ys
header_alone Little a b c d xs ys e = record {
  types = ap (λ (bs : List ℕ). take 4 (drop 12 bs)) e;
  names = ap (λ (bs : List ℕ). take 4 (drop 20 bs)) e;
  rest = ap (λ (bs : List ℕ). drop 24 bs) e;
}
header_alone Big a b c d xs ys e = record {
  types = ap (λ (bs : List ℕ). take 4 (drop 12 bs)) e;
  names = ap (λ (bs : List ℕ). take 4 (drop 20 bs)) e;
  rest = ap (λ (bs : List ℕ). drop 24 bs) e;
}

pub spelled_alone : (base : Option Base) (order : Order) (own others : List CType)
    (names more bytes : List ℕ) → Spells base order own names bytes
    → Spells base order others more bytes → (others ≡ own) × (more ≡ names)
spelled_alone base order own others names more bytes p q =
    let h = header_alone order (4 * length q.words) (length more) (4 * length p.words)
    (length names) (words_bytes order q.words ++ more) (words_bytes order p.words ++ names)
    (sym (append_assoc (header_bytes order (4 * length q.words) (length more))
    (words_bytes order q.words) more) ∙ sym q.whole ∙ p.whole
    ∙ append_assoc (header_bytes order (4 * length p.words) (length names))
    (words_bytes order p.words) names) in
    let l : 4 * length q.words ≡ 4 * length p.words = word_alone order (4 * length q.words)
    (4 * length p.words) q.types_length p.types_length h.types in
    let w = words_alone order q.words p.words more names (omega arith) q.narrow p.narrow h.rest in
    let f : AllZip (StandsFor (base_names base ++ names)) (flat_map fields_of others) p.words =
    subst (λ (ws : List ℕ).
    AllZip (StandsFor (base_names base ++ names)) (flat_map fields_of others) ws) w.0
    (subst (λ (ns : List ℕ). AllZip (StandsFor (base_names base ++ ns))
    (flat_map fields_of others) q.words) w.1 q.fields) in
    (types_alone (base_names base ++ names) others own p.words q.formed p.formed f p.fields, w.1)
