-- Words in bytes, and the bytes of words.
use Rattle.std.proofs.Common.{◌≡◌, ℕ, zero, suc, ◌+◌, ◌*◌, ◌<◌, ◌≤◌, ◌^◌, List, [], ◌∷◌, ◌++◌}
use Rattle.std.proofs.Common.{length, take, drop, get_or, All, refl, sym, ap, ◌∙◌, arith}
use Rattle.std.proofs.Common.{append_assoc}
use Rattle.std.specs.Int.{from_le_bytes, from_be_bytes, w32}
use Rattle.std.proofs.lemmas.List.{drop_more}
use Rattle.std.proofs.lemmas.Nat.{be_bytes_4, le_bytes_4, from_be_bytes-to_be_bytes_4}
use Rattle.std.proofs.lemmas.Nat.{from_le_bytes-to_le_bytes_4}
use Rattle.dw_base.specs.declared.numbers.Order.{Order}
use Rattle.dw_base.specs.declared.numbers.Order.TheVariants.{Little, Big}
use Rattle.btf_codec.specs.Reading.{four, places, word_in, words_at}
use Rattle.btf_codec.specs.Spells.{word_bytes, words_bytes}

-- each is a byte
abbrev pub AreBytes : List ℕ → Type 0
AreBytes bytes = (i : ℕ) → get_or bytes i 0 < 256

four_are : (bytes : List ℕ) (at : ℕ) → AreBytes bytes → AreBytes (four bytes at)
four_are bytes at h zero = h at
four_are bytes at h (suc zero) = h (at + 1)
four_are bytes at h (suc (suc zero)) = h (at + 2)
four_are bytes at h (suc (suc (suc zero))) = h (at + 3)
four_are bytes at h (suc (suc (suc (suc i)))) = omega arith

-- the bytes of a word that was read
four_again : (order : Order) (bytes : List ℕ) (i : ℕ) → AreBytes bytes
    → word_bytes order (word_in order bytes i) ≡ four bytes (4 * i)
four_again Little bytes i h =
    le_bytes_4 (four bytes (4 * i)) (word_in Little bytes i) refl (four_are bytes (4 * i) h) refl
four_again Big bytes i h =
    be_bytes_4 (four bytes (4 * i)) (word_in Big bytes i) refl (four_are bytes (4 * i) h) refl

pub word_small : (order : Order) (bytes : List ℕ) (i : ℕ) → AreBytes bytes
    → word_in order bytes i < 2 ^ 32
word_small Little bytes i h = omega (arith, h (4 * i), h (4 * i + 1), h (4 * i + 2), h (4 * i + 3))
word_small Big bytes i h = omega (arith, h (4 * i), h (4 * i + 1), h (4 * i + 2), h (4 * i + 3))

pub four_more : (bytes : List ℕ) (m : ℕ) → m + 4 ≤ length bytes
    → drop m bytes ≡ four bytes m ++ drop (m + 4) bytes
four_more bytes m le =
    let a = drop_more bytes m 0 (omega arith) in
    let b = drop_more bytes (m + 1) 0 (omega arith) in
    let c = drop_more bytes (m + 1 + 1) 0 (omega arith) in
    let d = drop_more bytes (m + 1 + 1 + 1) 0 (omega arith) in
    let e : m + 1 + 1 ≡ m + 2 = omega arith in
    let f : m + 1 + 1 + 1 ≡ m + 3 = omega arith in
    let g : m + 1 + 1 + 1 + 1 ≡ m + 4 = omega arith in
    a
    ∙ ap (λ (xs : List ℕ). get_or bytes m 0 ∷ xs) b
    ∙ ap (λ (xs : List ℕ). get_or bytes m 0 ∷ get_or bytes (m + 1) 0 ∷ xs) c
    ∙ ap (λ (xs : List ℕ).
    get_or bytes m 0 ∷ get_or bytes (m + 1) 0 ∷ get_or bytes (m + 1 + 1) 0 ∷ xs) d
    ∙ (λ i. get_or bytes m 0 ∷ get_or bytes (m + 1) 0 ∷ get_or bytes (e i) 0 ∷ get_or bytes
    (f i) 0 ∷ drop (g i) bytes)

-- the bytes of words that were read, one after another
pub words_again : (order : Order) (bytes : List ℕ) (at n : ℕ) → AreBytes bytes
    → 4 * (at + n) ≤ length bytes
    → words_bytes order (words_at (word_in order bytes) at 1 n) ≡ take (4 * n) (drop (4 * at) bytes)
unfolding places
words_again order bytes at zero h le = refl
words_again order bytes at (suc n) h le =
    let e : 4 * suc n ≡ suc (suc (suc (suc (4 * n)))) = omega arith in
    let f : 4 * at + 4 ≡ 4 * (at + 1) = omega arith in
    (λ i. four_again order bytes at h i ++ words_again order bytes (at + 1) n h (omega arith) i)
    ∙ ap (λ (m : ℕ). four bytes (4 * at) ++ take (4 * n) (drop m bytes)) (sym f)
    ∙ ap (λ (m : ℕ). take m (four bytes (4 * at) ++ drop (4 * at + 4) bytes)) (sym e)
    ∙ ap (λ (xs : List ℕ). take (4 * suc n) xs) (sym (four_more bytes (4 * at) (omega arith)))

-- a word among the bytes of words
at_next : (a b c d j k : ℕ) (rest : List ℕ) → j ≡ 4 + k
    → get_or (a ∷ b ∷ c ∷ d ∷ rest) j 0 ≡ get_or rest k 0
at_next a b c d j k rest e = let f : j ≡ suc (suc (suc (suc k))) = omega arith in
    ap (λ (n : ℕ). get_or (a ∷ b ∷ c ∷ d ∷ rest) n 0) f

pub four_next : (a b c d i : ℕ) (rest : List ℕ)
    → four (a ∷ b ∷ c ∷ d ∷ rest) (4 * suc i) ≡ four rest (4 * i)
four_next a b c d i rest =
    let e = at_next a b c d (4 * suc i) (4 * i) rest (omega arith) in
    let f = at_next a b c d (4 * suc i + 1) (4 * i + 1) rest (omega arith) in
    let g = at_next a b c d (4 * suc i + 2) (4 * i + 2) rest (omega arith) in
    let h = at_next a b c d (4 * suc i + 3) (4 * i + 3) rest (omega arith) in
    λ t. e t ∷ f t ∷ g t ∷ h t ∷ []

word_there : (order : Order) (w i : ℕ) (rest : List ℕ)
    → word_in order (word_bytes order w ++ rest) (suc i) ≡ word_in order rest i
word_there Little w i rest = ap (λ (bs : List ℕ). from_le_bytes w32 bs) (four_next _ _ _ _ i rest)
word_there Big w i rest = ap (λ (bs : List ℕ). from_be_bytes w32 bs) (four_next _ _ _ _ i rest)

pub word_here : (order : Order) (w : ℕ) (rest : List ℕ) → w < 2 ^ 32
    → word_in order (word_bytes order w ++ rest) 0 ≡ w
word_here Little w rest lt = from_le_bytes-to_le_bytes_4 w lt
word_here Big w rest lt = from_be_bytes-to_be_bytes_4 w lt

pub word_read : (order : Order) (ws rest : List ℕ) (i : ℕ) → All (λ (w : ℕ). w < 2 ^ 32) ws
    → i < length ws → word_in order (words_bytes order ws ++ rest) i ≡ get_or ws i 0
word_read order [] rest i small lt = absurd (omega arith)
word_read order (w ∷ ws) rest zero small lt =
    ap (λ (bs : List ℕ). word_in order bs 0) (append_assoc (word_bytes order w) (words_bytes order
    ws) rest) ∙ word_here order w (words_bytes order ws ++ rest) (small 0 0 (omega arith))
word_read order (w ∷ ws) rest (suc i) small lt =
    ap (λ (bs : List ℕ). word_in order bs (suc i))
    (append_assoc (word_bytes order w) (words_bytes order ws) rest)
    ∙ word_there order w i (words_bytes order ws ++ rest)
    ∙ word_read order ws rest i
    (λ (k d : ℕ) (l : k < length ws). small (suc k) d (omega arith)) (omega arith)

-- words that are read one by one
pub words_listed : (w : ℕ → ℕ) (vs : List ℕ) (at : ℕ)
    → ((i : ℕ) → i < length vs → w (at + i) ≡ get_or vs i 0) → words_at w at 1 (length vs) ≡ vs
unfolding places
words_listed w [] at h = refl
words_listed w (v ∷ vs) at h =
    let z : at + 0 ≡ at = omega arith in
    let e : w at ≡ v = sym (ap w z) ∙ h 0 (omega arith) in
    let rest = words_listed w vs (at + 1)
    (λ (i : ℕ) (lt : i < length vs). let s : at + 1 + i ≡ at + suc i = omega arith in
    ap w s ∙ h (suc i) (omega arith)) in
    λ i. e i ∷ rest i
