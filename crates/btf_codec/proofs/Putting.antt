-- What was put behind what was there.
use Rattle.std.proofs.Common.{◌≡◌, ℕ, zero, suc, ◌+◌, ◌<◌, ◌≤◌, List, [], ◌∷◌, ◌++◌, length, take}
use Rattle.std.proofs.Common.{drop, get_or, Option, refl, sym, ap, ◌∙◌, append_assoc, append-nil}
use Rattle.std.specs.List.{flat_map}
use Rattle.std.proofs.lemmas.List.{drop_more, drop_all, drop-drop, map-append, take_more}
use Rattle.std.proofs.lemmas.List.{flat_map_more}
use Rattle.std.proofs.lemmas.Grind.{flat_map-append}
use Rattle.dw_base.specs.declared.numbers.Order.{Order}
use Rattle.btf_strings.specs.Names.{Names}
use Rattle.c_model.specs.declared.label.Part.{Part}
use Rattle.c_model.specs.declared.graph.CType.{CType}
use Rattle.c_model.specs.declared.graph.Ref.{Ref}
use Rattle.btf_codec.specs.Fields.{Field, Named, Number, fields_of, info_of, layout_of, part_fields}
use Rattle.btf_codec.specs.Fields.{parts_fields, rest_by, target_at}
use Rattle.btf_codec.specs.Spells.{word_bytes, words_bytes}
use Rattle.btf_codec.specs.Spelling.{types_words, word_of, words_of}
use Rattle.btf_codec.specs.declared.layout.KindLayout.{KindLayout}
use Rattle.btf_codec.specs.declared.layout.PartLayout.{PartLayout}

-- words and then more words
pub put_both : (order : Order) (old mid new xs ys : List ℕ) → mid ≡ old ++ words_bytes order xs
    → new ≡ mid ++ words_bytes order ys → new ≡ old ++ words_bytes order (xs ++ ys)
put_both order old mid new xs ys e f =
    f ∙ ap (λ (zs : List ℕ). zs ++ words_bytes order ys) e
    ∙ append_assoc old (words_bytes order xs) (words_bytes order ys)
    ∙ ap (λ (zs : List ℕ). old ++ zs) (sym (flat_map-append (word_bytes order) xs ys))

-- the words of a type whose layout is known
pub words_by : (s : Names) (t : CType) (o : Option KindLayout) → o ≡ layout_of t.label.kind
    → words_of s (fields_of t) ≡ word_of s (Named t.label.name) ∷ word_of s
    (Number (info_of t.label)) ∷ words_of s (rest_by o t.label t.targets)
unfolding fields_of
words_by s t o e = rw (← e) refl

target_dropped : (rs : List Ref) (i : ℕ) → target_at (drop i rs) 0 ≡ target_at rs i
target_dropped rs zero = refl
target_dropped [] (suc i) = refl
target_dropped (r ∷ rs) (suc i) = target_dropped rs i

-- the fields of the parts from a place on
pub parts_more : (layout : PartLayout) (ps : List Part) (rs : List Ref) (i : ℕ) (d : Part)
    → i < length ps
    → parts_fields layout (drop i ps) (drop i rs) ≡ part_fields layout (get_or ps i d)
    (target_at rs i) ++ parts_fields layout (drop (i + 1) ps) (drop (i + 1) rs)
unfolding parts_fields
parts_more layout ps rs i d lt =
    ap (λ (qs : List Part). parts_fields layout qs (drop i rs)) (drop_more ps i d lt)
    ∙ ap (λ (r : Ref). part_fields layout (get_or ps i d) r
    ++ parts_fields layout (drop (i + 1) ps) (drop 1 (drop i rs))) (target_dropped rs i)
    ∙ ap (λ (qs : List Ref). part_fields layout (get_or ps i d) (target_at rs i)
    ++ parts_fields layout (drop (i + 1) ps) qs) (drop-drop 1 i rs)

-- one part more
pub one_part : (order : Order) (s : Names) (layout : PartLayout) (ps : List Part) (rs : List Ref)
    (i : ℕ) (p : Part) (old new total : List ℕ) → i < length ps → p ≡ get_or ps i p
    → old ++ words_bytes order (words_of s (parts_fields layout (drop i ps) (drop i rs))) ≡ total
    → new ≡ old ++ words_bytes order (words_of s (part_fields layout p (target_at rs i)))
    → new ++ words_bytes order
    (words_of s (parts_fields layout (drop (i + 1) ps) (drop (i + 1) rs))) ≡ total
one_part order s layout ps rs i p old new total lt is all put =
    let a : List Field = part_fields layout p (target_at rs i) in
    let b : List Field = parts_fields layout (drop (i + 1) ps) (drop (i + 1) rs) in
    put_both order old new (new ++ words_bytes order (words_of s b)) (words_of s a)
    (words_of s b) put refl
    ∙ ap (λ (ws : List ℕ). old ++ words_bytes order ws) (sym (map-append (word_of s) a b))
    ∙ ap (λ (q : Part).
    old ++ words_bytes order (words_of s (part_fields layout q (target_at rs i) ++ b))) is
    ∙ ap (λ (fs : List Field). old ++ words_bytes order (words_of s fs))
    (sym (parts_more layout ps rs i p lt))
    ∙ all

-- no part more
pub all_parts : (order : Order) (s : Names) (layout : PartLayout) (ps : List Part) (rs : List Ref)
    (i : ℕ) (out total : List ℕ) → length ps ≤ i
    → out ++ words_bytes order (words_of s (parts_fields layout (drop i ps) (drop i rs))) ≡ total
    → out ≡ total
unfolding parts_fields
all_parts order s layout ps rs i out total le all =
    sym (append-nil out)
    ∙ ap (λ (qs : List Part). out ++ words_bytes order
    (words_of s (parts_fields layout qs (drop i rs)))) (sym (drop_all i ps le))
    ∙ all

-- one type more
pub one_type : (order : Order) (s : Names) (ts : List CType) (i : ℕ) (t : CType)
    (first old new : List ℕ) → i < length ts → t ≡ get_or ts i t
    → old ≡ first ++ words_bytes order (types_words s (take i ts))
    → new ≡ old ++ words_bytes order (words_of s (fields_of t))
    → new ≡ first ++ words_bytes order (types_words s (take (i + 1) ts))
one_type order s ts i t first old new lt is before put =
    put_both order first old new (types_words s (take i ts)) (words_of s (fields_of t)) before put
    ∙ ap (λ (ws : List ℕ). first ++ words_bytes order ws)
    (sym (map-append (word_of s) (flat_map fields_of (take i ts)) (fields_of t)))
    ∙ ap (λ (u : CType).
    first ++ words_bytes order (words_of s (flat_map fields_of (take i ts) ++ fields_of u))) is
    ∙ ap (λ (fs : List Field). first ++ words_bytes order (words_of s fs))
    (flat_map_more fields_of [] (take i ts) (get_or ts i t))
    ∙ ap (λ (us : List CType). first ++ words_bytes order (types_words s us))
    (sym (take_more ts i t lt))

-- a type whose layout is known
pub put_known : (order : Order) (s : Names) (t : CType) (o : Option KindLayout) (old new : List ℕ)
    (name info : ℕ) → o ≡ layout_of t.label.kind
    → name ≡ word_of s (Named t.label.name) → info ≡ info_of t.label
    → new ≡ old ++ words_bytes order (name ∷ info ∷ words_of s (rest_by o t.label t.targets))
    → new ≡ old ++ words_bytes order (words_of s (fields_of t))
put_known order s t o old new name info e n i put =
    put
    ∙ ap (λ (w : ℕ).
    old ++ words_bytes order (w ∷ info ∷ words_of s (rest_by o t.label t.targets))) n
    ∙ ap (λ (w : ℕ). old ++ words_bytes order
    (word_of s (Named t.label.name) ∷ w ∷ words_of s (rest_by o t.label t.targets))) i
    ∙ ap (λ (ws : List ℕ). old ++ words_bytes order ws) (sym (words_by s t o e))
