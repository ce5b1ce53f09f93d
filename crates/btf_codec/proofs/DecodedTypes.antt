-- The type that the words show is well formed, and the words stand for its fields.
use Rattle.std.proofs.Common.{◌≡◌, ℕ, zero, suc, ◌+◌, ◌*◌, ◌<◌, ◌≤◌, ◌^◌, ◌==◌, ◌&&◌, ◌||◌, not}
use Rattle.std.proofs.Common.{nat_lt, Bool, true, false, List, [], ◌∷◌, length, map, get_or, All}
use Rattle.std.proofs.Common.{IsTrue, Option, None, Some, if◌then◌else◌, refl, sym, ap, subst, ◌∙◌}
use Rattle.std.proofs.Common.{arith}
use Rattle.std.specs.List.{AllZip}
use Rattle.std.proofs.lemmas.Bool.{eqb-true, ltb-true, and_parts}
use Rattle.std.proofs.lemmas.List.{get_or-map, length-map}
use Rattle.dw_base.specs.Texts.{text_of}
use Rattle.c_model.specs.declared.label.Label.{Label}
use Rattle.c_model.specs.declared.label.Part.{Part}
use Rattle.c_model.specs.declared.graph.CType.{CType}
use Rattle.c_model.specs.Kinds.{FitsPart, IsWellFormed, Row}
use Rattle.c_model.specs.declared.kinds.TheConstants.{BTF_KIND_FUNC}
use Rattle.btf_codec.specs.Fields.{Field, Named, Number, bit_of, fields_of, high_of, info_of}
use Rattle.btf_codec.specs.Fields.{layout_of, low_of, parts_fields, rest_by, rest_fields, vlen_of}
use Rattle.btf_codec.specs.Reading.{first_past, flag_in, ids_by, is_clean, is_info, is_third}
use Rattle.btf_codec.specs.Reading.{is_vlen, kind_in, may_flag, name_at, names_by, decoded_part}
use Rattle.btf_codec.specs.Reading.{part_width, decoded_parts, places, ref_of, type_by, type_width}
use Rattle.btf_codec.specs.Reading.{part_ids, part_names, vlen_in, words_at}
use Rattle.btf_codec.specs.Spells.{StandsFor}
use Rattle.btf_codec.specs.declared.layout.KindLayout.{KindLayout}
use Rattle.btf_codec.specs.declared.layout.KindLayout.TheVariants.{Int, Link, Array, Forward}
use Rattle.btf_codec.specs.declared.layout.KindLayout.TheVariants.{TaggedLink, Float, Sized}
use Rattle.btf_codec.specs.declared.layout.KindLayout.TheVariants.{Prototype}
use Rattle.btf_codec.specs.declared.layout.PartLayout.{PartLayout}
use Rattle.btf_codec.specs.declared.layout.PartLayout.TheVariants.{Member, Enumerator}
use Rattle.btf_codec.specs.declared.layout.PartLayout.TheVariants.{WideEnumerator, Parameter}
use Rattle.btf_codec.specs.declared.layout.PartLayout.TheVariants.{Variable}
use Rattle.btf_codec.proofs.Below.{name_clean, past_split, ref_stands}
use Rattle.btf_codec.proofs.Rows.{never_sized, part_row, row_by, row_known}
use Rattle.btf_codec.proofs.Shapes.{ShapeOf, Together, refers, together}

-- three words and two, and those behind them
pub words_three : (w : ℕ → ℕ) (at n : ℕ)
    → words_at w at 1 (3 * suc n) ≡ w at ∷ w (at + 1) ∷ w (at + 2) ∷ words_at w (at + 3) 1 (3 * n)
unfolding places
words_three w at n =
    let e : 3 * suc n ≡ suc (suc (suc (3 * n))) = omega arith in
    let f : at + 1 + 1 ≡ at + 2 = omega arith in
    let g : at + 1 + 1 + 1 ≡ at + 3 = omega arith in
    ap (λ (m : ℕ). words_at w at 1 m) e
    ∙ (λ i. w at ∷ w (at + 1) ∷ w (f i) ∷ words_at w (g i) 1 (3 * n))

pub words_two : (w : ℕ → ℕ) (at n : ℕ)
    → words_at w at 1 (2 * suc n) ≡ w at ∷ w (at + 1) ∷ words_at w (at + 2) 1 (2 * n)
unfolding places
words_two w at n =
    let e : 2 * suc n ≡ suc (suc (2 * n)) = omega arith in
    let f : at + 1 + 1 ≡ at + 2 = omega arith in
    ap (λ (m : ℕ). words_at w at 1 m) e ∙ (λ i. w at ∷ w (at + 1) ∷ words_at w (f i) 1 (2 * n))

pub length_places : (at width n : ℕ) → length (places at width n) ≡ n
unfolding places
length_places at width zero = refl
length_places at width (suc n) = ap (λ (k : ℕ). suc k) (length_places (at + width) width n)

-- what the check of an info word found
pub record Info (layout : KindLayout) (y word : ℕ) : Type 0 where
  pub clean : is_clean y ≡ true
  pub flags : (not (flag_in y) || may_flag (kind_in y)) ≡ true
  pub vlen : is_vlen layout (kind_in y) (vlen_in y) ≡ true
  pub third : is_third layout word ≡ true

pub info_split : (layout : KindLayout) (y third : ℕ) → is_info layout y third ≡ true
    → Info layout y third
info_split layout y third h =
    let a = and_parts (is_clean y && (not (flag_in y) || may_flag (kind_in y))
    && is_vlen layout (kind_in y) (vlen_in y)) (is_third layout third) h in
    let b = and_parts (is_clean y && (not (flag_in y) || may_flag (kind_in y)))
    (is_vlen layout (kind_in y) (vlen_in y)) a.0 in
    let c = and_parts (is_clean y) (not (flag_in y) || may_flag (kind_in y)) b.0 in
    record { clean = c.0; flags = c.1; vlen = b.1; third = a.1 }

flag_ok : (f m : Bool) → (not f || m) ≡ true → IsTrue f → IsTrue m
flag_ok true true h t = t
flag_ok true false h t = cc
flag_ok false true h t = refl
flag_ok false false h t = t

pub vlen_none : (l : Label) (v : ℕ) → (l.kind == BTF_KIND_FUNC) ≡ false → length l.parts ≡ v
    → vlen_of l ≡ v
vlen_none l v e h = rw e h

linked_by : (b : Bool) (v : ℕ) → (if b then nat_lt v 3 else v == 0) ≡ true
    → (if b then (if b then v else 0) else 0) ≡ v
linked_by true v h = refl
linked_by false v h = sym (eqb-true v 0 h)

linked_extra : (b : Bool) (v : ℕ) → (if b then nat_lt v 3 else v == 0) ≡ true
    → (if b then v else 0) < (if b then 3 else 1)
linked_extra true v h = ltb-true v 3 h
linked_extra false v h = omega arith

info_word : (l : Label) (y : ℕ) → is_clean y ≡ true → vlen_of l ≡ vlen_in y → kind_in y ≡ l.kind
    → flag_in y ≡ l.flag → y ≡ info_of l
info_word l y c v k f =
    eqb-true y (vlen_in y + 2 ^ 24 * kind_in y + 2 ^ 31 * bit_of (flag_in y)) c
    ∙ (λ i. sym v i + 2 ^ 24 * k i + 2 ^ 31 * bit_of (f i))

pub shape_there : (k : ℕ) (layout : KindLayout) → layout_of k ≡ Some layout
    → ShapeOf layout k (row_by layout k)
unfolding Together
shape_there k layout e =
    let P : Option KindLayout → Type 0 = λ (o : Option KindLayout). Together k
    (Some (row_by layout k)) o in
    subst P e
    (subst (λ (o : Option Row). Together k o (layout_of k)) (row_known k layout e) (together k))

pub fields_with : (t : CType) (o : Option KindLayout) → layout_of t.label.kind ≡ o
    → fields_of t ≡ Named t.label.name ∷ Number (info_of t.label) ∷ rest_by o t.label t.targets
unfolding fields_of
fields_with t o e = ap (λ (l : Option KindLayout).
    Named t.label.name ∷ Number (info_of t.label) ∷ rest_by l t.label t.targets) e

pub names_sized : (parts : PartLayout) (w : ℕ → ℕ) (limit v : ℕ)
    → first_past limit (names_by (Some (Sized parts)) w v) ≡ None
    → (w 0 < limit) × (first_past limit (part_names parts w 3 v) ≡ None)
names_sized Member w limit v h = past_split limit (w 0) (words_at w 3 3 v) h
names_sized Enumerator w limit v h = past_split limit (w 0) (words_at w 3 2 v) h
names_sized WideEnumerator w limit v h = past_split limit (w 0) (words_at w 3 3 v) h
names_sized Parameter w limit v h = past_split limit (w 0) (words_at w 3 2 v) h
names_sized Variable w limit v h = past_split limit (w 0) [] h

pub ids_sized : (parts : PartLayout) (w : ℕ → ℕ) (v : ℕ) → (parts ≡ Parameter → ⊥)
    → ids_by (Some (Sized parts)) w v ≡ part_ids parts w 3 v
ids_sized Member w v used = refl
ids_sized Enumerator w v used = refl
ids_sized WideEnumerator w v used = refl
ids_sized Parameter w v used = absurd (used refl)
ids_sized Variable w v used = refl

module _ (s : List ℕ) (w : ℕ → ℕ) (small : (i : ℕ) → w i < 2 ^ 32) (texts : (x : ℕ) → x < length s
    → text_of s x ≡ Some (name_at s x)) where
  low_there : (i : ℕ) → w i ≡ low_of (w i)
  low_there i = omega (arith, small i)

  low_whole : (i j : ℕ) → w i ≡ low_of (w i + 2 ^ 32 * w j)
  low_whole i j = omega (arith, small i)

  high_whole : (i j : ℕ) → w j ≡ high_of (w i + 2 ^ 32 * w j)
  high_whole i j = omega (arith, small i)

  parts_stand : (layout : PartLayout) (at n : ℕ)
      → first_past (length s) (part_names layout w at n) ≡ None → AllZip (StandsFor s)
      (parts_fields layout (map (decoded_part layout s w) (places at (part_width layout) n))
      (map ref_of (part_ids layout w at n))) (words_at w at 1 (part_width layout * n))
  unfolding places parts_fields
  parts_stand Member at zero h = tt
  parts_stand Member at (suc n) h =
      let q = past_split (length s) (w at) (words_at w (at + 3) 3 n) h in
      let e : at + 3 + 1 ≡ at + 1 + 3 = omega arith in
      let ih = subst (λ (m : ℕ). AllZip (StandsFor s) (parts_fields Member
      (map (decoded_part Member s w) (places (at + 3) 3 n)) (map ref_of (words_at w m 3 n)))
      (words_at w (at + 3) 1 (3 * n))) e (parts_stand Member (at + 3) n q.1) in
      subst (λ (ws : List ℕ). AllZip (StandsFor s)
      (parts_fields Member (map (decoded_part Member s w)
      (places at 3 (suc n))) (map ref_of (words_at w (at + 1) 3 (suc n)))) ws)
      (sym (words_three w at n))
      (texts (w at) q.0, (ref_stands (w (at + 1)), (low_there (at + 2), ih)))
  parts_stand Enumerator at zero h = tt
  parts_stand Enumerator at (suc n) h =
      let q = past_split (length s) (w at) (words_at w (at + 2) 2 n) h in
      subst (λ (ws : List ℕ). AllZip (StandsFor s) (parts_fields Enumerator
      (map (decoded_part Enumerator s w) (places at 2 (suc n))) []) ws) (sym (words_two w at n))
      (texts (w at) q.0, (low_there (at + 1), parts_stand Enumerator (at + 2) n q.1))
  parts_stand WideEnumerator at zero h = tt
  parts_stand WideEnumerator at (suc n) h =
      let q = past_split (length s) (w at) (words_at w (at + 3) 3 n) h in
      subst (λ (ws : List ℕ). AllZip (StandsFor s) (parts_fields WideEnumerator (map
      (decoded_part WideEnumerator s w) (places at 3 (suc n))) []) ws) (sym (words_three w at n)) (
        texts (w at) q.0,
        (
          low_whole (at + 1) (at + 2),
          (high_whole (at + 1) (at + 2), parts_stand WideEnumerator (at + 3) n q.1),
        ),
      )
  parts_stand Parameter at zero h = tt
  parts_stand Parameter at (suc n) h =
      let q = past_split (length s) (w at) (words_at w (at + 2) 2 n) h in
      let e : at + 2 + 1 ≡ at + 1 + 2 = omega arith in
      let ih = subst (λ (m : ℕ). AllZip (StandsFor s) (parts_fields Parameter
      (map (decoded_part Parameter s w) (places (at + 2) 2 n)) (map ref_of (words_at w m 2 n)))
      (words_at w (at + 2) 1 (2 * n))) e (parts_stand Parameter (at + 2) n q.1) in
      subst (λ (ws : List ℕ). AllZip (StandsFor s)
      (parts_fields Parameter (map (decoded_part Parameter s w) (places at 2 (suc n)))
      (map ref_of (words_at w (at + 1) 2 (suc n)))) ws) (sym (words_two w at n))
      (texts (w at) q.0, (ref_stands (w (at + 1)), ih))
  parts_stand Variable at zero h = tt
  parts_stand Variable at (suc n) h =
      subst (λ (ws : List ℕ). AllZip (StandsFor s)
      (parts_fields Variable (map (decoded_part Variable s w) (places at 3 (suc n)))
      (map ref_of (words_at w at 3 (suc n)))) ws) (sym (words_three w at n)) (
        ref_stands (w at),
        (
          low_whole (at + 1) (at + 2),
          (high_whole (at + 1) (at + 2), parts_stand Variable (at + 3) n refl),
        ),
      )

  -- the parts are as their row says
  part_fits : (layout : PartLayout) (at : ℕ) → FitsPart (part_row layout)
      (decoded_part layout s w at)
  part_fits Member at = record {
    unnamed = λ (e : true ≡ false). cc;
    name = name_clean s (w at);
    value = small (at + 2);
  }
  part_fits Enumerator at = record {
    unnamed = λ (e : true ≡ false). cc;
    name = name_clean s (w at);
    value = small (at + 1);
  }
  part_fits WideEnumerator at = record {
    unnamed = λ (e : true ≡ false). cc;
    name = name_clean s (w at);
    value = omega (arith, small (at + 1), small (at + 2));
  }
  part_fits Parameter at =
      record { unnamed = λ (e : true ≡ false). cc; name = name_clean s (w at); value = omega arith }
  part_fits Variable at =
      record {
        unnamed = λ (e : false ≡ false). refl;
        name = λ (k d : ℕ) (lt : k < 0).
            absurd (omega arith);
        value = omega (arith, small (at + 1), small (at + 2));
      }

  parts_fit : (layout : PartLayout) (xs : List ℕ)
      → All (FitsPart (part_row layout)) (map (decoded_part layout s w) xs)
  parts_fit layout xs k d lt =
      let l : k < length xs = omega (arith, lt, length-map xs (decoded_part layout s w)) in
      subst (λ (p : Part). FitsPart (part_row layout) p)
      (sym (get_or-map (decoded_part layout s w) xs k 0 d l)) (part_fits layout (get_or xs k 0))

  count_parts : (layout : PartLayout) (at n : ℕ)
      → length (map (decoded_part layout s w) (places at (part_width layout) n)) ≡ n
  count_parts layout at n = length-map (places at (part_width layout) n) (decoded_part layout s w)
      ∙ length_places at (part_width layout) n

  count_refs : (at width n : ℕ) → length (map ref_of (words_at w at width n)) ≡ n
  count_refs at width n = length-map (words_at w at width n) ref_of
      ∙ length-map (places at width n) w ∙ length_places at width n

  count_ids : (layout : PartLayout) (n : ℕ) → (layout ≡ Parameter → ⊥)
      → length (map ref_of (ids_by (Some (Sized layout)) w n)) ≡ (if refers layout then n else 0)
  count_ids Member n used = count_refs 4 3 n
  count_ids Enumerator n used = refl
  count_ids WideEnumerator n used = refl
  count_ids Parameter n used = absurd (used refl)
  count_ids Variable n used = count_refs 3 3 n

  info_there : (layout : KindLayout) → layout_of (kind_in (w 1)) ≡ Some layout
      → Info layout (w 1) (w 2)
      → vlen_of (type_by (Some layout) s w).label ≡ vlen_in (w 1)
  info_there Int laid i = vlen_none (type_by (Some Int) s w).label (vlen_in (w 1))
      ((shape_there (kind_in (w 1)) Int laid).plain refl) (sym (eqb-true (vlen_in (w 1)) 0 i.vlen))
  info_there Link laid i = linked_by (kind_in (w 1) == 12) (vlen_in (w 1)) i.vlen
  info_there Array laid i = vlen_none (type_by (Some Array) s w).label (vlen_in (w 1)) ((shape_there
      (kind_in (w 1)) Array laid).plain refl) (sym (eqb-true (vlen_in (w 1)) 0 i.vlen))
  info_there Forward laid i = vlen_none (type_by (Some Forward) s w).label (vlen_in (w 1))
      ((shape_there (kind_in (w 1)) Forward laid).plain refl)
      (sym (eqb-true (vlen_in (w 1)) 0 i.vlen))
  info_there TaggedLink laid i = vlen_none (type_by (Some TaggedLink) s w).label (vlen_in (w 1))
      ((shape_there (kind_in (w 1)) TaggedLink laid).plain refl)
      (sym (eqb-true (vlen_in (w 1)) 0 i.vlen))
  info_there Float laid i = vlen_none (type_by (Some Float) s w).label (vlen_in (w 1)) ((shape_there
      (kind_in (w 1)) Float laid).plain refl) (sym (eqb-true (vlen_in (w 1)) 0 i.vlen))
  info_there (Sized p) laid i = vlen_none (type_by (Some (Sized p)) s w).label (vlen_in (w 1))
      ((shape_there (kind_in (w 1)) (Sized p) laid).plain refl) (count_parts p 3 (vlen_in (w 1)))
  info_there Prototype laid i = vlen_none (type_by (Some Prototype) s w).label (vlen_in (w 1))
      ((shape_there (kind_in (w 1)) Prototype laid).plain refl)
      (count_parts Parameter 3 (vlen_in (w 1)))

  used : (p : PartLayout) → layout_of (kind_in (w 1)) ≡ Some (Sized p) → p ≡ Parameter → ⊥
  used p laid e = never_sized (kind_in (w 1))
      (laid ∙ ap (λ (q : PartLayout). let o : Option KindLayout = Some (Sized q) in o) e)

  third_zero : (third : ℕ) → (third == 0) ≡ true → third ≡ 0
  third_zero third h = eqb-true third 0 h

  rest_stand : (layout : KindLayout) → layout_of (kind_in (w 1)) ≡ Some layout
      → Info layout (w 1) (w 2)
      → first_past (length s) (names_by (Some layout) w (vlen_in (w 1))) ≡ None
      → w 1 ≡ info_of (type_by (Some layout) s w).label
      → AllZip (StandsFor s) (Named (name_at s (w 0)) ∷ Number (info_of
      (type_by (Some layout) s w).label) ∷ rest_fields layout (type_by (Some layout) s w).label
      (type_by (Some layout) s w).targets) (words_at w 0 1 (type_width layout (vlen_in (w 1))))
  unfolding places
  rest_stand Int laid i h e =
      (texts (w 0) (past_split (length s) (w 0) [] h).0, (e, (refl, (refl, tt))))
  rest_stand Link laid i h e =
      (texts (w 0) (past_split (length s) (w 0) [] h).0, (e, (ref_stands (w 2), tt)))
  rest_stand Array laid i h e = (
    texts (w 0) (past_split (length s) (w 0) [] h).0,
    (e, (third_zero (w 2) i.third, (ref_stands (w 3), (ref_stands (w 4), (refl, tt))))),
  )
  rest_stand Forward laid i h e =
      (texts (w 0) (past_split (length s) (w 0) [] h).0, (e, (third_zero (w 2) i.third, tt)))
  rest_stand TaggedLink laid i h e =
      (texts (w 0) (past_split (length s) (w 0) [] h).0, (e, (ref_stands (w 2), (refl, tt))))
  rest_stand Float laid i h e = (texts (w 0) (past_split (length s) (w 0) [] h).0, (e, (refl, tt)))
  rest_stand (Sized p) laid i h e =
      let n = names_sized p w (length s) (vlen_in (w 1)) h in
      let t : CType = type_by (Some (Sized p)) s w in
      let m : suc (suc (suc (part_width p * vlen_in (w 1)))) ≡ 3 + part_width p * vlen_in (w 1) =
      omega arith in
      let ps : AllZip (StandsFor s) (parts_fields p (decoded_parts p s w (vlen_in (w 1)))
      (map ref_of (ids_by (Some (Sized p)) w (vlen_in (w 1)))))
      (words_at w 3 1 (part_width p * vlen_in (w 1))) =
      subst (λ (xs : List ℕ). AllZip (StandsFor s) (parts_fields p (decoded_parts p s w
      (vlen_in (w 1))) (map ref_of xs)) (words_at w 3 1 (part_width p * vlen_in (w 1)))) (sym
      (ids_sized p w (vlen_in (w 1)) (used p laid))) (parts_stand p 3 (vlen_in (w 1)) n.1) in
      subst (λ (k : ℕ). AllZip (StandsFor s) (Named (name_at s (w 0)) ∷ Number (info_of t.label)
      ∷ rest_fields (Sized p) t.label t.targets) (words_at w 0 1 k)) m
      (texts (w 0) n.0, (e, (refl, ps)))
  rest_stand Prototype laid i h e =
      let n = past_split (length s) (w 0) (words_at w 3 2 (vlen_in (w 1))) h in
      let t : CType = type_by (Some Prototype) s w in
      let m : suc (suc (suc (2 * vlen_in (w 1)))) ≡ 3 + 2 * vlen_in (w 1) = omega arith in
      subst (λ (k : ℕ). AllZip (StandsFor s) (Named (name_at s (w 0)) ∷ Number (info_of t.label)
      ∷ rest_fields Prototype t.label t.targets) (words_at w 0 1 k)) m
      (texts (w 0) n.0, (e, (ref_stands (w 2), parts_stand Parameter 3 (vlen_in (w 1)) n.1)))

  word_of_info : (layout : KindLayout) → layout_of (kind_in (w 1)) ≡ Some layout
      → Info layout (w 1) (w 2) → w 1 ≡ info_of (type_by (Some layout) s w).label
  word_of_info layout laid i =
      info_word (type_by (Some layout) s w).label (w 1) i.clean (info_there layout laid i) refl refl

  pub type_stands : (layout : KindLayout) → layout_of (kind_in (w 1)) ≡ Some layout → is_info layout
      (w 1) (w 2) ≡ true → first_past (length s) (names_by (Some layout) w (vlen_in (w 1))) ≡ None
      → AllZip (StandsFor s) (fields_of (type_by (Some layout) s w))
      (words_at w 0 1 (type_width layout (vlen_in (w 1))))
  type_stands layout laid h n =
      let i = info_split layout (w 1) (w 2) h in
      subst (λ (fs : List Field). AllZip (StandsFor s) fs (words_at w 0 1 (type_width layout
      (vlen_in (w 1))))) (sym (fields_with (type_by (Some layout) s w) (Some layout) laid))
      (rest_stand layout laid i n (word_of_info layout laid i))

  few_parts : (n : ℕ) → n ≡ vlen_in (w 1) → n ≤ 65535
  few_parts n e = omega (arith, e)

  count_sized : (p : PartLayout) → (p ≡ Parameter → ⊥)
      → length (map ref_of (ids_by (Some (Sized p)) w (vlen_in (w 1))))
      ≡ (if refers p then length (decoded_parts p s w (vlen_in (w 1))) else 0)
  count_sized p ne = count_ids p (vlen_in (w 1)) ne
      ∙ ap (λ (n : ℕ). if refers p then n else 0) (sym (count_parts p 3 (vlen_in (w 1))))

  count_prototype : length (map ref_of (ids_by (Some Prototype) w (vlen_in (w 1))))
      ≡ 1 + length (decoded_parts Parameter s w (vlen_in (w 1)))
  count_prototype = let a = count_refs 4 2 (vlen_in (w 1)) in let b =
      count_parts Parameter 3 (vlen_in (w 1)) in omega (arith, a, b)

  flags_fit : (layout : KindLayout) → Info layout (w 1) (w 2) → IsTrue (flag_in (w 1))
      → IsTrue (may_flag (kind_in (w 1)))
  flags_fit layout i f = flag_ok (flag_in (w 1)) (may_flag (kind_in (w 1))) i.flags f

  formed : (layout : KindLayout) → layout_of (kind_in (w 1)) ≡ Some layout → Info layout (w 1) (w 2)
      → IsWellFormed (type_by (Some layout) s w)
  formed Int laid i = record {
    row = row_by Int (kind_in (w 1));
    of_kind = row_known (kind_in (w 1)) Int laid;
    name = name_clean s (w 0);
    flag = flags_fit Int i;
    size = small 2;
    extra = small 3;
    targets = refl;
    few = omega arith;
    parts = refl;
  }
  formed Link laid i = record {
    row = row_by Link (kind_in (w 1));
    of_kind = row_known (kind_in (w 1)) Link laid;
    name = name_clean s (w 0);
    flag = flags_fit Link i;
    size = omega arith;
    extra = linked_extra (kind_in (w 1) == 12) (vlen_in (w 1)) i.vlen;
    targets = refl;
    few = omega arith;
    parts = refl;
  }
  formed Array laid i = record {
    row = row_by Array (kind_in (w 1));
    of_kind = row_known (kind_in (w 1)) Array laid;
    name = name_clean s (w 0);
    flag = flags_fit Array i;
    size = omega arith;
    extra = small 5;
    targets = refl;
    few = omega arith;
    parts = refl;
  }
  formed Forward laid i = record {
    row = row_by Forward (kind_in (w 1));
    of_kind = row_known (kind_in (w 1)) Forward laid;
    name = name_clean s (w 0);
    flag = flags_fit Forward i;
    size = omega arith;
    extra = omega arith;
    targets = refl;
    few = omega arith;
    parts = refl;
  }
  formed TaggedLink laid i = record {
    row = row_by TaggedLink (kind_in (w 1));
    of_kind = row_known (kind_in (w 1)) TaggedLink laid;
    name = name_clean s (w 0);
    flag = flags_fit TaggedLink i;
    size = omega arith;
    extra = small 3;
    targets = refl;
    few = omega arith;
    parts = refl;
  }
  formed Float laid i = record {
    row = row_by Float (kind_in (w 1));
    of_kind = row_known (kind_in (w 1)) Float laid;
    name = name_clean s (w 0);
    flag = flags_fit Float i;
    size = small 2;
    extra = omega arith;
    targets = refl;
    few = omega arith;
    parts = refl;
  }
  formed (Sized p) laid i = record {
    row = row_by (Sized p) (kind_in (w 1));
    of_kind = row_known (kind_in (w 1)) (Sized p) laid;
    name = name_clean s (w 0);
    flag = flags_fit (Sized p) i;
    size = small 2;
    extra = omega arith;
    targets = omega (arith, count_sized p (used p laid));
    few = few_parts (length (decoded_parts p s w (vlen_in (w 1))))
        (count_parts p 3 (vlen_in (w 1)));
    parts = parts_fit p (places 3 (part_width p) (vlen_in (w 1)));
  }
  formed Prototype laid i = record {
    row = row_by Prototype (kind_in (w 1));
    of_kind = row_known (kind_in (w 1)) Prototype laid;
    name = name_clean s (w 0);
    flag = flags_fit Prototype i;
    size = omega arith;
    extra = omega arith;
    targets = count_prototype;
    few = few_parts (length (decoded_parts Parameter s w (vlen_in (w 1))))
        (count_parts Parameter 3 (vlen_in (w 1)));
    parts = parts_fit Parameter (places 3 2 (vlen_in (w 1)));
  }

  pub type_formed : (layout : KindLayout) → layout_of (kind_in (w 1)) ≡ Some layout
      → is_info layout (w 1) (w 2) ≡ true → IsWellFormed (type_by (Some layout) s w)
  type_formed layout laid h = formed layout laid (info_split layout (w 1) (w 2) h)
