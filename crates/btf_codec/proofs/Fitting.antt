-- The words of a well-formed type pass the checks.
use Rattle.std.proofs.Common.{◌≡◌, ℕ, zero, suc, ◌+◌, ◌*◌, ◌<◌, ◌≤◌, ◌^◌, ◌==◌, ◌&&◌, ◌||◌, not}
use Rattle.std.proofs.Common.{nat_lt, Bool, true, false, List, [], ◌∷◌, length, drop, All, IsTrue}
use Rattle.std.proofs.Common.{Option, None, Some, Ok, Err, if◌then◌else◌, refl, sym, ap, subst, ◌∙◌}
use Rattle.std.proofs.Common.{arith}
use Rattle.std.specs.List.{AllZip}
use Rattle.std.proofs.lemmas.Bool.{eq-eqb, le-leb, le-ltb, lt-leb, lt-ltb}
use Rattle.c_model.specs.Graph.{IsBelow}
use Rattle.c_model.specs.Kinds.{FitsParts, IsWellFormed, Row}
use Rattle.c_model.specs.declared.label.Part.{Part}
use Rattle.c_model.specs.declared.graph.CType.{CType}
use Rattle.c_model.specs.declared.graph.Ref.{Ref}
use Rattle.c_model.specs.declared.graph.Ref.TheVariants.{Void}
use Rattle.c_model.specs.declared.kinds.TheConstants.{BTF_KIND_FUNC}
use Rattle.btf_codec.specs.Fields.{Field, Named, Number, bit_of, fields_of, id_of, info_of}
use Rattle.btf_codec.specs.Fields.{layout_of, parts_fields, rest_fields, target_at, vlen_of}
use Rattle.btf_codec.specs.Reading.{part_ids, part_names}
use Rattle.btf_codec.specs.Reading.{checked_width, first_past, flag_in, head_of, ids_by, is_clean}
use Rattle.btf_codec.specs.Reading.{is_info, is_third, is_vlen, kind_in, may_flag, names_by}
use Rattle.btf_codec.specs.Reading.{part_width, places, type_width, vlen_in, words_at}
use Rattle.btf_codec.specs.Spells.{StandsFor}
use Rattle.btf_codec.specs.declared.fault.BtfFault.TheVariants.{BtfTruncated, BtfInfo}
use Rattle.btf_codec.specs.declared.layout.KindLayout.{KindLayout}
use Rattle.btf_codec.specs.declared.layout.KindLayout.TheVariants.{Int, Link, Array, Forward}
use Rattle.btf_codec.specs.declared.layout.KindLayout.TheVariants.{TaggedLink, Float, Sized}
use Rattle.btf_codec.specs.declared.layout.KindLayout.TheVariants.{Prototype}
use Rattle.btf_codec.specs.declared.layout.PartLayout.{PartLayout}
use Rattle.btf_codec.specs.declared.layout.PartLayout.TheVariants.{Member, Enumerator}
use Rattle.btf_codec.specs.declared.layout.PartLayout.TheVariants.{WideEnumerator, Parameter}
use Rattle.btf_codec.specs.declared.layout.PartLayout.TheVariants.{Variable}
use Rattle.btf_codec.proofs.Below.{id_below, offset_below, past_join}
use Rattle.btf_codec.proofs.KindTable.{kind_known, vlen_few}
use Rattle.btf_codec.proofs.Rows.{never_sized, row_by, well_laid}
use Rattle.btf_codec.proofs.DecodedTypes.{fields_with, ids_sized, shape_there}
use Rattle.btf_codec.proofs.DecodedTypes.{vlen_none}
use Rattle.btf_codec.proofs.Splitting.{width_some}

pub all_true : (a b : Bool) → a ≡ true → b ≡ true → (a && b) ≡ true
all_true a b e f = λ i. e i && f i

-- the parts of an info word
kind_there : (v k y : ℕ) (f : Bool) → v ≤ 65535 → k < 20 → y ≡ v + 2 ^ 24 * k + 2 ^ 31 * bit_of f
    → kind_in y ≡ k
kind_there v k y true few known e = omega (arith, e)
kind_there v k y false few known e = omega (arith, e)

flag_there : (v k y : ℕ) (f : Bool) → v ≤ 65535 → k < 20 → y ≡ v + 2 ^ 24 * k + 2 ^ 31 * bit_of f
    → flag_in y ≡ f
flag_there v k y true few known e = le-leb (2 ^ 31) y (omega (arith, e))
flag_there v k y false few known e = lt-leb (2 ^ 31) y (omega (arith, e))

vlen_there : (v k y : ℕ) (f : Bool) → v ≤ 65535 → k < 20 → y ≡ v + 2 ^ 24 * k + 2 ^ 31 * bit_of f
    → vlen_in y ≡ v
vlen_there v k y true few known e = omega (arith, e)
vlen_there v k y false few known e = omega (arith, e)

flags_hold : (f m : Bool) → (IsTrue f → IsTrue m) → (not f || m) ≡ true
flags_hold true m h = h refl
flags_hold false m h = refl

flag_row : (layout : KindLayout) (k : ℕ) → (row_by layout k).flag ≡ may_flag k
flag_row Int k = refl
flag_row Link k = refl
flag_row Array k = refl
flag_row Forward k = refl
flag_row TaggedLink k = refl
flag_row Float k = refl
flag_row (Sized p) k = refl
flag_row Prototype k = refl

linked_vlen : (b : Bool) (extra n : ℕ) → extra < (if b then 3 else 1) → n ≡ 0
    → (if b then nat_lt (if b then extra else n) 3 else (if b then extra else n) == 0) ≡ true
linked_vlen true extra n lt e = lt-ltb extra 3 lt
linked_vlen false extra n lt e = eq-eqb n 0 e

pub target_below : (count : ℕ) (rs : List Ref) (i : ℕ) → All (IsBelow count) rs
    → IsBelow count (target_at rs i)
target_below count [] i h = tt
target_below count (r ∷ rs) zero h = h 0 Void (omega arith)
target_below count (r ∷ rs) (suc i) h =
    target_below count rs i (λ (k : ℕ) (d : Ref) (lt : k < length rs). h (suc k) d (omega arith))

pub dropped_below : (count : ℕ) (rs : List Ref) → All (IsBelow count) rs
    → All (IsBelow count) (drop 1 rs)
dropped_below count [] h = h
dropped_below count (r ∷ rs) h = λ (k : ℕ) (d : Ref) (lt : k < length rs). h (suc k) d (omega arith)

module _ (s : List ℕ) (w : ℕ → ℕ) (count : ℕ) where
  word_below : (x : ℕ) (rs : List Ref) (i : ℕ) → All (IsBelow count) rs → x ≡ id_of (target_at rs i)
      → x < count + 1
  word_below x rs i h e = let l = id_below count (target_at rs i) (target_below count rs i h) in
      omega (arith, l, e)

  record PartsRead (p : PartLayout) (at m n : ℕ) : Type 0 where
    pub width : m ≡ part_width p * n
    pub names : first_past (length s) (part_names p w at n) ≡ None
    pub ids : first_past (count + 1) (part_ids p w at n) ≡ None

  parts_read : (p : PartLayout) (ps : List Part) (rs : List Ref) (at m : ℕ) → All (IsBelow count) rs
      → AllZip (StandsFor s) (parts_fields p ps rs) (words_at w at 1 m)
      → PartsRead p at m (length ps)
  unfolding places parts_fields
  parts_read Member [] rs at zero b h = record { width = refl; names = refl; ids = refl }
  parts_read Member [] rs at (suc m) b h = absurd h
  parts_read Member (p ∷ ps) rs at zero b h = absurd h
  parts_read Member (p ∷ ps) rs at (suc zero) b h = absurd h.1
  parts_read Member (p ∷ ps) rs at (suc (suc zero)) b h = absurd h.1.1
  parts_read Member (p ∷ ps) rs at (suc (suc (suc m))) b h =
      let e : at + 1 + 1 + 1 ≡ at + 3 = omega arith in
      let f : at + 3 + 1 ≡ at + 1 + 3 = omega arith in
      let g : AllZip (StandsFor s) (parts_fields Member ps (drop 1 rs)) (words_at w (at + 3) 1 m) =
      subst (λ (a : ℕ).
      AllZip (StandsFor s) (parts_fields Member ps (drop 1 rs)) (words_at w a 1 m)) e h.1.1.1 in
      let ih = parts_read Member ps (drop 1 rs) (at + 3) m (dropped_below count rs b) g in
      record {
        width = omega (arith, ih.width);
        names = past_join (length s) (w at) (words_at w (at + 3) 3 (length ps))
            (offset_below s (w at) p.name h.0) ih.names;
        ids = past_join (count + 1) (w (at + 1)) (words_at w (at + 1 + 3) 3 (length ps))
            (word_below (w (at + 1)) rs 0 b h.1.0) (subst
            (λ (a : ℕ). first_past (count + 1) (words_at w a 3 (length ps)) ≡ None) f ih.ids);
      }
  parts_read Enumerator [] rs at zero b h = record { width = refl; names = refl; ids = refl }
  parts_read Enumerator [] rs at (suc m) b h = absurd h
  parts_read Enumerator (p ∷ ps) rs at zero b h = absurd h
  parts_read Enumerator (p ∷ ps) rs at (suc zero) b h = absurd h.1
  parts_read Enumerator (p ∷ ps) rs at (suc (suc m)) b h =
      let e : at + 1 + 1 ≡ at + 2 = omega arith in
      let g : AllZip (StandsFor s) (parts_fields Enumerator ps (drop 1 rs))
      (words_at w (at + 2) 1 m) = subst (λ (a : ℕ). AllZip (StandsFor s)
      (parts_fields Enumerator ps (drop 1 rs)) (words_at w a 1 m)) e h.1.1 in
      let ih = parts_read Enumerator ps (drop 1 rs) (at + 2) m (dropped_below count rs b) g in
      record {
        width = omega (arith, ih.width);
        names = past_join (length s) (w at) (words_at w (at + 2) 2 (length ps))
            (offset_below s (w at) p.name h.0) ih.names;
        ids = refl;
      }
  parts_read WideEnumerator [] rs at zero b h = record { width = refl; names = refl; ids = refl }
  parts_read WideEnumerator [] rs at (suc m) b h = absurd h
  parts_read WideEnumerator (p ∷ ps) rs at zero b h = absurd h
  parts_read WideEnumerator (p ∷ ps) rs at (suc zero) b h = absurd h.1
  parts_read WideEnumerator (p ∷ ps) rs at (suc (suc zero)) b h = absurd h.1.1
  parts_read WideEnumerator (p ∷ ps) rs at (suc (suc (suc m))) b h =
      let e : at + 1 + 1 + 1 ≡ at + 3 = omega arith in
      let g : AllZip (StandsFor s) (parts_fields WideEnumerator ps (drop 1 rs))
      (words_at w (at + 3) 1 m) = subst (λ (a : ℕ). AllZip (StandsFor s)
      (parts_fields WideEnumerator ps (drop 1 rs)) (words_at w a 1 m)) e h.1.1.1 in
      let ih = parts_read WideEnumerator ps (drop 1 rs) (at + 3) m (dropped_below count rs b) g in
      record {
        width = omega (arith, ih.width);
        names = past_join (length s) (w at) (words_at w (at + 3) 3 (length ps))
            (offset_below s (w at) p.name h.0) ih.names;
        ids = refl;
      }
  parts_read Parameter [] rs at zero b h = record { width = refl; names = refl; ids = refl }
  parts_read Parameter [] rs at (suc m) b h = absurd h
  parts_read Parameter (p ∷ ps) rs at zero b h = absurd h
  parts_read Parameter (p ∷ ps) rs at (suc zero) b h = absurd h.1
  parts_read Parameter (p ∷ ps) rs at (suc (suc m)) b h =
      let e : at + 1 + 1 ≡ at + 2 = omega arith in
      let f : at + 2 + 1 ≡ at + 1 + 2 = omega arith in
      let g : AllZip (StandsFor s) (parts_fields Parameter ps (drop 1 rs))
      (words_at w (at + 2) 1 m) = subst (λ (a : ℕ). AllZip (StandsFor s)
      (parts_fields Parameter ps (drop 1 rs)) (words_at w a 1 m)) e h.1.1 in
      let ih = parts_read Parameter ps (drop 1 rs) (at + 2) m (dropped_below count rs b) g in
      record {
        width = omega (arith, ih.width);
        names = past_join (length s) (w at) (words_at w (at + 2) 2 (length ps))
            (offset_below s (w at) p.name h.0) ih.names;
        ids = past_join (count + 1) (w (at + 1)) (words_at w (at + 1 + 2) 2 (length ps))
            (word_below (w (at + 1)) rs 0 b h.1.0) (subst
            (λ (a : ℕ). first_past (count + 1) (words_at w a 2 (length ps)) ≡ None) f ih.ids);
      }
  parts_read Variable [] rs at zero b h = record { width = refl; names = refl; ids = refl }
  parts_read Variable [] rs at (suc m) b h = absurd h
  parts_read Variable (p ∷ ps) rs at zero b h = absurd h
  parts_read Variable (p ∷ ps) rs at (suc zero) b h = absurd h.1
  parts_read Variable (p ∷ ps) rs at (suc (suc zero)) b h = absurd h.1.1
  parts_read Variable (p ∷ ps) rs at (suc (suc (suc m))) b h =
      let e : at + 1 + 1 + 1 ≡ at + 3 = omega arith in
      let g : AllZip (StandsFor s) (parts_fields Variable ps (drop 1 rs))
      (words_at w (at + 3) 1 m) = subst (λ (a : ℕ). AllZip (StandsFor s)
      (parts_fields Variable ps (drop 1 rs)) (words_at w a 1 m)) e h.1.1.1 in
      let ih = parts_read Variable ps (drop 1 rs) (at + 3) m (dropped_below count rs b) g in
      record {
        width = omega (arith, ih.width);
        names = refl;
        ids = past_join (count + 1) (w at) (words_at w (at + 3) 3 (length ps))
            (word_below (w at) rs 0 b h.0) ih.ids;
      }

  -- what follows the name and the info word
  record RestRead (layout : KindLayout) (k v m : ℕ) : Type 0 where
    pub vlen : is_vlen layout k v ≡ true
    pub third : is_third layout (w 2) ≡ true
    pub width : type_width layout v ≡ suc (suc m)
    pub names : first_past (length s) (names_by (Some layout) w v) ≡ None
    pub ids : first_past (count + 1) (ids_by (Some layout) w v) ≡ None

  -- a type in the words from the first on
  record Lies (layout : KindLayout) (t : CType) : Type 0 where
    pub laid : layout_of t.label.kind ≡ Some layout
    pub parts : FitsParts (row_by layout t.label.kind).parts t.label.parts
    pub extra : t.label.extra < (row_by layout t.label.kind).extra
    pub below : All (IsBelow count) t.targets
    pub name : w 0 < length s

  one_name : (x : ℕ) → x < length s → first_past (length s) (x ∷ []) ≡ None
  one_name x lt = past_join (length s) x [] lt refl

  one_id : (x : ℕ) (rs : List Ref) (i : ℕ) → All (IsBelow count) rs → x ≡ id_of (target_at rs i)
      → first_past (count + 1) (x ∷ []) ≡ None
  one_id x rs i b e = past_join (count + 1) x [] (word_below x rs i b e) refl

  no_vlen : (layout : KindLayout) (t : CType) → layout_of t.label.kind ≡ Some layout
      → (t.label.kind == BTF_KIND_FUNC) ≡ false → length t.label.parts ≡ 0
      → (vlen_of t.label == 0) ≡ true
  no_vlen layout t laid plain none = eq-eqb (vlen_of t.label) 0 (vlen_none t.label 0 plain none)

  names_join : (p : PartLayout) (n : ℕ) → w 0 < length s → first_past (length s)
      (part_names p w 3 n) ≡ None → first_past (length s) (names_by (Some (Sized p)) w n) ≡ None
  names_join Member n lt h = past_join (length s) (w 0) (words_at w 3 3 n) lt h
  names_join Enumerator n lt h = past_join (length s) (w 0) (words_at w 3 2 n) lt h
  names_join WideEnumerator n lt h = past_join (length s) (w 0) (words_at w 3 3 n) lt h
  names_join Parameter n lt h = past_join (length s) (w 0) (words_at w 3 2 n) lt h
  names_join Variable n lt h = one_name (w 0) lt

  sized_read : (p : PartLayout) (t : CType) (m n : ℕ) → Lies (Sized p) t → n ≡ vlen_of t.label
      → PartsRead p 3 m n → RestRead (Sized p) t.label.kind (vlen_of t.label) (suc m)
  sized_read p t m n lies e r =
      subst (λ (v : ℕ). RestRead (Sized p) t.label.kind v (suc m)) e
      (record {
        vlen = refl;
        third = refl;
        width = omega (arith, r.width);
        names = names_join p n lies.name r.names;
        ids = ap (λ (xs : List ℕ). first_past (count + 1) xs)
            (ids_sized p w n (λ (q : p ≡ Parameter). never_sized t.label.kind (lies.laid
            ∙ ap (λ (l : PartLayout). let o : Option KindLayout = Some (Sized l) in o) q))) ∙ r.ids;
      })

  prototype_read : (t : CType) (m n : ℕ) → Lies Prototype t → n ≡ vlen_of t.label
      → w 2 ≡ id_of (target_at t.targets 0) → PartsRead Parameter 3 m n
      → RestRead Prototype t.label.kind (vlen_of t.label) (suc m)
  prototype_read t m n lies e f r =
      subst (λ (v : ℕ). RestRead Prototype t.label.kind v (suc m)) e
      (record {
        vlen = refl;
        third = refl;
        width = omega (arith, r.width);
        names = past_join (length s) (w 0) (words_at w 3 2 n) lies.name r.names;
        ids = past_join (count + 1) (w 2) (words_at w 4 2 n)
            (word_below (w 2) t.targets 0 lies.below f) r.ids;
      })

  rest_read : (layout : KindLayout) (t : CType) (m : ℕ) → Lies layout t
      → AllZip (StandsFor s) (rest_fields layout t.label t.targets) (words_at w 2 1 m)
      → RestRead layout t.label.kind (vlen_of t.label) m
  unfolding places
  rest_read Int t zero lies h = absurd h
  rest_read Int t (suc zero) lies h = absurd h.1
  rest_read Int t (suc (suc zero)) lies h =
      record {
        vlen = no_vlen Int t lies.laid ((shape_there t.label.kind Int lies.laid).plain refl)
            lies.parts;
        third = refl;
        width = refl;
        names = one_name (w 0) lies.name;
        ids = refl;
      }
  rest_read Int t (suc (suc (suc m))) lies h = absurd h.1.1
  rest_read Link t zero lies h = absurd h
  rest_read Link t (suc zero) lies h =
      record {
        vlen = linked_vlen (t.label.kind == BTF_KIND_FUNC) t.label.extra
            (length t.label.parts) lies.extra lies.parts;
        third = refl;
        width = refl;
        names = one_name (w 0) lies.name;
        ids = one_id (w 2) t.targets 0 lies.below h.0;
      }
  rest_read Link t (suc (suc m)) lies h = absurd h.1
  rest_read Array t zero lies h = absurd h
  rest_read Array t (suc zero) lies h = absurd h.1
  rest_read Array t (suc (suc zero)) lies h = absurd h.1.1
  rest_read Array t (suc (suc (suc zero))) lies h = absurd h.1.1.1
  rest_read Array t (suc (suc (suc (suc zero)))) lies h =
      record {
        vlen = no_vlen Array t lies.laid
            ((shape_there t.label.kind Array lies.laid).plain refl) lies.parts;
        third = eq-eqb (w 2) 0 h.0;
        width = refl;
        names = one_name (w 0) lies.name;
        ids = past_join (count + 1) (w 3) (w 4 ∷ []) (word_below (w 3) t.targets 0 lies.below h.1.0)
            (one_id (w 4) t.targets 1 lies.below h.1.1.0);
      }
  rest_read Array t (suc (suc (suc (suc (suc m))))) lies h = absurd h.1.1.1.1
  rest_read Forward t zero lies h = absurd h
  rest_read Forward t (suc zero) lies h =
      record {
        vlen = no_vlen Forward t lies.laid
            ((shape_there t.label.kind Forward lies.laid).plain refl) lies.parts;
        third = eq-eqb (w 2) 0 h.0;
        width = refl;
        names = one_name (w 0) lies.name;
        ids = refl;
      }
  rest_read Forward t (suc (suc m)) lies h = absurd h.1
  rest_read TaggedLink t zero lies h = absurd h
  rest_read TaggedLink t (suc zero) lies h = absurd h.1
  rest_read TaggedLink t (suc (suc zero)) lies h =
      record {
        vlen = no_vlen TaggedLink t lies.laid ((shape_there t.label.kind TaggedLink
            lies.laid).plain refl) lies.parts;
        third = refl;
        width = refl;
        names = one_name (w 0) lies.name;
        ids = one_id (w 2) t.targets 0 lies.below h.0;
      }
  rest_read TaggedLink t (suc (suc (suc m))) lies h = absurd h.1.1
  rest_read Float t zero lies h = absurd h
  rest_read Float t (suc zero) lies h =
      record {
        vlen = no_vlen Float t lies.laid
            ((shape_there t.label.kind Float lies.laid).plain refl) lies.parts;
        third = refl;
        width = refl;
        names = one_name (w 0) lies.name;
        ids = refl;
      }
  rest_read Float t (suc (suc m)) lies h = absurd h.1
  rest_read (Sized p) t zero lies h = absurd h
  rest_read (Sized p) t (suc m) lies h =
      sized_read p t m (length t.label.parts) lies (sym (vlen_none t.label (length t.label.parts)
      ((shape_there t.label.kind (Sized p) lies.laid).plain refl) refl))
      (parts_read p t.label.parts t.targets 3 m lies.below h.1)
  rest_read Prototype t zero lies h = absurd h
  rest_read Prototype t (suc m) lies h =
      prototype_read t m (length t.label.parts) lies (sym (vlen_none t.label (length t.label.parts)
      ((shape_there t.label.kind Prototype lies.laid).plain refl) refl)) h.0
      (parts_read Parameter t.label.parts (drop 1 t.targets) 3 m
      (dropped_below count t.targets lies.below) h.1)

  -- the whole type passes its checks
  pub record TypeRead (n : ℕ) : Type 0 where
    pub layout : KindLayout
    pub laid : layout_of (kind_in (w 1)) ≡ Some layout
    pub info : is_info layout (w 1) (w 2) ≡ true
    pub width : type_width layout (vlen_in (w 1)) ≡ n
    pub names : first_past (length s) (names_by (Some layout) w (vlen_in (w 1))) ≡ None
    pub ids : first_past (count + 1) (ids_by (Some layout) w (vlen_in (w 1))) ≡ None

  read_by : (t : CType) (wf : IsWellFormed t) (layout : KindLayout) (m : ℕ) → Lies layout t
      → wf.row ≡ row_by layout t.label.kind → w 1 ≡ info_of t.label
      → RestRead layout t.label.kind (vlen_of t.label) m → TypeRead (suc (suc m))
  read_by t wf layout m lies row e r =
      let few = vlen_few t wf in
      let known = kind_known t wf in
      let ek : kind_in (w 1) ≡ t.label.kind =
      kind_there (vlen_of t.label) t.label.kind (w 1) t.label.flag few known e in
      let ef : flag_in (w 1) ≡ t.label.flag =
      flag_there (vlen_of t.label) t.label.kind (w 1) t.label.flag few known e in
      let ev : vlen_in (w 1) ≡ vlen_of t.label =
      vlen_there (vlen_of t.label) t.label.kind (w 1) t.label.flag few known e in
      let whole : w 1 ≡ vlen_in (w 1) + 2 ^ 24 * kind_in (w 1) + 2 ^ 31 * bit_of (flag_in (w 1)) =
      e ∙ (λ i. sym ev i + 2 ^ 24 * sym ek i + 2 ^ 31 * bit_of (sym ef i)) in
      let clean : is_clean (w 1) ≡ true = eq-eqb (w 1)
      (vlen_in (w 1) + 2 ^ 24 * kind_in (w 1) + 2 ^ 31 * bit_of (flag_in (w 1))) whole in
      let rf : wf.row.flag ≡ may_flag t.label.kind =
      ap (λ (q : Row). q.flag) row ∙ flag_row layout t.label.kind in
      let held : (not t.label.flag || may_flag t.label.kind) ≡ true = flags_hold t.label.flag
      (may_flag t.label.kind) (λ (f : IsTrue t.label.flag). sym rf ∙ wf.flag f) in
      let flags : (not (flag_in (w 1)) || may_flag (kind_in (w 1))) ≡ true =
      (λ i. not (ef i) || may_flag (ek i)) ∙ held in
      let vlen : is_vlen layout (kind_in (w 1)) (vlen_in (w 1)) ≡ true =
      (λ i. is_vlen layout (ek i) (ev i)) ∙ r.vlen in
      record {
        layout = layout;
        laid = ap (λ (k : ℕ). layout_of k) ek ∙ lies.laid;
        info =
            all_true (is_clean (w 1) && (not (flag_in (w 1)) || may_flag (kind_in (w 1)))
            && is_vlen layout (kind_in (w 1)) (vlen_in (w 1))) (is_third layout (w 2))
            (all_true (is_clean (w 1) && (not (flag_in (w 1)) || may_flag (kind_in (w 1))))
            (is_vlen layout (kind_in (w 1)) (vlen_in (w 1))) (all_true (is_clean (w 1))
            (not (flag_in (w 1)) || may_flag (kind_in (w 1))) clean flags) vlen) r.third;
        width = ap (λ (v : ℕ). type_width layout v) ev ∙ r.width;
        names = ap (λ (v : ℕ). first_past (length s) (names_by (Some layout) w v)) ev ∙ r.names;
        ids = ap (λ (v : ℕ). first_past (count + 1) (ids_by (Some layout) w v)) ev ∙ r.ids;
      }

  read_fields : (t : CType) (wf : IsWellFormed t) (layout : KindLayout) (n : ℕ)
      → layout_of t.label.kind
      ≡ Some layout → wf.row ≡ row_by layout t.label.kind → All (IsBelow count) t.targets
      → AllZip (StandsFor s) (Named t.label.name ∷ Number (info_of t.label)
      ∷ rest_fields layout t.label t.targets) (words_at w 0 1 n) → TypeRead n
  unfolding places
  read_fields t wf layout zero laid row below h = absurd h
  read_fields t wf layout (suc zero) laid row below h = absurd h.1
  read_fields t wf layout (suc (suc m)) laid row below h =
      let lies : Lies layout t = record {
        laid = laid;
        parts = subst (λ (r : Row). FitsParts r.parts t.label.parts) row wf.parts;
        extra = subst (λ (r : Row). t.label.extra < r.extra) row wf.extra;
        below = below;
        name = offset_below s (w 0) t.label.name h.0;
      } in
      read_by t wf layout m lies row h.1.0 (rest_read layout t m lies h.1.1)

  pub type_read : (t : CType) (wf : IsWellFormed t) (n : ℕ) → All (IsBelow count) t.targets
      → AllZip (StandsFor s) (fields_of t) (words_at w 0 1 n) → TypeRead n
  type_read t wf n below h =
      let l = well_laid t wf in
      read_fields t wf l.layout n l.laid l.row_is below (subst (λ (fs : List Field).
      AllZip (StandsFor s) fs (words_at w 0 1 n)) (fields_with t (Some l.layout) l.laid) h)

  pub head_read : (place id left n : ℕ) → TypeRead n → n ≤ left → head_of place id w left ≡ Ok n
  head_read place id left n r le =
      let some = width_some r.layout (vlen_in (w 1)) in
      let width = r.width in
      let a : nat_lt left 3 ≡ false = le-ltb left 3 (omega (arith, some, width)) in
      let b : nat_lt left (type_width r.layout (vlen_in (w 1))) ≡ false =
      le-ltb left (type_width r.layout (vlen_in (w 1))) (omega (arith, width)) in
      (λ i. if a i then Err (BtfTruncated place)
      else checked_width place id (w 1) (w 2) left (r.laid i))
      ∙ (λ i. if r.info i then (if b i then Err (BtfTruncated place) else Ok (width i))
      else Err (BtfInfo place id))
