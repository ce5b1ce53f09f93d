-- What words spell is one table alone: it can be read back from them.
use Rattle.std.proofs.Common.{nat_le, ◌≡◌, ℕ, zero, suc, ◌+◌, ◌*◌, ◌/◌, ◌%◌, ◌<◌, ◌≤◌, ◌^◌, ◌==◌}
use Rattle.std.proofs.Common.{Bool, true, false, List, [], ◌∷◌, ◌++◌, length, drop, get_or}
use Rattle.std.proofs.Common.{unwrap_or, All, Option, None, Some, if◌then◌else◌, refl, sym, ap}
use Rattle.std.proofs.Common.{subst, ◌∙◌, arith, append_assoc}
use Rattle.std.specs.List.{AllZip, flat_map}
use Rattle.std.proofs.lemmas.Bool.{le-leb, lt-leb}
use Rattle.std.proofs.lemmas.List.{length-drop, nil_from_length}
use Rattle.dw_base.specs.Texts.{text_of}
use Rattle.c_model.specs.declared.label.Label.{Label}
use Rattle.c_model.specs.declared.label.Part.{Part}
use Rattle.c_model.specs.declared.graph.CType.{CType}
use Rattle.c_model.specs.declared.graph.Ref.{Ref}
use Rattle.c_model.specs.declared.graph.Ref.TheVariants.{Void, Node}
use Rattle.c_model.specs.Kinds.{FitsParts, FitsPart, IsWellFormed, PartRow, Row, part_targets}
use Rattle.c_model.specs.declared.kinds.TheConstants.{BTF_KIND_FUNC}
use Rattle.btf_codec.specs.Fields.{Field, bit_of, fields_of, high_of, id_of, layout_of, low_of}
use Rattle.btf_codec.specs.Fields.{part_fields, parts_fields, rest_by, target_at, vlen_of}
use Rattle.btf_codec.specs.Spells.{StandsFor}
use Rattle.btf_codec.proofs.KindTable.{kind_known, vlen_few}
use Rattle.btf_codec.proofs.Shapes.{HasParts, PartShape, ShapeOf, Together, refers, together}
use Rattle.btf_codec.specs.declared.layout.KindLayout.{KindLayout}
use Rattle.btf_codec.specs.declared.layout.KindLayout.TheVariants.{Int, Link, Array, Forward}
use Rattle.btf_codec.specs.declared.layout.KindLayout.TheVariants.{TaggedLink, Float, Sized}
use Rattle.btf_codec.specs.declared.layout.KindLayout.TheVariants.{Prototype}
use Rattle.btf_codec.specs.declared.layout.PartLayout.{PartLayout}
use Rattle.btf_codec.specs.declared.layout.PartLayout.TheVariants.{Member, Enumerator}
use Rattle.btf_codec.specs.declared.layout.PartLayout.TheVariants.{WideEnumerator, Parameter}
use Rattle.btf_codec.specs.declared.layout.PartLayout.TheVariants.{Variable}

-- the reference of an id
ref_of : ℕ → Ref
ref_of zero = Void
ref_of (suc x) = Node x

ref_back : (r : Ref) → ref_of (id_of r) ≡ r
unfolding ref_of
ref_back Void = refl
ref_back (Node x) = let e : x + 1 ≡ suc x = omega arith in rw e refl

-- a part, read back from its words, with the reference if it has one
width : PartLayout → ℕ
width Member = 3
width Enumerator = 2
width WideEnumerator = 3
width Parameter = 2
width Variable = 3

name_at : List ℕ → ℕ → List ℕ
name_at strings w = unwrap_or (text_of strings w) []

word : List ℕ → ℕ → ℕ
word ws i = get_or ws i 0

part_back : PartLayout → List ℕ → List ℕ → Part
part_back Member s ws = record { name = name_at s (word ws 0); value = word ws 2 }
part_back Enumerator s ws = record { name = name_at s (word ws 0); value = word ws 1 }
part_back WideEnumerator s ws =
    record { name = name_at s (word ws 0); value = word ws 1 + 2 ^ 32 * word ws 2 }
part_back Parameter s ws = record { name = name_at s (word ws 0); value = 0 }
part_back Variable s ws = record { name = []; value = word ws 1 + 2 ^ 32 * word ws 2 }

part_refs : PartLayout → List ℕ → List Ref
part_refs Member ws = ref_of (word ws 1) ∷ []
part_refs Enumerator ws = []
part_refs WideEnumerator ws = []
part_refs Parameter ws = ref_of (word ws 1) ∷ []
part_refs Variable ws = ref_of (word ws 0) ∷ []

-- so many parts, their references, and the words behind them
parts_back : PartLayout → List ℕ → ℕ → List ℕ → List Part
parts_back layout s zero ws = []
parts_back layout s (suc n) ws =
    part_back layout s ws ∷ parts_back layout s n (drop (width layout) ws)

refs_back : PartLayout → ℕ → List ℕ → List Ref
refs_back layout zero ws = []
refs_back layout (suc n) ws = part_refs layout ws ++ refs_back layout n (drop (width layout) ws)

rest_back : PartLayout → ℕ → List ℕ → List ℕ
rest_back layout zero ws = ws
rest_back layout (suc n) ws = rest_back layout n (drop (width layout) ws)

-- what a part of a layout may be
PartOk : PartLayout → Part → Type 0
PartOk Member p = p.value < 2 ^ 32
PartOk Enumerator p = p.value < 2 ^ 32
PartOk WideEnumerator p = p.value < 2 ^ 64
PartOk Parameter p = p.value ≡ 0
PartOk Variable p = (p.value < 2 ^ 64) × (p.name ≡ [])

some_refs : PartLayout → Ref → List Ref
some_refs layout r = if refers layout then r ∷ [] else []

same_part : (p : Part) (name : List ℕ) (value : ℕ) → name ≡ p.name → value ≡ p.value
    → ◌≡◌ {A = Part} (record { name = name; value = value }) p
same_part p name value n v = λ i. record { name = n i; value = v i }

name_back : (s name : List ℕ) (w : ℕ) → text_of s w ≡ Some name → name_at s w ≡ name
unfolding name_at
name_back s name w e = rw e refl

ref_word : (r : Ref) (w : ℕ) → w ≡ id_of r → ref_of w ≡ r
ref_word r w e = rw e (ref_back r)

halves : (v a b : ℕ) → a ≡ low_of v → b ≡ high_of v → a + 2 ^ 32 * b ≡ v
halves v a b l h = omega arith

low_is_whole : (v a : ℕ) → a ≡ low_of v → v < 2 ^ 32 → a ≡ v
low_is_whole v a l lt = omega arith

record PartBack (layout : PartLayout) (s : List ℕ) (p : Part) (r : Ref) (fs : List Field)
    (ws : List ℕ) : Type 0 where
  pub part : part_back layout s ws ≡ p
  pub refs : part_refs layout ws ≡ some_refs layout r
  pub rest : AllZip (StandsFor s) fs (drop (width layout) ws)

one_part : (layout : PartLayout) (s : List ℕ) (p : Part) (r : Ref) (fs : List Field) (ws : List ℕ)
    → PartOk layout p → AllZip (StandsFor s) (part_fields layout p r ++ fs) ws
    → PartBack layout s p r fs ws
unfolding part_back part_refs some_refs width PartOk word
one_part Member s p r fs [] ok h = absurd h
one_part Member s p r fs (a ∷ []) ok h = absurd h.1
one_part Member s p r fs (a ∷ b ∷ []) ok h = absurd h.1.1
one_part Member s p r fs (a ∷ b ∷ c ∷ ws) ok h =
    record {
      part = same_part p (name_at s a) c (name_back s p.name a h.0)
          (low_is_whole p.value c h.1.1.0 ok);
      refs = ap (λ (q : Ref). q ∷ []) (ref_word r b h.1.0);
      rest = h.1.1.1;
    }
one_part Enumerator s p r fs [] ok h = absurd h
one_part Enumerator s p r fs (a ∷ []) ok h = absurd h.1
one_part Enumerator s p r fs (a ∷ b ∷ ws) ok h =
    record {
      part = same_part p (name_at s a) b (name_back s p.name a h.0)
          (low_is_whole p.value b h.1.0 ok);
      refs = refl;
      rest = h.1.1;
    }
one_part WideEnumerator s p r fs [] ok h = absurd h
one_part WideEnumerator s p r fs (a ∷ []) ok h = absurd h.1
one_part WideEnumerator s p r fs (a ∷ b ∷ []) ok h = absurd h.1.1
one_part WideEnumerator s p r fs (a ∷ b ∷ c ∷ ws) ok h =
    record {
      part = same_part p (name_at s a) (b + 2 ^ 32 * c) (name_back s p.name a h.0)
          (halves p.value b c h.1.0 h.1.1.0);
      refs = refl;
      rest = h.1.1.1;
    }
one_part Parameter s p r fs [] ok h = absurd h
one_part Parameter s p r fs (a ∷ []) ok h = absurd h.1
one_part Parameter s p r fs (a ∷ b ∷ ws) ok h =
    record {
      part = same_part p (name_at s a) 0 (name_back s p.name a h.0) (sym ok);
      refs = ap (λ (q : Ref). q ∷ []) (ref_word r b h.1.0);
      rest = h.1.1;
    }
one_part Variable s p r fs [] ok h = absurd h
one_part Variable s p r fs (a ∷ []) ok h = absurd h.1
one_part Variable s p r fs (a ∷ b ∷ []) ok h = absurd h.1.1
one_part Variable s p r fs (a ∷ b ∷ c ∷ ws) ok h =
    record {
      part = same_part p [] (b + 2 ^ 32 * c) (sym ok.1) (halves p.value b c h.1.0 h.1.1.0);
      refs = ap (λ (q : Ref). q ∷ []) (ref_word r a h.0);
      rest = h.1.1.1;
    }

-- the references of parts, one by one
counted : Bool → ℕ → ℕ
counted b n = if b then n else 0

head_refs : (b : Bool) (rs : List Ref) (n : ℕ) → length rs ≡ counted b (suc n) → ((if b
    then target_at rs 0 ∷ [] else []) ++ drop 1 rs ≡ rs) × (length (drop 1 rs) ≡ counted b n)
unfolding counted
head_refs true [] n e = absurd (omega arith)
head_refs true (r ∷ rs) n e = (refl, omega arith)
head_refs false [] n e = (refl, refl)
head_refs false (r ∷ rs) n e = absurd (omega arith)

join_refs : (layout : PartLayout) (rs : List Ref) (n : ℕ) → length rs
    ≡ counted (refers layout) (suc n) → some_refs layout (target_at rs 0) ++ drop 1 rs ≡ rs
unfolding some_refs
join_refs layout rs n e = (head_refs (refers layout) rs n e).0

record PartsBack (layout : PartLayout) (s : List ℕ) (ps : List Part) (rs : List Ref)
    (fs : List Field) (ws : List ℕ) : Type 0 where
  pub parts : parts_back layout s (length ps) ws ≡ ps
  pub refs : refs_back layout (length ps) ws ≡ rs
  pub rest : AllZip (StandsFor s) fs (rest_back layout (length ps) ws)

nil_refs : (b : Bool) (rs : List Ref) → length rs ≡ counted b 0 → [] ≡ rs
unfolding counted
nil_refs true [] e = refl
nil_refs true (r ∷ rs) e = absurd (omega arith)
nil_refs false [] e = refl
nil_refs false (r ∷ rs) e = absurd (omega arith)

all_parts : (layout : PartLayout) (s : List ℕ) (ps : List Part) (rs : List Ref) (fs : List Field)
    (ws : List ℕ) → All (PartOk layout) ps → length rs ≡ counted (refers layout) (length ps)
    → AllZip (StandsFor s) (parts_fields layout ps rs ++ fs) ws → PartsBack layout s ps rs fs ws
unfolding parts_fields parts_back refs_back rest_back
all_parts layout s [] rs fs ws ok count h =
    record { parts = refl; refs = nil_refs (refers layout) rs count; rest = h }
all_parts layout s (p ∷ ps) rs fs ws ok count h =
    let g = head_refs (refers layout) rs (length ps) count in
    let r = target_at rs 0 in
    let one =
    one_part layout s p r (parts_fields layout ps (drop 1 rs) ++ fs) ws (ok 0 p (omega arith))
    (subst (λ (xs : List Field). AllZip (StandsFor s) xs ws)
    (append_assoc (part_fields layout p r) (parts_fields layout ps (drop 1 rs)) fs) h) in
    let more = all_parts layout s ps (drop 1 rs) fs (drop (width layout) ws)
    (λ (k : ℕ) (d : Part) (lt : k < length ps). ok (suc k) d (omega arith)) g.1 one.rest in
    record {
      parts = ap (λ (q : Part). q ∷ parts_back layout s (length ps) (drop (width layout) ws))
          one.part ∙ ap (λ (qs : List Part). p ∷ qs) more.parts;
      refs =
          ap (λ (xs : List Ref).
          xs ++ refs_back layout (length ps) (drop (width layout) ws)) one.refs
          ∙ ap (λ (xs : List Ref). some_refs layout r ++ xs) more.refs
          ∙ join_refs layout rs (length ps) count;
      rest = more.rest;
    }

-- the parts of an info word
kind_back : ℕ → ℕ
kind_back y = y / 2 ^ 24 % 32

flag_back : ℕ → Bool
flag_back y = nat_le (2 ^ 31) y

vlen_back : ℕ → ℕ
vlen_back y = y % 2 ^ 16

kind_there : (v k y : ℕ) (f : Bool) → v ≤ 65535 → k < 20 → y ≡ v + 2 ^ 24 * k + 2 ^ 31 * bit_of f
    → kind_back y ≡ k
unfolding kind_back
kind_there v k y true few known e = omega (arith, e)
kind_there v k y false few known e = omega (arith, e)

flag_there : (v k y : ℕ) (f : Bool) → v ≤ 65535 → k < 20 → y ≡ v + 2 ^ 24 * k + 2 ^ 31 * bit_of f
    → flag_back y ≡ f
unfolding flag_back
flag_there v k y true few known e = le-leb (2 ^ 31) y (omega (arith, e))
flag_there v k y false few known e = lt-leb (2 ^ 31) y (omega (arith, e))

vlen_there : (v k y : ℕ) (f : Bool) → v ≤ 65535 → k < 20 → y ≡ v + 2 ^ 24 * k + 2 ^ 31 * bit_of f
    → vlen_back y ≡ v
unfolding vlen_back
vlen_there v k y true few known e = omega (arith, e)
vlen_there v k y false few known e = omega (arith, e)

-- a type and the words behind it
record Back : Type 0 where
  pub type : CType
  pub rest : List ℕ

make : ℕ → List ℕ → Bool → ℕ → ℕ → List Part → List Ref → List ℕ → Back
make k n f size extra parts targets rest =
    record {
      type = record {
        label = record {
          kind = k;
          name = n;
          flag = f;
          size = size;
          extra = extra;
          parts = parts;
        };
        targets = targets;
      };
      rest = rest;
    }

by_layout : Option KindLayout → List ℕ → ℕ → List ℕ → Bool → ℕ → List ℕ → Back
by_layout None s k n f v ws = make k n f 0 0 [] [] ws
by_layout (Some Int) s k n f v ws = make k n f (word ws 0) (word ws 1) [] [] (drop 2 ws)
by_layout (Some Link) s k n f v ws =
    make k n f 0 (if k == 12 then v else 0) [] (ref_of (word ws 0) ∷ []) (drop 1 ws)
by_layout (Some Array) s k n f v ws =
    make k n f 0 (word ws 3) [] (ref_of (word ws 1) ∷ ref_of (word ws 2) ∷ []) (drop 4 ws)
by_layout (Some Forward) s k n f v ws = make k n f 0 0 [] [] (drop 1 ws)
by_layout (Some TaggedLink) s k n f v ws =
    make k n f 0 (word ws 1) [] (ref_of (word ws 0) ∷ []) (drop 2 ws)
by_layout (Some Float) s k n f v ws = make k n f (word ws 0) 0 [] [] (drop 1 ws)
by_layout (Some (Sized l)) s k n f v ws = make k n f (word ws 0) 0 (parts_back l s v (drop 1 ws))
    (refs_back l v (drop 1 ws)) (rest_back l v (drop 1 ws))
by_layout (Some Prototype) s k n f v ws =
    make k n f 0 0 (parts_back Parameter s v (drop 1 ws))
    (ref_of (word ws 0) ∷ refs_back Parameter v (drop 1 ws)) (rest_back Parameter v (drop 1 ws))

type_back : List ℕ → List ℕ → Back
type_back s ws =
    by_layout (layout_of (kind_back (word ws 1))) s (kind_back (word ws 1)) (name_at s (word ws 0))
    (flag_back (word ws 1)) (vlen_back (word ws 1)) (drop 2 ws)

record TypeBack (s : List ℕ) (t : CType) (fs : List Field) (b : Back) : Type 0 where
  pub type : b.type ≡ t
  pub rest : AllZip (StandsFor s) fs b.rest

same_type : (t : CType) (size extra : ℕ) (parts : List Part) (targets : List Ref)
    → size ≡ t.label.size → extra ≡ t.label.extra → parts ≡ t.label.parts → targets ≡ t.targets
    → ◌≡◌ {A = CType} (record {
      label = record {
        kind = t.label.kind;
        name = t.label.name;
        flag = t.label.flag;
        size = size;
        extra = extra;
        parts = parts;
      };
      targets = targets;
    }) t
same_type t size extra parts targets s x p r =
    λ i. record {
      label = record {
        kind = t.label.kind;
        name = t.label.name;
        flag = t.label.flag;
        size = s i;
        extra = x i;
        parts = p i;
      };
      targets = r i;
    }

-- what the row of a kind leaves out
no_size : (t : CType) (w : IsWellFormed t) → w.row.size ≡ 1 → 0 ≡ t.label.size
no_size t w e = omega (arith, w.size, e)

no_extra : (t : CType) (w : IsWellFormed t) → w.row.extra ≡ 1 → 0 ≡ t.label.extra
no_extra t w e = omega (arith, w.extra, e)

no_parts : (t : CType) (w : IsWellFormed t) → w.row.parts ≡ None → [] ≡ t.label.parts
no_parts t w e = let h : FitsParts None t.label.parts = subst (λ (o : Option PartRow).
    FitsParts o t.label.parts) e w.parts in sym (nil_from_length t.label.parts h)

so_many : (t : CType) (w : IsWellFormed t) (n : ℕ) → w.row.parts ≡ None → w.row.targets ≡ n
    → length t.targets ≡ n
so_many t w n e r =
    let h : length t.targets ≡ w.row.targets + part_targets None (length t.label.parts) =
    w.targets
    ∙ ap (λ (o : Option PartRow). w.row.targets + part_targets o (length t.label.parts)) e in
    omega (arith, h, r)

one_target : (rs : List Ref) (w : ℕ) → length rs ≡ 1 → w ≡ id_of (target_at rs 0)
    → ref_of w ∷ [] ≡ rs
one_target [] w e h = absurd (omega arith)
one_target (r ∷ []) w e h = ap (λ (q : Ref). q ∷ []) (ref_word r w h)
one_target (r ∷ q ∷ rs) w e h = absurd (omega arith)

two_targets : (rs : List Ref) (v w : ℕ) → length rs ≡ 2 → v ≡ id_of (target_at rs 0)
    → w ≡ id_of (target_at rs 1) → ref_of v ∷ ref_of w ∷ [] ≡ rs
two_targets [] v w e g h = absurd (omega arith)
two_targets (r ∷ []) v w e g h = absurd (omega arith)
two_targets (r ∷ q ∷ []) v w e g h = λ i. ref_word r v g i ∷ ref_word q w h i ∷ []
two_targets (r ∷ q ∷ p ∷ rs) v w e g h = absurd (omega arith)

linkage : (b : Bool) (extra len : ℕ) → (b ≡ false → 0 ≡ extra)
    → (if b then (if b then extra else len) else 0) ≡ extra
linkage true extra len h = refl
linkage false extra len h = h refl

part_ok : (layout : PartLayout) (r : PartRow) (p : Part) → FitsPart r p → PartShape layout r
    → PartOk layout p
unfolding PartOk
part_ok Member r p f s = omega (arith, f.value, s)
part_ok Enumerator r p f s = omega (arith, f.value, s)
part_ok WideEnumerator r p f s = omega (arith, f.value, s)
part_ok Parameter r p f s = omega (arith, f.value, s)
part_ok Variable r p f s = (omega (arith, f.value, s.0), nil_from_length p.name (f.unnamed s.1))

parts_ok : (layout : PartLayout) (t : CType) (w : IsWellFormed t) → HasParts layout w.row
    → All (PartOk layout) t.label.parts
parts_ok layout t w has =
    let h : FitsParts (Some has.parts) t.label.parts =
    subst (λ (o : Option PartRow). FitsParts o t.label.parts) has.is w.parts in
    λ (k : ℕ) (d : Part) (lt : k < length t.label.parts).
    part_ok layout has.parts (get_or t.label.parts k d) (h k d lt) has.shape

targets_count : (layout : PartLayout) (t : CType) (w : IsWellFormed t) → HasParts layout w.row
    → length t.targets ≡ w.row.targets + counted (refers layout) (length t.label.parts)
unfolding counted
targets_count layout t w has =
    w.targets
    ∙ ap (λ (o : Option PartRow). w.row.targets + part_targets o (length t.label.parts)) has.is
    ∙ ap (λ (b : Bool). w.row.targets + (if b then length t.label.parts else 0)) has.refer

vlen_plain : (l : Label) → (l.kind == BTF_KIND_FUNC) ≡ false → length l.parts ≡ vlen_of l
vlen_plain l e = rw e refl

first_and_rest : (rs : List Ref) (n : ℕ) → length rs ≡ 1 + n → target_at rs 0 ∷ drop 1 rs ≡ rs
first_and_rest [] n e = absurd (omega arith)
first_and_rest (r ∷ rs) n e = refl

sized_back : (l : PartLayout) (s : List ℕ) (t : CType) (w : IsWellFormed t) (fs : List Field)
    (a : ℕ) (ws : List ℕ) → ShapeOf (Sized l) t.label.kind w.row → a ≡ t.label.size
    → AllZip (StandsFor s) (parts_fields l t.label.parts t.targets ++ fs) ws
    → TypeBack s t fs (by_layout (Some (Sized l)) s t.label.kind t.label.name t.label.flag
    (length t.label.parts) (a ∷ ws))
unfolding by_layout make word
sized_back l s t w fs a ws g size h =
    let none : w.row.targets ≡ 0 = g.targets_is in
    let p = all_parts l s t.label.parts t.targets fs ws (parts_ok l t w g.parts_is)
    (targets_count l t w g.parts_is ∙ rw none (omega arith)) h in
    record {
      type = same_type t a 0 (parts_back l s (length t.label.parts) ws) (refs_back l (length
          t.label.parts) ws) size (no_extra t w (g.extra_is refl (g.plain refl))) p.parts p.refs;
      rest = p.rest;
    }

prototype_back : (s : List ℕ) (t : CType) (w : IsWellFormed t) (fs : List Field) (a : ℕ)
    (ws : List ℕ) → ShapeOf Prototype t.label.kind w.row → a ≡ id_of (target_at t.targets 0)
    → AllZip (StandsFor s) (parts_fields Parameter t.label.parts (drop 1 t.targets) ++ fs) ws
    → TypeBack s t fs (by_layout (Some Prototype) s t.label.kind t.label.name t.label.flag
    (length t.label.parts) (a ∷ ws))
unfolding by_layout make word counted
prototype_back s t w fs a ws g first h =
    let one : w.row.targets ≡ 1 = g.targets_is in
    let c : length t.targets ≡ 1 + length t.label.parts =
    targets_count Parameter t w g.parts_is ∙ rw one refl in
    let p = all_parts Parameter s t.label.parts (drop 1 t.targets) fs ws
    (parts_ok Parameter t w g.parts_is) (omega (arith, c, length-drop 1 t.targets)) h in
    record {
      type =
          same_type t 0 0 (parts_back Parameter s (length t.label.parts) ws)
          (ref_of a ∷ refs_back Parameter (length t.label.parts) ws)
          (no_size t w (g.size_is refl)) (no_extra t w (g.extra_is refl (g.plain refl))) p.parts
          ((λ i. ref_word (target_at t.targets 0) a first i ∷ p.refs i)
          ∙ first_and_rest t.targets (length t.label.parts) c);
      rest = p.rest;
    }

rest_law : (o : Option KindLayout) (s : List ℕ) (t : CType) (w : IsWellFormed t) (fs : List Field)
    (ws : List ℕ) → Together t.label.kind (Some w.row) o
    → AllZip (StandsFor s) (rest_by o t.label t.targets ++ fs) ws → TypeBack s t fs
    (by_layout o s t.label.kind t.label.name t.label.flag (vlen_of t.label) ws)
unfolding by_layout make word Together
rest_law None s t w fs ws g h = absurd g
rest_law (Some Int) s t w fs [] g h = absurd h
rest_law (Some Int) s t w fs (a ∷ []) g h = absurd h.1
rest_law (Some Int) s t w fs (a ∷ b ∷ ws) g h =
    record {
      type = same_type t a b [] [] h.0 h.1.0 (no_parts t w g.parts_is)
          (sym (nil_from_length t.targets (so_many t w 0 g.parts_is g.targets_is)));
      rest = h.1.1;
    }
rest_law (Some Link) s t w fs [] g h = absurd h
rest_law (Some Link) s t w fs (a ∷ ws) g h =
    record {
      type =
          same_type t 0 (if t.label.kind == BTF_KIND_FUNC then vlen_of t.label else 0) []
          (ref_of a ∷ [])
          (no_size t w (g.size_is refl))
          (linkage (t.label.kind == BTF_KIND_FUNC) t.label.extra (length t.label.parts)
          (λ (e : (t.label.kind == BTF_KIND_FUNC) ≡ false). no_extra t w (g.extra_is refl e)))
          (no_parts t w g.parts_is)
          (one_target t.targets a (so_many t w 1 g.parts_is g.targets_is) h.0);
      rest = h.1;
    }
rest_law (Some Array) s t w fs [] g h = absurd h
rest_law (Some Array) s t w fs (z ∷ []) g h = absurd h.1
rest_law (Some Array) s t w fs (z ∷ a ∷ []) g h = absurd h.1.1
rest_law (Some Array) s t w fs (z ∷ a ∷ b ∷ []) g h = absurd h.1.1.1
rest_law (Some Array) s t w fs (z ∷ a ∷ b ∷ c ∷ ws) g h =
    record {
      type =
          same_type t 0 c [] (ref_of a ∷ ref_of b ∷ []) (no_size t w (g.size_is refl)) h.1.1.1.0
          (no_parts t w g.parts_is)
          (two_targets t.targets a b (so_many t w 2 g.parts_is g.targets_is) h.1.0 h.1.1.0);
      rest = h.1.1.1.1;
    }
rest_law (Some Forward) s t w fs [] g h = absurd h
rest_law (Some Forward) s t w fs (z ∷ ws) g h =
    record {
      type =
          same_type t 0 0 [] [] (no_size t w (g.size_is refl))
          (no_extra t w (g.extra_is refl (g.plain refl))) (no_parts t w g.parts_is)
          (sym (nil_from_length t.targets (so_many t w 0 g.parts_is g.targets_is)));
      rest = h.1;
    }
rest_law (Some TaggedLink) s t w fs [] g h = absurd h
rest_law (Some TaggedLink) s t w fs (a ∷ []) g h = absurd h.1
rest_law (Some TaggedLink) s t w fs (a ∷ b ∷ ws) g h =
    record {
      type = same_type t 0 b [] (ref_of a ∷ []) (no_size t w (g.size_is refl)) h.1.0 (no_parts t w
          g.parts_is) (one_target t.targets a (so_many t w 1 g.parts_is g.targets_is) h.0);
      rest = h.1.1;
    }
rest_law (Some Float) s t w fs [] g h = absurd h
rest_law (Some Float) s t w fs (a ∷ ws) g h =
    record {
      type =
          same_type t a 0 [] [] h.0 (no_extra t w (g.extra_is refl (g.plain refl)))
          (no_parts t w g.parts_is)
          (sym (nil_from_length t.targets (so_many t w 0 g.parts_is g.targets_is)));
      rest = h.1;
    }
rest_law (Some (Sized l)) s t w fs [] g h = absurd h
rest_law (Some (Sized l)) s t w fs (a ∷ ws) g h =
    subst (λ (v : ℕ). TypeBack s t fs
    (by_layout (Some (Sized l)) s t.label.kind t.label.name t.label.flag v (a ∷ ws)))
    (vlen_plain t.label (g.plain refl)) (sized_back l s t w fs a ws g h.0 h.1)
rest_law (Some Prototype) s t w fs [] g h = absurd h
rest_law (Some Prototype) s t w fs (a ∷ ws) g h =
    subst (λ (v : ℕ). TypeBack s t fs
    (by_layout (Some Prototype) s t.label.kind t.label.name t.label.flag v (a ∷ ws)))
    (vlen_plain t.label (g.plain refl)) (prototype_back s t w fs a ws g h.0 h.1)

row_there : (t : CType) (w : IsWellFormed t)
    → Together t.label.kind (Some w.row) (layout_of t.label.kind)
row_there t w = subst (λ (o : Option Row). Together t.label.kind o (layout_of t.label.kind))
    w.of_kind (together t.label.kind)

type_law : (s : List ℕ) (t : CType) (w : IsWellFormed t) (fs : List Field) (ws : List ℕ)
    → AllZip (StandsFor s) (fields_of t ++ fs) ws → TypeBack s t fs (type_back s ws)
unfolding fields_of type_back word
type_law s t w fs [] h = absurd h
type_law s t w fs (a ∷ []) h = absurd h.1
type_law s t w fs (a ∷ b ∷ ws) h =
    let l : Label = t.label in
    let few = vlen_few t w in
    let known = kind_known t w in
    let ek : kind_back b ≡ l.kind = kind_there (vlen_of l) l.kind b l.flag few known h.1.0 in
    let en : name_at s a ≡ l.name = name_back s l.name a h.0 in
    let ef : flag_back b ≡ l.flag = flag_there (vlen_of l) l.kind b l.flag few known h.1.0 in
    let ev : vlen_back b ≡ vlen_of l = vlen_there (vlen_of l) l.kind b l.flag few known h.1.0 in
    subst (λ (k : ℕ). TypeBack s t fs
    (by_layout (layout_of k) s k (name_at s a) (flag_back b) (vlen_back b) ws)) (sym ek)
    (subst (λ (n : List ℕ). TypeBack s t fs
    (by_layout (layout_of l.kind) s l.kind n (flag_back b) (vlen_back b) ws)) (sym en)
    (subst (λ (f : Bool).
    TypeBack s t fs (by_layout (layout_of l.kind) s l.kind l.name f (vlen_back b) ws)) (sym ef)
    (subst (λ (v : ℕ). TypeBack s t fs (by_layout (layout_of l.kind) s l.kind l.name l.flag v ws))
    (sym ev) (rest_law (layout_of l.kind) s t w fs ws (row_there t w) h.1.1))))

none_left : (s : List ℕ) (u : CType) (fs : List Field) (ws : List ℕ) → AllZip (StandsFor s) [] ws
    → AllZip (StandsFor s) (fields_of u ++ fs) ws → ⊥
unfolding fields_of
none_left s u fs [] e h = h
none_left s u fs (a ∷ ws) e h = e

-- words stand for the fields of one list of types alone
pub types_alone : (s : List ℕ) (ts us : List CType) (ws : List ℕ) → All IsWellFormed ts
    → All IsWellFormed us → AllZip (StandsFor s) (flat_map fields_of ts) ws
    → AllZip (StandsFor s) (flat_map fields_of us) ws → ts ≡ us
types_alone s [] [] ws f g h k = refl
types_alone s [] (u ∷ us) ws f g h k = absurd (none_left s u (flat_map fields_of us) ws h k)
types_alone s (t ∷ ts) [] ws f g h k = absurd (none_left s t (flat_map fields_of ts) ws k h)
types_alone s (t ∷ ts) (u ∷ us) ws f g h k =
    let b = type_law s t (f 0 t (omega arith)) (flat_map fields_of ts) ws h in
    let d = type_law s u (g 0 u (omega arith)) (flat_map fields_of us) ws k in
    let rest =
    types_alone s ts us (type_back s ws).rest
    (λ (i : ℕ) (x : CType) (lt : i < length ts). f (suc i) x (omega arith))
    (λ (i : ℕ) (x : CType) (lt : i < length us). g (suc i) x (omega arith)) b.rest d.rest in
    ap (λ (x : CType). x ∷ ts) (sym b.type ∙ d.type) ∙ ap (λ (xs : List CType). u ∷ xs) rest
