-- Fields whose words stand for them.
use Rattle.std.proofs.Common.{◌≡◌, ℕ, zero, suc, ◌-◌, ◌<◌, ◌≤◌, ◌^◌, List, [], ◌∷◌, ◌++◌, length}
use Rattle.std.proofs.Common.{drop, unwrap_or, All, IsSome, Option, None, Some, refl, arith}
use Rattle.std.specs.List.{AllZip, flat_map}
use Rattle.dw_base.specs.Texts.{text_of, HasNoNul}
use Rattle.btf_strings.specs.Names.{Names, all_strings, offset_of}
use Rattle.btf_strings.specs.Kept.{IsSound}
use Rattle.btf_strings.proofs.Offsets.{text_at_offset}
use Rattle.c_model.specs.Graph.{IsBelow}
use Rattle.c_model.specs.Kinds.{FitsParts, IsWellFormed, PartRow}
use Rattle.c_model.specs.declared.label.Part.{Part}
use Rattle.c_model.specs.declared.graph.CType.{CType}
use Rattle.c_model.specs.declared.graph.Ref.{Ref}
use Rattle.c_model.specs.declared.graph.Ref.TheVariants.{Void, Node}
use Rattle.btf_codec.proofs.Fitting.{target_below, dropped_below}
use Rattle.btf_codec.specs.Fields.{Field, Named, Refers, Number, fields_of, high_of, id_of}
use Rattle.btf_codec.specs.Fields.{layout_of, low_of, part_fields, parts_fields, rest_by, target_at}
use Rattle.btf_codec.specs.Spells.{StandsFor}
use Rattle.btf_codec.specs.Spelling.{HasOffset, HasOffsets, word_of, words_of}
use Rattle.btf_codec.specs.declared.layout.KindLayout.{KindLayout}
use Rattle.btf_codec.specs.declared.layout.KindLayout.TheVariants.{Int, Link, Array, Forward}
use Rattle.btf_codec.specs.declared.layout.KindLayout.TheVariants.{TaggedLink, Float, Sized}
use Rattle.btf_codec.specs.declared.layout.KindLayout.TheVariants.{Prototype}
use Rattle.btf_codec.specs.declared.layout.PartLayout.{PartLayout}
use Rattle.btf_codec.specs.declared.layout.PartLayout.TheVariants.{Member, Enumerator}
use Rattle.btf_codec.specs.declared.layout.PartLayout.TheVariants.{WideEnumerator, Parameter}
use Rattle.btf_codec.specs.declared.layout.PartLayout.TheVariants.{Variable}
use Rattle.btf_codec.proofs.KindTable.{info_narrow, row_limits}

-- a name has an offset and no NUL, a reference has an id, and a number fits its word
abbrev pub IsGood : Names → Field → Type 0
IsGood s (Named name) = HasOffset s name × HasNoNul name
IsGood s (Refers r) = IsBelow (2 ^ 32 - 1) r
IsGood s (Number n) = n < 2 ^ 32

abbrev pub AreGood : Names → List Field → Type 0
AreGood s [] = Unit {0}
AreGood s (f ∷ fs) = IsGood s f × AreGood s fs

good_both : (s : Names) (xs ys : List Field) → AreGood s xs → AreGood s ys → AreGood s (xs ++ ys)
good_both s [] ys g h = h
good_both s (x ∷ xs) ys g h = (g.0, good_both s xs ys g.1 h)

-- what a part has
pub record IsGoodPart (s : Names) (p : Part) : Type 0 where
  pub name : HasOffset s p.name × HasNoNul p.name
  pub value : p.value < 2 ^ 64

low_small : (v : ℕ) → low_of v < 2 ^ 32
low_small v = omega arith

high_small : (v : ℕ) → v < 2 ^ 64 → high_of v < 2 ^ 32
high_small v h = omega arith

good_part : (s : Names) (layout : PartLayout) (p : Part) (r : Ref) → IsGoodPart s p
    → IsBelow (2 ^ 32 - 1) r → AreGood s (part_fields layout p r)
good_part s Member p r g b = (g.name, (b, (low_small p.value, tt)))
good_part s Enumerator p r g b = (g.name, (low_small p.value, tt))
good_part s WideEnumerator p r g b = (g.name, (low_small p.value, (high_small p.value g.value, tt)))
good_part s Parameter p r g b = (g.name, (b, tt))
good_part s Variable p r g b = (b, (low_small p.value, (high_small p.value g.value, tt)))

good_parts : (s : Names) (layout : PartLayout) (ps : List Part) (rs : List Ref)
    → All (IsGoodPart s) ps → All (IsBelow (2 ^ 32 - 1)) rs → AreGood s (parts_fields layout ps rs)
unfolding parts_fields
good_parts s layout [] rs g b = tt
good_parts s layout (p ∷ ps) rs g b =
    good_both s (part_fields layout p (target_at rs 0)) (parts_fields layout ps (drop 1 rs))
    (good_part s layout p (target_at rs 0) (g 0 p (omega arith)) (target_below (2 ^ 32 - 1) rs 0 b))
    (good_parts s layout ps (drop 1 rs)
    (λ (k : ℕ) (d : Part) (lt : k < length ps). g (suc k) d (omega arith))
    (dropped_below (2 ^ 32 - 1) rs b))

-- what a type has
pub record IsGoodType (s : Names) (t : CType) : Type 0 where
  pub formed : IsWellFormed t
  pub offsets : HasOffsets s t
  pub below : All (IsBelow (2 ^ 32 - 1)) t.targets

fitting : (s : Names) (o : Option PartRow) (ps : List Part) → ((r : PartRow) → o ≡ Some r → r.value
    ≤ 2 ^ 64) → FitsParts o ps → All (λ (p : Part). HasOffset s p.name) ps → All (IsGoodPart s) ps
fitting s None ps limit fits offsets =
    λ (k : ℕ) (d : Part) (lt : k < length ps). absurd (omega arith)
fitting s (Some r) ps limit fits offsets = λ (k : ℕ) (d : Part) (lt : k < length ps).
    let f = fits k d lt in
    let v : r.value ≤ 2 ^ 64 = limit r refl in
    record { name = (offsets k d lt, f.name); value = omega (arith, f.value, v) }

good_rest : (s : Names) (t : CType) (o : Option KindLayout) → t.label.size < 2 ^ 32
    → t.label.extra < 2 ^ 32 → All (IsGoodPart s) t.label.parts
    → All (IsBelow (2 ^ 32 - 1)) t.targets → AreGood s (rest_by o t.label t.targets)
good_rest s t None size extra ps rs = tt
good_rest s t (Some Int) size extra ps rs = (size, (extra, tt))
good_rest s t (Some Link) size extra ps rs = (target_below (2 ^ 32 - 1) t.targets 0 rs, tt)
good_rest s t (Some Array) size extra ps rs = (
  omega arith,
  (
    target_below (2 ^ 32 - 1) t.targets 0 rs,
    (target_below (2 ^ 32 - 1) t.targets 1 rs, (extra, tt)),
  ),
)
good_rest s t (Some Forward) size extra ps rs = (omega arith, tt)
good_rest s t (Some TaggedLink) size extra ps rs =
    (target_below (2 ^ 32 - 1) t.targets 0 rs, (extra, tt))
good_rest s t (Some Float) size extra ps rs = (size, tt)
good_rest s t (Some (Sized parts)) size extra ps rs =
    (size, good_parts s parts t.label.parts t.targets ps rs)
good_rest s t (Some Prototype) size extra ps rs = (
  target_below (2 ^ 32 - 1) t.targets 0 rs,
  good_parts s Parameter t.label.parts (drop 1 t.targets) ps
      (dropped_below (2 ^ 32 - 1) t.targets rs),
)

good_type : (s : Names) (t : CType) → IsGoodType s t → AreGood s (fields_of t)
unfolding fields_of
good_type s t g =
    let limits = row_limits t g.formed in
    let size : t.label.size < 2 ^ 32 = omega (arith, g.formed.size, limits.size) in
    let extra : t.label.extra < 2 ^ 32 = omega (arith, g.formed.extra, limits.extra) in (
      (g.offsets.name, g.formed.name),
      (
        info_narrow t g.formed,
        good_rest s t (layout_of t.label.kind) size extra (fitting s g.formed.row.parts
            t.label.parts limits.value g.formed.parts g.offsets.parts) g.below,
      ),
    )

pub good_types : (s : Names) (ts : List CType) → All (IsGoodType s) ts
    → AreGood s (flat_map fields_of ts)
good_types s [] g = tt
good_types s (t ∷ ts) g =
    good_both s (fields_of t) (flat_map fields_of ts) (good_type s t (g 0 t (omega arith)))
    (good_types s ts (λ (k : ℕ) (d : CType) (lt : k < length ts). g (suc k) d (omega arith)))

-- the word of a good field stands for it, and fits
text_there : (s : Names) (name : List ℕ) (o : Option ℕ) → IsSound s → HasNoNul name
    → offset_of s name ≡ o → IsSome o → text_of (all_strings s) (unwrap_or o 0) ≡ Some name
text_there s name None sound clean e some = cc
text_there s name (Some at) sound clean e some = text_at_offset s name at sound.section clean e

offset_fits : (s : Names) (name : List ℕ) (o : Option ℕ) → IsSound s → offset_of s name ≡ o
    → unwrap_or o 0 < 2 ^ 32
offset_fits s name None sound e = omega arith
offset_fits s name (Some at) sound e = sound.narrow name at e

stands : (s : Names) (f : Field) → IsSound s → IsGood s f
    → StandsFor (all_strings s) f (word_of s f)
stands s (Named name) sound g = text_there s name (offset_of s name) sound g.1 refl g.0
stands s (Refers r) sound g = refl
stands s (Number n) sound g = refl

id_fits : (r : Ref) → IsBelow (2 ^ 32 - 1) r → id_of r < 2 ^ 32
id_fits Void b = omega arith
id_fits (Node x) b = omega arith

word_fits : (s : Names) (f : Field) → IsSound s → IsGood s f → word_of s f < 2 ^ 32
word_fits s (Named name) sound g = offset_fits s name (offset_of s name) sound refl
word_fits s (Refers r) sound g = id_fits r g
word_fits s (Number n) sound g = g

pub all_stand : (s : Names) (fs : List Field) → IsSound s → AreGood s fs
    → AllZip (StandsFor (all_strings s)) fs (words_of s fs)
all_stand s [] sound g = tt
all_stand s (f ∷ fs) sound g = (stands s f sound g.0, all_stand s fs sound g.1)

pub words_fit : (s : Names) (fs : List Field) → IsSound s → AreGood s fs
    → All (λ (w : ℕ). w < 2 ^ 32) (words_of s fs)
words_fit s [] sound g k d lt = absurd (omega arith)
words_fit s (f ∷ fs) sound g zero d lt = word_fits s f sound g.0
words_fit s (f ∷ fs) sound g (suc k) d lt = words_fit s fs sound g.1 k d (omega arith)
