-- How many words the fields of types take.
use Rattle.std.proofs.Common.{◌≡◌, ℕ, ◌+◌, ◌*◌, ◌<◌, ◌≤◌, List, [], ◌∷◌, ◌++◌, length, take, drop}
use Rattle.std.proofs.Common.{get_or, Option, None, Some, ◌^◌, refl, sym, ap, subst, ◌∙◌, arith}
use Rattle.std.specs.List.{flat_map}
use Rattle.std.proofs.lemmas.List.{length-append, take_more, flat_map_more, take-append-drop}
use Rattle.std.proofs.lemmas.Grind.{flat_map-append}
use Rattle.c_model.specs.declared.label.Part.{Part}
use Rattle.c_model.specs.declared.graph.CType.{CType}
use Rattle.c_model.specs.declared.graph.Ref.{Ref}
use Rattle.btf_codec.specs.Fields.{Field, fields_of, layout_of, part_fields, parts_fields, rest_by}
use Rattle.btf_codec.specs.Fields.{rest_fields, target_at}
use Rattle.btf_codec.specs.declared.layout.KindLayout.{KindLayout}
use Rattle.btf_codec.specs.declared.layout.KindLayout.TheVariants.{Int, Link, Array, Forward}
use Rattle.btf_codec.specs.declared.layout.KindLayout.TheVariants.{TaggedLink, Float, Sized}
use Rattle.btf_codec.specs.declared.layout.KindLayout.TheVariants.{Prototype}
use Rattle.btf_codec.specs.declared.layout.PartLayout.{PartLayout}
use Rattle.btf_codec.specs.declared.layout.PartLayout.TheVariants.{Member, Enumerator}
use Rattle.btf_codec.specs.declared.layout.PartLayout.TheVariants.{WideEnumerator, Parameter}
use Rattle.btf_codec.specs.declared.layout.PartLayout.TheVariants.{Variable}

pub length_parts : (layout : PartLayout) (n : ℕ)
    → ((p : Part) (r : Ref) → n ≡ length (part_fields layout p r))
    → (ps : List Part) (rs : List Ref) → length (parts_fields layout ps rs) ≡ n * length ps
unfolding parts_fields
length_parts layout n each [] rs = omega arith
length_parts layout n each (p ∷ ps) rs =
    omega (
      arith,
      length-append (part_fields layout p (target_at rs 0)) (parts_fields layout ps
          (drop 1 rs)),
      each p (target_at rs 0),
      length_parts layout n each ps (drop 1 rs),
    )

-- the fields of a type whose layout is known
pub length_by : (t : CType) (o : Option KindLayout) → o ≡ layout_of t.label.kind
    → length (fields_of t) ≡ 2 + length (rest_by o t.label t.targets)
unfolding fields_of
length_by t o e = rw (← e) (omega arith)

-- the fields of some types are no more than those of all
pub length_more : (ts : List CType) (i : ℕ) (d : CType) → i < length ts
    → length (flat_map fields_of (take (i + 1) ts))
    ≡ length (flat_map fields_of (take i ts)) + length (fields_of (get_or ts i d))
length_more ts i d lt =
    ap (λ (us : List CType). length (flat_map fields_of us)) (take_more ts i d lt)
    ∙ ap (λ (fs : List Field). length fs)
    (sym (flat_map_more fields_of [] (take i ts) (get_or ts i d)))
    ∙ length-append (flat_map fields_of (take i ts)) (fields_of (get_or ts i d))

pub length_front : (ts : List CType) (i : ℕ)
    → length (flat_map fields_of (take i ts)) ≤ length (flat_map fields_of ts)
length_front ts i =
    let e : take i ts ++ drop i ts ≡ ts = take-append-drop i ts in
    let l : length (flat_map fields_of (take i ts)) + length (flat_map fields_of (drop i ts))
    ≡ length (flat_map fields_of ts) =
    sym (length-append (flat_map fields_of (take i ts)) (flat_map fields_of (drop i ts)))
    ∙ ap (λ (fs : List Field). length fs) (sym (flat_map-append fields_of (take i ts) (drop i ts)))
    ∙ ap (λ (us : List CType). length (flat_map fields_of us)) e in
    omega (arith, l)

-- whatever the parts refer to
pub length_any : (layout : PartLayout) (ps : List Part) (rs qs : List Ref)
    → length (parts_fields layout ps rs) ≡ length (parts_fields layout ps qs)
unfolding parts_fields
length_any layout [] rs qs = refl
length_any Member (p ∷ ps) rs qs = omega (arith, length_any Member ps (drop 1 rs) (drop 1 qs))
length_any Enumerator (p ∷ ps) rs qs =
    omega (arith, length_any Enumerator ps (drop 1 rs) (drop 1 qs))
length_any WideEnumerator (p ∷ ps) rs qs =
    omega (arith, length_any WideEnumerator ps (drop 1 rs) (drop 1 qs))
length_any Parameter (p ∷ ps) rs qs = omega (arith, length_any Parameter ps (drop 1 rs) (drop 1 qs))
length_any Variable (p ∷ ps) rs qs = omega (arith, length_any Variable ps (drop 1 rs) (drop 1 qs))

-- what the parts take is no more than what the type takes
pub sized_fits : (layout : KindLayout) (parts : PartLayout) (t : CType) (ps : List Part) → layout
    ≡ Sized parts → ps ≡ t.label.parts → length (rest_fields layout t.label t.targets) < 2 ^ 32
    → length (parts_fields parts ps []) < 2 ^ 32
sized_fits layout parts t ps e p h =
    let g : length (rest_fields (Sized parts) t.label t.targets) < 2 ^ 32 =
    subst (λ (l : KindLayout). length (rest_fields l t.label t.targets) < 2 ^ 32) e h in
    rw p (omega (arith, g, length_any parts t.label.parts [] t.targets))

pub prototype_fits : (layout : KindLayout) (t : CType) (ps : List Part) → layout ≡ Prototype
    → ps ≡ t.label.parts → length (rest_fields layout t.label t.targets) < 2 ^ 32
    → length (parts_fields Parameter ps []) < 2 ^ 32
prototype_fits layout t ps e p h =
    let g : length (rest_fields Prototype t.label t.targets) < 2 ^ 32 =
    subst (λ (l : KindLayout). length (rest_fields l t.label t.targets) < 2 ^ 32) e h in
    rw p (omega (arith, g, length_any Parameter t.label.parts [] (drop 1 t.targets)))

-- a type has six words at most besides those of its parts, and a part three
parts_at_most : (layout : PartLayout) (ps : List Part) (rs : List Ref)
    → length (parts_fields layout ps rs) ≤ 3 * length ps
parts_at_most Member ps rs =
    omega (arith, length_parts Member 3 (λ (p : Part) (r : Ref). refl) ps rs)
parts_at_most Enumerator ps rs =
    omega (arith, length_parts Enumerator 2 (λ (p : Part) (r : Ref). refl) ps rs)
parts_at_most WideEnumerator ps rs =
    omega (arith, length_parts WideEnumerator 3 (λ (p : Part) (r : Ref). refl) ps rs)
parts_at_most Parameter ps rs =
    omega (arith, length_parts Parameter 2 (λ (p : Part) (r : Ref). refl) ps rs)
parts_at_most Variable ps rs =
    omega (arith, length_parts Variable 3 (λ (p : Part) (r : Ref). refl) ps rs)

rest_at_most : (o : Option KindLayout) (t : CType)
    → length (rest_by o t.label t.targets) ≤ 4 + 3 * length t.label.parts
rest_at_most None t = omega arith
rest_at_most (Some Int) t = omega arith
rest_at_most (Some Link) t = omega arith
rest_at_most (Some Array) t = omega arith
rest_at_most (Some Forward) t = omega arith
rest_at_most (Some TaggedLink) t = omega arith
rest_at_most (Some Float) t = omega arith
rest_at_most (Some (Sized parts)) t = omega (arith, parts_at_most parts t.label.parts t.targets)
rest_at_most (Some Prototype) t =
    omega (arith, parts_at_most Parameter t.label.parts (drop 1 t.targets))

pub length_at_most : (t : CType) → length (fields_of t) ≤ 6 + 3 * length t.label.parts
length_at_most t = omega (
  arith,
  length_by t (layout_of t.label.kind) refl,
  rest_at_most (layout_of t.label.kind) t,
)
