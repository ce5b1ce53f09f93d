-- How many words types have.
use Rattle.std.proofs.Common.{◌≡◌, ◌+◌, ◌*◌, length, drop, Option, None, Some, refl, arith}
use Rattle.c_model.specs.declared.graph.CType.{CType}
use Rattle.btf_codec.specs.Fields.{fields_of, layout_of}
use Rattle.btf_codec.specs.declared.layout.KindLayout.{KindLayout}
use Rattle.btf_codec.specs.declared.layout.KindLayout.TheVariants.{Int, Link, Array, Forward}
use Rattle.btf_codec.specs.declared.layout.KindLayout.TheVariants.{TaggedLink, Float, Sized}
use Rattle.btf_codec.specs.declared.layout.KindLayout.TheVariants.{Prototype}
use Rattle.btf_codec.specs.declared.layout.PartLayout.TheVariants.{Member, Enumerator}
use Rattle.btf_codec.specs.declared.layout.PartLayout.TheVariants.{WideEnumerator, Parameter}
use Rattle.btf_codec.specs.declared.layout.PartLayout.TheVariants.{Variable}
use Rattle.btf_codec.proofs.Counting.{length_by, length_parts}
use Rattle.split_base.specs.Building.{words_besides, words_each}

pub words_is : (t : CType) (o : Option KindLayout) → o ≡ layout_of t.label.kind
    → length (fields_of t) ≡ words_besides o + words_each o * length t.label.parts
words_is t None e = omega (arith, length_by t None e)
words_is t (Some Int) e = omega (arith, length_by t (Some Int) e)
words_is t (Some Link) e = omega (arith, length_by t (Some Link) e)
words_is t (Some Array) e = omega (arith, length_by t (Some Array) e)
words_is t (Some Forward) e = omega (arith, length_by t (Some Forward) e)
words_is t (Some TaggedLink) e = omega (arith, length_by t (Some TaggedLink) e)
words_is t (Some Float) e = omega (arith, length_by t (Some Float) e)
words_is t (Some (Sized Member)) e = omega (
  arith,
  length_by t (Some (Sized Member)) e,
  length_parts Member 3 (λ p r. refl) t.label.parts t.targets,
)
words_is t (Some (Sized Enumerator)) e = omega (
  arith,
  length_by t (Some (Sized Enumerator)) e,
  length_parts Enumerator 2 (λ p r. refl) t.label.parts t.targets,
)
words_is t (Some (Sized WideEnumerator)) e = omega (
  arith,
  length_by t (Some (Sized WideEnumerator))
      e,
  length_parts WideEnumerator 3 (λ p r. refl) t.label.parts t.targets,
)
words_is t (Some (Sized Parameter)) e = omega (
  arith,
  length_by t (Some (Sized Parameter)) e,
  length_parts Parameter 2 (λ p r. refl) t.label.parts t.targets,
)
words_is t (Some (Sized Variable)) e = omega (
  arith,
  length_by t (Some (Sized Variable)) e,
  length_parts Variable 3 (λ p r. refl) t.label.parts t.targets,
)
words_is t (Some Prototype) e = omega (
  arith,
  length_by t (Some Prototype) e,
  length_parts Parameter 2 (λ p r. refl) t.label.parts (drop 1 t.targets),
)
