-- A value that is written is read: where its bytes stand at a place, it is the value that is there.
use Rattle.std.proofs.Common.{◌≡◌, ◌≢◌, ℕ, suc, ◌+◌, ◌-◌, ◌≤◌, List, [], ◌∷◌, ◌++◌, length, take}
use Rattle.std.proofs.Common.{drop, get_or, Some, Ok, refl, sym, ap, subst, ◌∙◌, arith, inl}
use Rattle.std.proofs.lemmas.List.{get_or-drop, drop-take}
use Rattle.dwarf_abbrev.specs.declared.spec.Spec.{Spec}
use Rattle.dwarf_forms.specs.declared.layout.FormLayout.{FormLayout}
use Rattle.dwarf_forms.specs.Forms.{layout_of, HasWidth}
use Rattle.dwarf_forms.specs.Values.{Plain, Shown, Within, value_of}
use Rattle.dwarf_forms.specs.Standard.{Means, Stands}
use Rattle.dwarf_forms.proofs.Pieces.{split}
use Rattle.dwarf_forms.proofs.Spelled.{spelled}

-- a piece that is cut in two at a place
pub cut : (unit : List ℕ) (at mid end : ℕ) (p q : List ℕ) → at + length p ≡ mid
    → Stands unit at (p ++ q) end → Stands unit at p mid × Stands unit mid q end
cut unit at mid end p q e s =
    subst (λ (k : ℕ). Stands unit at p k × Stands unit k q end) e (split unit at end p q s)

-- what stands before a place stands among the bytes up to it
take_past : (p q : List ℕ) (m : ℕ) → take (length p + m) (p ++ q) ≡ p ++ take m q
take_past [] q m = let e : 0 + m ≡ m = omega arith in ap (λ (n : ℕ). take n q) e
take_past (x ∷ xs) q m = let e : suc (length xs) + m ≡ suc (length xs + m) = omega arith in
    ap (λ (n : ℕ). take n (x ∷ (xs ++ q))) e ∙ ap (λ (ys : List ℕ). x ∷ ys) (take_past xs q m)

pub stands_before : (info piece : List ℕ) (at end most : ℕ) → end ≤ most → Stands info at piece end
    → Stands (take most info) at piece end
stands_before info piece at end most le s =
    let m = most - end in
    let e : most ≡ at + (length piece + m) = omega (arith, s.2) in (
      take m s.0,
      ap (λ (n : ℕ). drop at (take n info)) e ∙ drop-take at (length piece + m) info
          ∙ ap (take (length piece + m)) s.1 ∙ take_past piece s.0 m,
      s.2,
    )

-- the byte that stands at a place
pub byte_there : (xs : List ℕ) (at end b : ℕ) → Stands xs at (b ∷ []) end → get_or xs at 0 ≡ b
byte_there xs at end b s = let e : at ≡ at + 0 = omega arith in ap (λ (n : ℕ). get_or xs n 0) e
    ∙ sym (get_or-drop at xs 0 0) ∙ ap (λ (ys : List ℕ). get_or ys 0 0) s.1

-- a value as it is written: the pair of the abbreviation, the bytes, and what they are
pub record Value : Type 0 where
  pub spec : Spec
  pub bytes : List ℕ
  pub value : Plain

abbrev pub shown_of : Value → Shown
shown_of v = record { form = v.spec.form; value = v.value }

pub record IsWritten (c : Within) (v : Value) : Type 0 where
  pub layout : FormLayout
  pub row : layout_of c.offset_bytes c.address_bytes v.spec.form ≡ Some layout
  pub means : Means layout v.spec.form c.order v.spec.implicit v.bytes v.value
  pub direct : v.spec.form ≢ 0x16

pub value_written : (c : Within) (v : Value) (at end : ℕ) → HasWidth c.offset_bytes
    → HasWidth c.address_bytes → end ≤ length c.unit → IsWritten c v → Stands c.unit at v.bytes end
    → value_of c v.spec at ≡ Ok (shown_of v, end)
value_written c v at end o a le w s =
    spelled c v.spec at (shown_of v) end o a le (
      v.spec.form,
      at,
      inl (w.direct, refl, refl),
      record {
        layout = w.layout;
        piece = v.bytes;
        row = w.row;
        stands = s;
        means = w.means;
        named = refl;
      },
    )
