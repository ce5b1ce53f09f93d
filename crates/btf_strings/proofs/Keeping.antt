-- What a table of names keeps, at first and with one name more.
use Rattle.std.proofs.Common.{◌≡◌, ℕ, ◌<◌, ◌≤◌, ◌^◌, List, [], ◌∷◌, ◌++◌, length, Option, None}
use Rattle.std.proofs.Common.{Some, IfSome, refl, sym, ap, subst, ◌∙◌, append-nil, append_assoc}
use Rattle.std.proofs.Common.{arith}
use Rattle.std.specs.Option.{option_or}
use Rattle.std.specs.List.{flat_map}
use Rattle.std.proofs.lemmas.List.{flat_map_more, map-append}
use Rattle.btf_strings.specs.Names.{Names, base_offset, first_offset, first_string, next_offset}
use Rattle.btf_strings.specs.Names.{offset_among, offset_of, own_section, stands_whole, with_nul}
use Rattle.btf_strings.specs.Kept.{IsKept, IsSection, IsSound, names_of, value_of}
use Rattle.btf_strings.proofs.Among.{offset_near, placed_more, value_is}
use Rattle.btf_strings.proofs.Least.{least_passes}
use Rattle.btf_strings.proofs.Offsets.{absent, next_is, offset_is}

pub kept_at_first : (base : Option (List ℕ)) (base_offsets : List (List ℕ × ℕ)) (own : List ℕ)
    (places : List (List ℕ × ℕ))
    → IfSome base IsSection → places ≡ []
    → ((name : List ℕ) → value_of name base_offsets ≡ base_offset base name)
    → own ≡ first_string base
    → IsKept base base_offsets own places
unfolding own_section
kept_at_first base base_offsets own places section none index first =
    subst (λ (es : List (List ℕ × ℕ)). IsKept base base_offsets own es) (sym none)
    (record {
      section = section;
      index = index;
      bytes = first ∙ sym (append-nil (first_string base));
      placed = tt;
    })

-- a new name's place
pub is_new : (base : Option (List ℕ)) (base_offsets : List (List ℕ × ℕ)) (own : List ℕ)
    (places : List (List ℕ × ℕ)) (name : List ℕ)
    → IsKept base base_offsets own places
    → offset_of (record { base = base; own = names_of places }) name ≡ None
    → value_of name places ≡ None
is_new base base_offsets own places name kept e =
    value_is (first_offset base) places name kept.placed
    ∙ (absent (record { base = base; own = names_of places }) name e).own

pub names_more : (places : List (List ℕ × ℕ)) (e : List ℕ × ℕ)
    → names_of (places ++ e ∷ []) ≡ names_of places ++ e.0 ∷ []
names_more places e = map-append (λ (p : List ℕ × ℕ). p.0) places (e ∷ [])

pub kept_with_one_more : (base : Option (List ℕ)) (base_offsets : List (List ℕ × ℕ)) (own : List ℕ)
    (places : List (List ℕ × ℕ)) (name : List ℕ) (at : ℕ)
    → IsKept base base_offsets own places
    → at ≡ next_offset (record { base = base; own = names_of places }) → at ≤ 0x00ff_ffff
    → IsKept base base_offsets ((own ++ name) ++ 0 ∷ []) (places ++ (name, at) ∷ [])
unfolding own_section
kept_with_one_more base base_offsets own places name at kept is near =
    record {
      section = kept.section;
      index = kept.index;
      bytes =
          append_assoc own name (0 ∷ [])
          ∙ ap (λ (xs : List ℕ). xs ++ (name ++ 0 ∷ [])) kept.bytes
          ∙ flat_map_more with_nul (first_string base) (names_of places) name
          ∙ ap (λ (ns : List (List ℕ)). first_string base ++ flat_map with_nul ns)
          (sym (names_more places (name, at)));
      placed = placed_more (first_offset base) places (name, at) kept.placed
          (is ∙ next_is (record { base = base; own = names_of places })) near;
    }

-- what the table shows with one name more
pub view_with_one_more : (t : Names) (base : Option (List ℕ))
    (places more : List (List ℕ × ℕ)) (name : List ℕ) (at : ℕ)
    → record { base = base; own = names_of places } ≡ t → more ≡ places ++ (name, at) ∷ []
    → record { base = base; own = names_of more } ≡ record t { own = t.own ++ name ∷ [] }
view_with_one_more t base places more name at view e =
    ap (λ (es : List (List ℕ × ℕ)).
    let n : Names = record { base = base; own = names_of es } in n) e
    ∙ ap (λ (ns : List (List ℕ)). let n : Names = record { base = base; own = ns } in
    n) (names_more places (name, at))
    ∙ ap (λ (s : Names). let n : Names = record s { own = s.own ++ name ∷ [] } in n) view

-- where a name is looked up
pub found_in_base : (base : Option (List ℕ)) (base_offsets : List (List ℕ × ℕ)) (own : List ℕ)
    (places : List (List ℕ × ℕ)) (name : List ℕ) (v : ℕ)
    → IsKept base base_offsets own places → 0 < length name → value_of name base_offsets ≡ Some v
    → Some v ≡ offset_of (record { base = base; own = names_of places }) name
found_in_base base base_offsets own places name v kept some e =
    let b : base_offset base name ≡ Some v = sym (kept.index name) ∙ e in
    sym (offset_is (record { base = base; own = names_of places }) name some ∙ rw b refl)

pub found_in_own : (base : Option (List ℕ)) (base_offsets : List (List ℕ × ℕ)) (own : List ℕ)
    (places : List (List ℕ × ℕ)) (name : List ℕ)
    → IsKept base base_offsets own places → 0 < length name → value_of name base_offsets ≡ None
    → value_of name places ≡ offset_of (record { base = base; own = names_of places }) name
found_in_own base base_offsets own places name kept some e =
    let b : base_offset base name ≡ None = sym (kept.index name) ∙ e in
    value_is (first_offset base) places name kept.placed
    ∙ sym (offset_is (record { base = base; own = names_of places }) name some ∙ rw b refl)

-- each offset fits a word
narrow_base : (base : Option (List ℕ)) (name : List ℕ) (at : ℕ) → IfSome base IsSection
    → base_offset base name ≡ Some at → at < 2 ^ 32
narrow_base None name at section e = cc
narrow_base (Some bytes) name at section e = let h =
    least_passes (stands_whole bytes name) (length bytes) at e in omega (arith, h.1, section.few)

narrow_some : (base : Option (List ℕ)) (base_offsets : List (List ℕ × ℕ)) (own : List ℕ)
    (places : List (List ℕ × ℕ)) (name : List ℕ) (at : ℕ) (o : Option ℕ)
    → IsKept base base_offsets own places → base_offset base name ≡ o → option_or o
    (offset_among (first_offset base) (names_of places) name) ≡ Some at → at < 2 ^ 32
narrow_some base base_offsets own places name at None kept is e = let h =
    offset_near (first_offset base) places name at kept.placed e in omega (arith, h)
narrow_some base base_offsets own places name at (Some x) kept is e =
    narrow_base base name at kept.section (is ∙ e)

offset_fits : (base : Option (List ℕ)) (base_offsets : List (List ℕ × ℕ)) (own : List ℕ)
    (places : List (List ℕ × ℕ)) (name : List ℕ) (at : ℕ)
    → IsKept base base_offsets own places
    → offset_of (record { base = base; own = names_of places }) name ≡ Some at → at < 2 ^ 32
unfolding offset_of
offset_fits base base_offsets own places [] at kept e = let z : at ≡ 0 = cc in omega (arith, z)
offset_fits base base_offsets own places (b ∷ bs) at kept e =
    narrow_some base base_offsets own places (b ∷ bs) at (base_offset base (b ∷ bs)) kept refl e

pub kept_is_sound : (base : Option (List ℕ)) (base_offsets : List (List ℕ × ℕ)) (own : List ℕ)
    (places : List (List ℕ × ℕ)) → IsKept base base_offsets own places
    → IsSound (record { base = base; own = names_of places })
kept_is_sound base base_offsets own places kept = record {
  section = kept.section;
  narrow = λ (name : List ℕ) (at : ℕ). offset_fits base base_offsets own places name at kept;
}
