-- The index of a section's strings, built from its first to its last.
use Rattle.std.proofs.Common.{◌≡◌, ℕ, ◌+◌, ◌-◌, ◌<◌, ◌≤◌, ◌&&◌, Bool, true, List, length, Option}
use Rattle.std.proofs.Common.{None, Some, if◌then◌else◌, sym, ap, ◌∙◌, arith}
use Rattle.std.specs.Option.{option_or}
use Rattle.std.specs.Str.{bytes_eq}
use Rattle.std.proofs.lemmas.Bool.{and_left, and_right}
use Rattle.dw_base.specs.Texts.{text_of}
use Rattle.dw_base.proofs.Texts.{text_within}
use Rattle.btf_strings.specs.Names.{begins_string, is_text, stands_whole, least_below, base_offset}
use Rattle.btf_strings.specs.Kept.{Notes, value_of}
use Rattle.btf_strings.proofs.Least.{least_none, least_step}
use Rattle.btf_strings.proofs.Texts.{none_behind, begins_none_inside, begins_behind}

-- the strings that begin below a place have their least places
pub record IsIndexed (section : List ℕ) (base_offsets : List (List ℕ × ℕ)) (at : ℕ) : Type 0 where
  pub within : at ≤ length section
  pub begins : begins_string section at ≡ true
  pub index : (name : List ℕ) → value_of name base_offsets
      ≡ least_below (stands_whole section name) at

stands_here : (section name text : List ℕ) (at : ℕ) → begins_string section at ≡ true
    → text_of section at ≡ Some text → stands_whole section name at ≡ bytes_eq name text
stands_here section name text at b e = ap (λ (t : Bool). t && is_text name (text_of section at)) b
    ∙ ap (λ (o : Option (List ℕ)). is_text name o) e

pub index_push : (section text : List ℕ) (at : ℕ) (old new : List (List ℕ × ℕ))
    → text_of section at ≡ Some text → IsIndexed section old at → Notes old new text at
    → IsIndexed section new (at + (length text + 1))
index_push section text at old new e kept notes =
    record {
      within = omega (arith, text_within section at text e);
      begins = begins_behind section at text e;
      index = λ (name : List ℕ).
          let s : stands_whole section name at ≡ bytes_eq name text =
          stands_here section name text at kept.begins e in
          let l = least_step (stands_whole section name) at (length text)
          (λ (k : ℕ) (low : at < k) (high : k ≤ at + length text).
          and_left (begins_string section k) (is_text name (text_of section k))
          (begins_none_inside section at text k e low high)) in
          notes name
          ∙ ap (λ (o : Option ℕ). option_or o (if bytes_eq name text then Some at else None))
          (kept.index name)
          ∙ ap (λ (t : Bool). option_or (least_below (stands_whole section name) at)
          (if t then Some at else None)) (sym s)
          ∙ sym l;
    }

pub all_indexed : (section : List ℕ) (at : ℕ) (base_offsets : List (List ℕ × ℕ))
    → text_of section at ≡ None → IsIndexed section base_offsets at → (name : List ℕ)
    → value_of name base_offsets ≡ base_offset (Some section) name
all_indexed section at base_offsets e kept name =
    let n : at + (length section - at) ≡ length section = omega (arith, kept.within) in
    kept.index name
    ∙ sym (least_none (stands_whole section name) at (length section - at)
    (λ (k : ℕ) (low : at ≤ k) (high : k < at + (length section - at)).
    and_right (begins_string section k) (is_text name (text_of section k))
    (ap (λ (o : Option (List ℕ)). is_text name o) (none_behind section at k e low))))
    ∙ ap (λ (m : ℕ). least_below (stands_whole section name) m) n
