-- What is known of the targets of relocation sections.
use Rattle.std.proofs.Common.{◌≡◌, ℕ, Bool, true, false, List, Option, Some, None, refl, sym, ap}
use Rattle.std.proofs.Common.{◌∙◌, if◌then◌else◌}
use Rattle.std.proofs.lemmas.Bool.{eqb-true}
use Rattle.std.proofs.lemmas.Option.{same_Some}
use Rattle.elf_sections.specs.declared.fault.Kind.{Kind}
use Rattle.elf_sections.specs.declared.fault.Kind.TheVariants.{Info, Abbrev, Str, LineStr}
use Rattle.elf_sections.specs.declared.fault.Kind.TheVariants.{StrOffsets}
use Rattle.elf_reloc.specs.Tables.{is_relocation, is_sound, target_of, target_met}
use Rattle.elf_sections.specs.Numbers.{number_at, with_number}
use Rattle.elf_sections.specs.Sections.{is_of}
use Rattle.elf_sections.proofs.Numbered.{with_one}
use Rattle.elf_reloc.specs.Clear.{is_number, is_known, IsClear, AreClear}
use Rattle.elf_reloc.specs.Checks.{first, section_checks}
use Rattle.elf_sections.specs.declared.numbers.SectionNumbers.{SectionNumbers}
use Rattle.elf_reloc.proofs.Sound.{sound_parts, unsound}

nothing_clear : (file : List ℕ) → IsClear file None
nothing_clear file = record { clear = λ (n : ℕ) (e : None ≡ Some n). absurd (cc) }

pub none_clear : (file : List ℕ) → AreClear file (record {
  info = None;
  abbreviations = None;
  text = None;
  line_text = None;
  text_offsets = None;
})
none_clear file = record { each = by }
  where
    none : SectionNumbers
    none =
        record {
          info = None;
          abbreviations = None;
          text = None;
          line_text = None;
          text_offsets = None;
        }

    by : (kind : Kind) → IsClear file (number_at none kind)
    by Info = nothing_clear file
    by Abbrev = nothing_clear file
    by Str = nothing_clear file
    by LineStr = nothing_clear file
    by StrOffsets = nothing_clear file

-- a known section is clear
known_by : (file : List ℕ) (n : ℕ) (o : Option ℕ) → IsClear file o → is_number o n ≡ true
    → target_met file n ≡ false
known_by file n None c e = absurd (cc)
known_by file n (Some k) c e = let same : k ≡ n = eqb-true k n e in
    ap (target_met file) (sym same) ∙ c.clear k refl

pub known_clear : (file : List ℕ) (t : SectionNumbers) (kind : Kind) (n : ℕ) → AreClear file t
    → is_known t kind n ≡ true → target_met file n ≡ false
known_clear file t kind n c e = known_by file n (number_at t kind) (c.each kind) e

one_clear : (file : List ℕ) (n : ℕ) → target_met file n ≡ false → IsClear file (Some n)
one_clear file n e = record {
  clear = λ (k : ℕ) (s : Some n ≡ Some k).
      ap (target_met file) (sym (same_Some n k s)) ∙ e;
}

pub with_clear : (file : List ℕ) (t : SectionNumbers) (other : Kind) (n : ℕ) → AreClear file t
    → target_met file n ≡ false → AreClear file (with_number t other n)
with_clear file t other n c e = record {
  each = λ (kind : Kind).
      rw (with_one t kind other n) (either (is_of kind (Some other)) kind);
}
  where
    either : (b : Bool) (kind : Kind) → IsClear file (if b then Some n else number_at t kind)
    either true kind = one_clear file n e
    either false kind = c.each kind

-- the target of a relocation section whose checks have passed
sound_passed : (file : List ℕ) (i : ℕ) → is_relocation file i ≡ true
    → None ≡ first (section_checks file i) → is_sound file i ≡ true
unfolding section_checks
sound_passed file i is pass = by (is_sound file i) refl
  where
    by : (b : Bool) → is_sound file i ≡ b → is_sound file i ≡ true
    by true e = e
    by false e = absurd (let refused = unsound file i is e in cc)

pub target_clear : (file : List ℕ) (i : ℕ) → is_relocation file i ≡ true
    → None ≡ first (section_checks file i) → target_met file (target_of file i) ≡ false
target_clear file i is pass = (sound_parts file i (sound_passed file i is pass)).apart
