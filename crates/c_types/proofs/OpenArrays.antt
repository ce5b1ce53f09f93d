-- An open array comes to its row, one child after the other.
use Rattle.std.proofs.Common.{◌≡◌, not, List, ◌∷◌, ◌++◌, None, refl, sym, ◌∙◌}
use Rattle.std.specs.declared.alloc.Global.{Global}
use Rattle.std.specs.declared.boxed.Box.{Box}
use Rattle.dwarf_forms.specs.Meanings.{Sections}
use Rattle.entry_tree.specs.Items.{Given}
use Rattle.c_types.specs.declared.open.OpenArray.{OpenArray}
use Rattle.c_types.specs.declared.open.OpenType.TheVariants.{Array}
use Rattle.type_attributes.specs.declared.fault.TypeFault.TheVariants.{MissingType, ArrayLength}
use Rattle.type_attributes.specs.Scopes.{Scope}
use Rattle.type_attributes.specs.Faults.{noted, refuse_if}
use Rattle.type_attributes.specs.Attributes.{has, target_attr, target_of_type}
use Rattle.c_types.specs.Taking.{made_if}
use Rattle.c_types.specs.Arrays.{subrange_length, lengths_of, array_row}
use Rattle.c_types.specs.Lengths.{start, extended, is_too_long}
use Rattle.c_types.specs.Opened.{all_lengths, array_by, array_made, array_refused, ComesTo}
use Rattle.type_attributes.proofs.Noting.{noted_append}
use Rattle.c_types.proofs.Lengthening.{extends, refused_is, elements_are}
use Rattle.dwarf_abbrev.specs.declared.constants.TheConstants.{DW_AT_type, DW_TAG_subrange_type}

pub made_is : (o : OpenArray) (kids : List Given)
    → array_made o kids ≡ array_by o (all_lengths o kids)
unfolding array_made
made_is o kids = refl

pub refused_by_length : (o : OpenArray) (kids : List Given) → array_refused o kids
    ≡ noted o.least (refuse_if (is_too_long (all_lengths o kids)) (ArrayLength o.at))
unfolding array_refused
refused_by_length o kids = refl

-- a child is met
module _ (e : Given) (o p : OpenArray) (kids : List Given)
    (g : p.lengths ≡ extended o.lengths (made_if DW_TAG_subrange_type subrange_length e))
    (at : p.at ≡ o.at) where
  lengths_met : all_lengths p kids ≡ all_lengths o (e ∷ kids)
  lengths_met = extends o.lengths p.lengths (all_lengths o (e ∷ kids)) (e ∷ kids) kids e refl g refl

  pub array_met : p.target ≡ o.target → array_made p kids ≡ array_made o (e ∷ kids)
  array_met target = made_is p kids ∙ rw (lengths_met, at, target) (sym (made_is o (e ∷ kids)))

  pub array_met_refused : p.least ≡ o.least → array_refused p kids ≡ array_refused o (e ∷ kids)
  array_met_refused least =
      refused_by_length p kids ∙ rw (lengths_met, at, least) (sym (refused_by_length o (e ∷ kids)))

-- an array begins
pub record IsFresh (c : Sections) (e : Given) (o : OpenArray) : Type 0 where
  pub at : o.at ≡ e.at
  pub target : o.target ≡ target_of_type e.at (target_attr c e)
  pub lengths : o.lengths ≡ start
  pub least : o.least
      ≡ noted None
      ((target_attr c e).refused ++ refuse_if (not (has DW_AT_type e)) (MissingType e.at))

pub array_comes : (s : Scope) (e : Given) (b : Box OpenArray Global) → IsFresh s.sections e b.value
    → ComesTo s (Array b) (array_row s.sections e)
array_comes s e b h =
    let o = b.value in
    record {
      made = λ kids. made_is o kids
          ∙ rw (h.at, h.target, h.lengths, elements_are (lengths_of kids)) refl;
      refused = λ kids.
          refused_by_length o kids
          ∙ rw (h.at, h.lengths, h.least, refused_is (lengths_of kids)) (simp noted_append);
    }
