-- Names have no NUL: they are texts of sections, which end before one, or values of their own.
use Rattle.std.proofs.Common.{◌≡◌, ◌≢◌, ℕ, ◌==◌, ◌||◌, Bool, true, false, List, [], ◌∷◌}
use Rattle.std.proofs.Common.{Option, None, Some, Result, Ok, Err, refl, subst}
use Rattle.std.specs.Option.{option_map}
use Rattle.std.proofs.lemmas.Bool.{eqb-false}
use Rattle.std.proofs.lemmas.List.Elements.{All-nil, All-cons}
use Rattle.dw_base.specs.Numbers.{number_of}
use Rattle.dw_base.specs.Texts.{text_of, HasNoNul}
use Rattle.dwarf_forms.specs.declared.fault.FormFault.{FormFault}
use Rattle.dwarf_forms.specs.declared.layout.NumberClass.{NumberClass}
use Rattle.dwarf_forms.specs.declared.layout.NumberClass.TheVariants.{Strp, LineStrp, Strx}
use Rattle.dwarf_forms.specs.Values.{Plain, Shown}
use Rattle.dwarf_forms.specs.Values.Plain.{number, text}
use Rattle.dwarf_forms.specs.Meanings.{Sections, or_out, string_at, through, number_name}
use Rattle.dwarf_forms.specs.Meanings.{plain_name, name_in}
use Rattle.entry_tree.specs.Items.{Given}
use Rattle.entry_tree.specs.Reads.{value_with}
use Rattle.type_attributes.specs.Attributes.{attr_of, text_attr, name_attr, name_in_full}
use Rattle.dwarf_abbrev.specs.declared.constants.TheConstants.{DW_AT_name}
use Rattle.dw_base.proofs.Texts.{text_of_no_nul}

-- a text that is an entry's own value has no NUL
abbrev pub IsNamedCleanly : Given → Type 0
IsNamedCleanly e = (attribute : ℕ) (v : Shown) (t : List ℕ) → value_with attribute e.values ≡ Some v
    → v.value ≡ text t → HasNoNul t

out_clean : (offset : ℕ) (n : List ℕ) (o : Option (List ℕ))
    → ((t : List ℕ) → o ≡ Some t → HasNoNul t) → or_out offset o ≡ Ok n → HasNoNul n
out_clean offset n None clean e = cc
out_clean offset n (Some t) clean e = let q : t ≡ n = cc in subst HasNoNul q (clean t refl)

string_clean : (section n : List ℕ) (offset : ℕ) → string_at section offset ≡ Ok n → HasNoNul n
string_clean section n offset e = out_clean offset n (text_of section offset)
    (λ (t : List ℕ) (h : text_of section offset ≡ Some t). text_of_no_nul section t offset h) e

through_clean : (strings n : List ℕ) (index : ℕ) (o : Option ℕ) → through strings index o ≡ Ok n
    → HasNoNul n
through_clean strings n index None e = cc
through_clean strings n index (Some offset) e = string_clean strings n offset e

number_clean : (c : Sections) (attribute form : ℕ) (kind : NumberClass) (k : ℕ) (n : List ℕ)
    → number_name c attribute form kind k ≡ Ok n → HasNoNul n
number_clean c attribute form Strp k n e = string_clean c.strings n k e
number_clean c attribute form LineStrp k n e = string_clean c.line_strings n k e
number_clean c attribute form Strx k n e =
    through_clean c.strings n k (number_of c.str_offsets _ c.offset_bytes c.order) e
number_clean c attribute form other k n e = cc

plain_clean : (c : Sections) (attribute form : ℕ) (p : Plain) (n : List ℕ)
    → ((t : List ℕ) → p ≡ text t → HasNoNul t) → plain_name c attribute form p ≡ Ok n → HasNoNul n
plain_clean c attribute form (text t) n clean e = let q : t ≡ n = cc in
    subst HasNoNul q (clean t refl)
plain_clean c attribute form (number kind k) n clean e = number_clean c attribute form kind k n e
plain_clean c attribute form other n clean e = cc

said_clean : (at : ℕ) (r : Result (List ℕ) FormFault) → ((n : List ℕ) → r ≡ Ok n → HasNoNul n)
    → HasNoNul (name_in_full (attr_of at (Some r)))
said_clean at (Ok n) clean = clean n refl
said_clean at (Err f) clean = All-nil (λ (byte : ℕ). byte ≢ 0)

value_clean : (c : Sections) (attribute at : ℕ) (o : Option Shown)
    → ((v : Shown) (t : List ℕ) → o ≡ Some v → v.value ≡ text t → HasNoNul t)
    → HasNoNul (name_in_full (attr_of at (option_map (name_in c attribute) o)))
value_clean c attribute at None clean = All-nil (λ (byte : ℕ). byte ≢ 0)
value_clean c attribute at (Some v) clean =
    said_clean at (name_in c attribute v)
    (λ (n : List ℕ) (h : name_in c attribute v ≡ Ok n). plain_clean c attribute v.form v.value n
    (λ (t : List ℕ) (is : v.value ≡ text t). clean v t refl is) h)

pub text_clean_of : (attribute : ℕ) (c : Sections) (e : Given) → IsNamedCleanly e
    → HasNoNul (name_in_full (text_attr attribute c e))
text_clean_of attribute c e clean =
    value_clean c attribute e.at (value_with attribute e.values) (clean attribute)

pub name_clean : (c : Sections) (e : Given) → IsNamedCleanly e
    → HasNoNul (name_in_full (name_attr c e))
name_clean c e clean = text_clean_of DW_AT_name c e clean

-- a name that is spelled out
abbrev pub some_zero : List ℕ → Bool
some_zero [] = false
some_zero (b ∷ bs) = b == 0 || some_zero bs

one_spelled : (b : ℕ) (bs : List ℕ) (z : Bool) → (b == 0) ≡ z → (some_zero bs ≡ false → HasNoNul bs)
    → (z || some_zero bs) ≡ false → HasNoNul (b ∷ bs)
one_spelled b bs true z later e = absurd (cc)
one_spelled b bs false z later e =
    All-cons (λ (byte : ℕ). byte ≢ 0) b bs (eqb-false b 0 z) (later e)

pub spelled_clean : (name : List ℕ) → some_zero name ≡ false → HasNoNul name
spelled_clean [] e = All-nil (λ (byte : ℕ). byte ≢ 0)
spelled_clean (b ∷ bs) e = one_spelled b bs (b == 0) refl (spelled_clean bs) e
