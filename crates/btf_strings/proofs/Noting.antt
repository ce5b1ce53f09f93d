-- One string more among names and values.
use Rattle.std.proofs.Common.{◌≡◌, ℕ, Bool, true, false, cond, List, None, Some, if◌then◌else◌}
use Rattle.std.proofs.Common.{refl, sym, ap, ◌∙◌}
use Rattle.std.specs.Option.{option_or}
use Rattle.std.specs.Map.{lookup}
use Rattle.std.specs.Str.{bytes_eq}
use Rattle.dw_base.proofs.Texts.{bytes_eq_same, bytes_eq_turned}
use Rattle.dw_base.proofs.Options.{or_none}
use Rattle.btf_strings.specs.Kept.{Notes, value_of}

-- what was looked for is there
noted_at : (name text : List ℕ) (at x : ℕ) (old : List (List ℕ × ℕ)) (t : Bool)
    → value_of text old ≡ Some x → bytes_eq name text ≡ t
    → value_of name old ≡ option_or (value_of name old) (if t then Some at else None)
noted_at name text at x old true found e =
    let v : value_of name old ≡ Some x =
    ap (λ (n : List ℕ). value_of n old) (bytes_eq_same name text e) ∙ found in
    rw v refl
noted_at name text at x old false found e = sym (or_none (value_of name old))

pub noted_before : (text : List ℕ) (at x : ℕ) (old : List (List ℕ × ℕ))
    → value_of text old ≡ Some x → Notes old old text at
noted_before text at x old found name = noted_at name text at x old (bytes_eq name text) found refl

added : (name text : List ℕ) (at : ℕ) (old new : List (List ℕ × ℕ)) (t : Bool) → value_of text
    old ≡ None → bytes_eq name text ≡ t → value_of name new ≡ cond t (Some at) (value_of name old)
    → value_of name new ≡ option_or (value_of name old) (if t then Some at else None)
added name text at old new true missing e new_is =
    let v : value_of name old ≡ None =
    ap (λ (n : List ℕ). value_of n old) (bytes_eq_same name text e) ∙ missing in
    rw v new_is
added name text at old new false missing e new_is = new_is ∙ sym (or_none (value_of name old))

pub noted_now : (text : List ℕ) (at : ℕ) (old new : List (List ℕ × ℕ))
    → value_of text old ≡ None
    → ((q : List ℕ)
    → lookup (λ (k : List ℕ). bytes_eq q k) new ≡ cond (bytes_eq text q)
    (Some at) (lookup (λ (k : List ℕ). bytes_eq q k) old))
    → Notes old new text at
noted_now text at old new missing updates name =
    added name text at old new (bytes_eq name text) missing refl
    (updates name
    ∙ ap (λ (t : Bool). cond t (Some at) (value_of name old)) (bytes_eq_turned text name))
