-- The widths of the layouts of the table are those of numbers.
use Rattle.std.proofs.Common.{◌≡◌, ℕ, ◌==◌, Bool, true, false, List, [], ◌∷◌, Some, if◌then◌else◌}
use Rattle.std.proofs.Common.{subst, arith}
use Rattle.std.specs.Prelude.{⊤}
use Rattle.std.specs.Map.{lookup}
use Rattle.dwarf_forms.specs.declared.layout.FormLayout.{FormLayout}
use Rattle.dwarf_forms.specs.Forms.{rows, layout_of, HasWidth, HasWidths}

-- each row of a list has widths of numbers
abbrev pub AllWide : List (ℕ × FormLayout) → Type 0
AllWide [] = ⊤
AllWide (r ∷ rs) = HasWidths r.1 × AllWide rs

one : (form : ℕ) (r : ℕ × FormLayout) (rs : List (ℕ × FormLayout)) (l : FormLayout) (t : Bool)
    → HasWidths r.1
    → (lookup (λ (f : ℕ). form == f) rs ≡ Some l → HasWidths l)
    → (if t then Some r.1 else lookup (λ (f : ℕ). form == f) rs) ≡ Some l → HasWidths l
one form r rs l true h ih e = let q : r.1 ≡ l = cc in subst HasWidths q h
one form r rs l false h ih e = ih e

found : (form : ℕ) (rs : List (ℕ × FormLayout)) (l : FormLayout) → AllWide rs
    → lookup (λ (f : ℕ). form == f) rs ≡ Some l → HasWidths l
found form [] l h e = cc
found form (r ∷ rs) l h e = one form r rs l (form == r.0) h.0
    (λ (e : lookup (λ (f : ℕ). form == f) rs ≡ Some l). found form rs l h.1 e) e

all_wide : (o a : ℕ) → HasWidth o → HasWidth a → AllWide (rows o a)
all_wide o a ho ha =
    let n1 : HasWidth 1 = (omega arith, omega arith) in
    let n2 : HasWidth 2 = (omega arith, omega arith) in
    let n3 : HasWidth 3 = (omega arith, omega arith) in
    let n4 : HasWidth 4 = (omega arith, omega arith) in
    let n8 : HasWidth 8 = (omega arith, omega arith) in (
      ha,
      (
        n2,
        (
          n4,
          (
            n2,
            (
              n4,
              (
                n8,
                (
                  tt,
                  (
                    tt,
                    (
                      n1,
                      (
                        n1,
                        (
                          tt,
                          (
                            tt,
                            (
                              ho,
                              (
                                tt,
                                (
                                  ho,
                                  (
                                    n1,
                                    (
                                      n2,
                                      (
                                        n4,
                                        (
                                          n8,
                                          (
                                            tt,
                                            (
                                              ho,
                                              (
                                                tt,
                                                (
                                                  tt,
                                                  (
                                                    tt,
                                                    (
                                                      tt,
                                                      (
                                                        n4,
                                                        (
                                                          ho,
                                                          (
                                                            tt,
                                                            (
                                                              ho,
                                                              (
                                                                n8,
                                                                (
                                                                  tt,
                                                                  (
                                                                    tt,
                                                                    (
                                                                      tt,
                                                                      (
                                                                        n8,
                                                                        (
                                                                          n1,
                                                                          (
                                                                            n2,
                                                                            (
                                                                              n3,
                                                                              (
                                                                                n4,
                                                                                (
                                                                                  n1,
                                                                                  (
                                                                                    n2,
                                                                                    (
                                                                                      n3,
                                                                                      (
                                                                                        n4,
                                                                                        (ho, (ho, tt)),
                                                                                      ),
                                                                                    ),
                                                                                  ),
                                                                                ),
                                                                              ),
                                                                            ),
                                                                          ),
                                                                        ),
                                                                      ),
                                                                    ),
                                                                  ),
                                                                ),
                                                              ),
                                                            ),
                                                          ),
                                                        ),
                                                      ),
                                                    ),
                                                  ),
                                                ),
                                              ),
                                            ),
                                          ),
                                        ),
                                      ),
                                    ),
                                  ),
                                ),
                              ),
                            ),
                          ),
                        ),
                      ),
                    ),
                  ),
                ),
              ),
            ),
          ),
        ),
      ),
    )

pub has_widths : (o a form : ℕ) (l : FormLayout) → HasWidth o → HasWidth a
    → layout_of o a form ≡ Some l
    → HasWidths l
has_widths o a form l ho ha e = found form (rows o a) l (all_wide o a ho ha) e
