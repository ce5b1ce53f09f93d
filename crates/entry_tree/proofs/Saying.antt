-- What an item at a place says of the bytes there, and the other way round.
use Rattle.std.proofs.Common.{◌≡◌, ◌≢◌, ℕ, ◌<◌, ◌≤◌, ◌==◌, ◌&&◌, not, nat_le, Bool, true, false}
use Rattle.std.proofs.Common.{List, length, Option, None, Some, Result, Ok, Err, if◌then◌else◌}
use Rattle.std.proofs.Common.{refl, ap, ◌∙◌}
use Rattle.std.proofs.lemmas.Bool.{leb-true, leb-false, le-leb, lt-leb, eqb-true, eqb-false, eq-eqb}
use Rattle.std.proofs.lemmas.Bool.{ne_eqb}
use Rattle.dw_base.specs.Leb128.{uleb_of}
use Rattle.dw_base.specs.declared.leb128.LebFault.{LebFault}
use Rattle.dw_base.specs.declared.leb128.LebFault.TheVariants.{Truncated, TooWide}
use Rattle.dwarf_abbrev.specs.Declarations.{Declaration, declaration_with}
use Rattle.dwarf_forms.specs.declared.fault.FormFault.{FormFault}
use Rattle.dwarf_forms.specs.Values.{Within}
use Rattle.entry_tree.specs.Reads.{ends_at}
use Rattle.entry_tree.specs.Items.{◌>>=◌, Standing, item_at, code_at, of_code, or_missing, of_form}
use Rattle.entry_tree.specs.Items.{is_root}
use Rattle.entry_tree.specs.Items.Standing.{nothing, null, entry}
use Rattle.entry_tree.specs.declared.fault.WalkFault.{WalkFault}
use Rattle.entry_tree.specs.declared.fault.WalkFault.TheVariants.{UnitRoot, TreeOpen, AfterRoot}

-- an entry at a place
pub record SaysEntry (c : Within) (declarations : List Declaration) (first at lists : ℕ)
    (d : Declaration) (from end : ℕ) : Type 0 where
  pub code : ℕ
  pub number : uleb_of c.unit at ≡ Ok (code, from)
  pub some : code ≢ 0
  pub declared : declaration_with code declarations ≡ Some d
  pub values : ends_at c d.specs from ≡ Ok end
  pub root : at ≡ first → is_root d.tag ≡ true
  pub inside : at ≢ first → lists ≢ 0

abbrev pub Says : Within → List Declaration → ℕ → ℕ → ℕ → Result Standing WalkFault → Type 0
Says c declarations first at lists (Err f) = Unit {0}
Says c declarations first at lists (Ok nothing) = (length c.unit ≤ at) × (at ≢ first) × (lists ≡ 0)
Says c declarations first at lists (Ok (null end)) =
    (at < length c.unit) × (uleb_of c.unit at ≡ Ok (0, end)) × (at ≢ first)
Says c declarations first at lists (Ok (entry d from end)) =
    (at < length c.unit) × SaysEntry c declarations first at lists d from end

not_both : (a b : Bool) → (a && not b) ≡ false → a ≡ true → b ≡ true
not_both true true e h = refl
not_both true false e h = absurd (cc)
not_both false b e h = absurd (cc)

not_over : (a b : Bool) → (not a && b) ≡ false → a ≡ false → b ≡ false
not_over true b e h = absurd (cc)
not_over false true e h = absurd (cc)
not_over false false e h = refl

module _ (c : Within) (declarations : List Declaration) (first at lists : ℕ) where
  abbrev pub finish : Declaration → ℕ → Result Standing WalkFault
  finish d from = of_form at (ends_at c d.specs from) >>= λ (end : ℕ). Ok (entry d from end)

  abbrev pub rooted : Declaration → ℕ → Result Standing WalkFault
  rooted d from =
      if at == first && not (is_root d.tag) then Err (UnitRoot at d.tag) else finish d from

  abbrev pub named : ℕ → ℕ → Result Standing WalkFault
  named code from =
      or_missing at code (declaration_with code declarations) >>= λ (d : Declaration). rooted d from

  abbrev pub coded : ℕ → ℕ → Result Standing WalkFault
  coded code from =
      if code == 0
      then (if at == first then Err (UnitRoot at 0) else Ok (null from))
      else (if not (at == first) && lists == 0 then Err (AfterRoot at) else named code from)

  abbrev pub last : Result Standing WalkFault
  last = if at == first then Err (UnitRoot at 0)
      else (if lists == 0 then Ok nothing else Err (TreeOpen at))

  abbrev Say : Result Standing WalkFault → Type 0
  Say r = Says c declarations first at lists r

  say_values : (code from : ℕ) (d : Declaration) (q : Result ℕ FormFault)
      → ends_at c d.specs from ≡ q → at < length c.unit → uleb_of c.unit at ≡ Ok (code, from)
      → code ≢ 0 → declaration_with code declarations ≡ Some d
      → (at ≡ first → is_root d.tag ≡ true) → (at ≢ first → lists ≢ 0)
      → Say (of_form at q >>= λ (end : ℕ). Ok (entry d from end))
  say_values code from d (Ok end) values lt number some declared root inside = (
    lt,
    record {
      code = code;
      number = number;
      some = some;
      declared = declared;
      values = values;
      root = root;
      inside = inside;
    },
  )
  say_values code from d (Err f) values lt number some declared root inside = tt

  say_root : (code from : ℕ) (d : Declaration) (b : Bool) → (at == first && not (is_root d.tag)) ≡ b
      → at < length c.unit → uleb_of c.unit at ≡ Ok (code, from) → code ≢ 0
      → declaration_with code declarations ≡ Some d
      → (at ≢ first → lists ≢ 0) → Say (if b then Err (UnitRoot at d.tag) else finish d from)
  say_root code from d true is lt number some declared inside = tt
  say_root code from d false is lt number some declared inside =
      say_values code from d (ends_at c d.specs from) refl lt number some declared
      (λ (e : at ≡ first). not_both (at == first) (is_root d.tag) is (eq-eqb at first e)) inside

  say_named : (code from : ℕ) (o : Option Declaration) → declaration_with code declarations ≡ o → at
      < length c.unit → uleb_of c.unit at ≡ Ok (code, from) → code ≢ 0 → (at ≢ first → lists ≢ 0)
      → Say (or_missing at code o >>= λ (d : Declaration). rooted d from)
  say_named code from None declared lt number some inside = tt
  say_named code from (Some d) declared lt number some inside =
      say_root code from d (at == first && not (is_root d.tag)) refl lt number some declared inside

  say_over : (code from : ℕ) (b : Bool) → (not (at == first) && lists == 0) ≡ b → at < length c.unit
      → uleb_of c.unit at ≡ Ok (code, from) → code ≢ 0
      → Say (if b then Err (AfterRoot at) else named code from)
  say_over code from true is lt number some = tt
  say_over code from false is lt number some =
      say_named code from (declaration_with code declarations) refl lt number some
      (λ (ne : at ≢ first).
      eqb-false lists 0 (not_over (at == first) (lists == 0) is (ne_eqb at first ne)))

  say_null : (from : ℕ) (b : Bool) → (at == first) ≡ b → at < length c.unit
      → uleb_of c.unit at ≡ Ok (0, from) → Say (if b then Err (UnitRoot at 0) else Ok (null from))
  say_null from true is lt number = tt
  say_null from false is lt number = (lt, number, eqb-false at first is)

  say_code : (code from : ℕ) (b : Bool) → (code == 0) ≡ b → at < length c.unit
      → uleb_of c.unit at ≡ Ok (code, from)
      → Say (if b then (if at == first then Err (UnitRoot at 0) else Ok (null from))
      else (if not (at == first) && lists == 0 then Err (AfterRoot at) else named code from))
  say_code code from true is lt number =
      let zero : code ≡ 0 = eqb-true code 0 is in
      say_null from (at == first) refl lt (number ∙ ap (λ (k : ℕ). Ok (k, from)) zero)
  say_code code from false is lt number =
      say_over code from (not (at == first) && lists == 0) refl lt number (eqb-false code 0 is)

  say_number : (q : Result (ℕ × ℕ) LebFault) → uleb_of c.unit at ≡ q → at < length c.unit
      → Say (of_code at q >>= λ (code : ℕ × ℕ). coded code.0 code.1)
  say_number (Ok x) number lt = say_code x.0 x.1 (x.0 == 0) refl lt number
  say_number (Err Truncated) number lt = tt
  say_number (Err TooWide) number lt = tt

  say_closed : (b : Bool) → (lists == 0) ≡ b → length c.unit ≤ at → at ≢ first
      → Say (if b then Ok nothing else Err (TreeOpen at))
  say_closed true is le ne = (le, ne, eqb-true lists 0 is)
  say_closed false is le ne = tt

  say_last : (b : Bool) → (at == first) ≡ b → length c.unit ≤ at → Say
      (if b then Err (UnitRoot at 0) else (if lists == 0 then Ok nothing else Err (TreeOpen at)))
  say_last true is le = tt
  say_last false is le = say_closed (lists == 0) refl le (eqb-false at first is)

  say_end : (b : Bool) → nat_le (length c.unit) at ≡ b
      → Say (if b then last else (code_at c.unit at >>= λ (code : ℕ × ℕ). coded code.0 code.1))
  say_end true is = say_last (at == first) refl (leb-true (length c.unit) at is)
  say_end false is = say_number (uleb_of c.unit at) refl (leb-false (length c.unit) at is)

  pub item_says : Say (item_at c declarations first at lists)
  unfolding item_at
  item_says = say_end (nat_le (length c.unit) at) refl

  pub null_item : (end : ℕ) → at < length c.unit → uleb_of c.unit at ≡ Ok (0, end) → at ≢ first
      → item_at c declarations first at lists ≡ Ok (null end)
  unfolding item_at
  null_item end lt number ne = rw (lt-leb (length c.unit) at lt, number, ne_eqb at first ne) refl

  pub end_item : length c.unit ≤ at → at ≢ first → lists ≡ 0
      → item_at c declarations first at lists ≡ Ok nothing
  unfolding item_at
  end_item le ne zero =
      rw (le-leb (length c.unit) at le, ne_eqb at first ne, eq-eqb lists 0 zero) refl

  pub root_test : (d : Declaration) → (at ≡ first → is_root d.tag ≡ true) → (b : Bool)
      → (at == first) ≡ b → (b && not (is_root d.tag)) ≡ false
  root_test d root true is = rw (root (eqb-true at first is)) refl
  root_test d root false is = refl

  pub over_test : (at ≢ first → lists ≢ 0) → (b : Bool) → (at == first) ≡ b
      → (not b && lists == 0) ≡ false
  over_test inside true is = refl
  over_test inside false is = ne_eqb lists 0 (inside (eqb-false at first is))

  pub entry_item : (d : Declaration) (from end : ℕ) → at < length c.unit → SaysEntry c declarations
      first at lists d from end → item_at c declarations first at lists ≡ Ok (entry d from end)
  unfolding item_at
  entry_item d from end lt s =
      rw (
        lt-leb (length c.unit) at lt,
        s.number,
        ne_eqb s.code 0 s.some,
        over_test s.inside
            (at == first) refl,
        s.declared,
        root_test d s.root (at == first) refl,
        s.values,
      ) refl
