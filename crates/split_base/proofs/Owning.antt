-- The own types of a table: their references, their forms, and the refusals of the table.
use Rattle.std.proofs.Common.{◌≡◌, ◌<◌, ◌≤◌, ◌+◌, ◌-◌, ◌*◌, ◌^◌, ℕ, Bool, List, [], ◌∷◌, Option}
use Rattle.std.proofs.Common.{None, Some, map, take, drop, length, get_or, refl, sym, ◌∙◌, ap}
use Rattle.std.proofs.Common.{subst, arith, cond, All, inl, inr, ◌⊎◌}
use Rattle.std.specs.List.{AllByRecursion, cons_option, filter_map, flat_map, slice_get}
use Rattle.std.specs.Option.{option_map, option_or, option_map_or}
use Rattle.std.proofs.lemmas.Bool.{lt-ltb, le-ltb}
use Rattle.std.proofs.lemmas.List.{take_rest}
use Rattle.std.proofs.lemmas.List.Elements.{All-from_recursion}
use Rattle.std.proofs.lemmas.Option.{get_or_from_slice_get, slice_get_within}
use Rattle.btf_codec.specs.Fields.{fields_of}
use Rattle.btf_strings.specs.Names.{Names, own_section}
use Rattle.c_model.specs.declared.graph.CType.{CType}
use Rattle.c_model.specs.declared.graph.Ref.{Ref}
use Rattle.c_model.specs.declared.graph.Ref.TheVariants.{Void, Node}
use Rattle.c_model.specs.Graph.{Shape, IsBelow, RefersWithin}
use Rattle.c_model.specs.Kinds.{IsWellFormed}
use Rattle.c_model.proofs.Targets.{targets_at-below}
use Rattle.split_base.specs.declared.fault.TableFault.{TableFault}
use Rattle.split_base.specs.declared.fault.TableFault.TheVariants.{TableTooLong, Memory}
use Rattle.split_base.specs.Table.{own_firsts, place_of, source_of, renamed, renamed_type, type_of}
use Rattle.split_base.specs.Table.{own_types, table_of}
use Rattle.split_base.specs.Refusals.{strings_of, types_refusal, names_refusal, length_refusal}
use Rattle.split_base.specs.Refusals.{table_refusal, total_length}
use Rattle.split_base.proofs.Formed.{retargeted_formed}
use Rattle.split_base.proofs.Tables.{own_of_table, place_of-below}

-- what holds of each type that a number gives
all_given : (P : CType → Type 0) (h : ℕ → Option CType) → ((x : ℕ) (t : CType) → h x ≡ Some t → P t)
    → (xs : List ℕ) → AllByRecursion P (filter_map h xs)
all_given P h each [] = tt
all_given P h each (x ∷ xs) = by (h x) refl (all_given P h each xs)
  where
    by : (o : Option CType) → h x ≡ o → AllByRecursion P (filter_map h xs)
        → AllByRecursion P (cons_option o (filter_map h xs))
    by None e a = a
    by (Some t) e a = (each x t e, a)

renamed_within : (n m : ℕ) (f : ℕ → ℕ) → ((x : ℕ) → x < n → f x < m) → (ts : List Ref)
    → AllByRecursion (IsBelow n) ts → AllByRecursion (IsBelow m) (map (renamed f) ts)
renamed_within n m f h [] b = tt
renamed_within n m f h (Void ∷ ts) b = (tt, renamed_within n m f h ts b.1)
renamed_within n m f h (Node x ∷ ts) b = (h x b.0, renamed_within n m f h ts b.1)

module _ (g : Shape) (p : List ℕ) (covers : length p ≡ length g.nodes)
    (fits : g.base ≤ length g.nodes) where
  pub own_drop : (base : ℕ) (types : List CType) → base ≡ g.base → types ≡ table_of g p
      → drop base types ≡ own_types g p
  own_drop base types b t =
      ap (λ (n : ℕ). drop n types) b ∙ ap (drop g.base) t ∙ own_of_table g p covers fits

  pub own_slice : (base : ℕ) (types : List CType) → base ≡ g.base → types ≡ table_of g p
      → take (length types - base) (drop base types) ≡ own_types g p
  own_slice base types b t = take_rest types base ∙ own_drop base types b t

  pub own_within : RefersWithin (length g.nodes) g.nodes
      → RefersWithin (length (table_of g p)) (own_types g p)
  unfolding own_types
  own_within within = All-from_recursion
      (λ (t : CType). All (IsBelow (length (table_of g p))) t.targets) (own_types g p)
      (all_given (λ (t : CType). All (IsBelow (length (table_of g p))) t.targets) (type_of g p) each
      (own_firsts g p))
    where
      each : (x : ℕ) (t : CType) → type_of g p x ≡ Some t
          → All (IsBelow (length (table_of g p))) t.targets
      each x t e = by (slice_get g.nodes (source_of g p x))
          (targets_at-below (length g.nodes) g.nodes within (source_of g p x)) e
        where
          by : (o : Option CType) → AllByRecursion (IsBelow (length g.nodes)) (option_map_or
              (λ (u : CType). u.targets) o []) → option_map (renamed_type (place_of g p)) o ≡ Some t
              → All (IsBelow (length (table_of g p))) t.targets
          by None b f = absurd (cc)
          by (Some u) b f =
              let is : renamed_type (place_of g p) u ≡ t = cc in
              subst (λ (s : CType). All (IsBelow (length (table_of g p))) s.targets) is
              (All-from_recursion (IsBelow (length (table_of g p)))
              (map (renamed (place_of g p)) u.targets)
              (renamed_within (length g.nodes) (length (table_of g p)) (place_of g p)
              (place_of-below g p covers fits) u.targets b))

  pub own_formed : All IsWellFormed g.nodes → All IsWellFormed (own_types g p)
  unfolding own_types
  own_formed formed = All-from_recursion IsWellFormed (own_types g p)
      (all_given IsWellFormed (type_of g p) each (own_firsts g p))
    where
      each : (x : ℕ) (t : CType) → type_of g p x ≡ Some t → IsWellFormed t
      each x t e = by (slice_get g.nodes (source_of g p x)) refl e
        where
          by : (o : Option CType) → slice_get g.nodes (source_of g p x) ≡ o
              → option_map (renamed_type (place_of g p)) o ≡ Some t → IsWellFormed t
          by None a f = absurd (cc)
          by (Some u) a f =
              let is : renamed_type (place_of g p) u ≡ t = cc in
              let at : get_or g.nodes (source_of g p x) u ≡ u =
              get_or_from_slice_get g.nodes (source_of g p x) u u a in
              subst IsWellFormed is (retargeted_formed (renamed (place_of g p)) u
              (subst IsWellFormed at
              (formed (source_of g p x) u (slice_get_within g.nodes (source_of g p x) u a))))

-- the refusals of a table
module _ (base : Option (List ℕ)) (g : Shape) (p : List ℕ) where
  pub refused_types : (e : TableFault) → (e ≡ Memory) ⊎ (types_refusal (length (table_of g p))
      ≡ Some e) → (e ≡ Memory) ⊎ (table_refusal base g p ≡ Some e)
  unfolding table_refusal
  refused_types e (inl m) = inl m
  refused_types e (inr h) = inr (ap (λ (o : Option TableFault). option_or o
      (option_or (names_refusal base (own_types g p)) (length_refusal base (own_types g p)))) h)

  pub refused_names : (e : TableFault) → types_refusal (length (table_of g p)) ≡ None
      → (e ≡ Memory) ⊎ (names_refusal base (own_types g p) ≡ Some e)
      → (e ≡ Memory) ⊎ (table_refusal base g p ≡ Some e)
  unfolding table_refusal
  refused_names e t (inl m) = inl m
  refused_names e t (inr h) = inr
      (ap (λ (o : Option TableFault). option_or o
      (option_or (names_refusal base (own_types g p)) (length_refusal base (own_types g p)))) t
      ∙ ap (λ (o : Option TableFault). option_or o (length_refusal base (own_types g p))) h)

  -- where the types and the names fit, the length alone refuses
  length_decides : types_refusal (length (table_of g p)) ≡ None
      → names_refusal base (own_types g p) ≡ None
      → table_refusal base g p ≡ length_refusal base (own_types g p)
  unfolding table_refusal
  length_decides t n =
      ap (λ (o : Option TableFault). option_or o
      (option_or (names_refusal base (own_types g p)) (length_refusal base (own_types g p)))) t
      ∙ ap (λ (o : Option TableFault). option_or o (length_refusal base (own_types g p))) n

  -- the strings that were put make the length
  length_of_strings : (strings : Names) → strings ≡ strings_of base (own_types g p)
      → 4 * length (flat_map fields_of (own_types g p)) + length (own_section strings)
      ≡ total_length base (own_types g p)
  length_of_strings strings s =
      ap (λ (v : Names). 4 * length (flat_map fields_of (own_types g p)) + length (own_section v)) s

  pub refused_length : (e : TableFault) (strings : Names) → types_refusal (length (table_of g p))
      ≡ None → names_refusal base (own_types g p) ≡ None → strings ≡ strings_of base (own_types g p)
      → 2 ^ 32 ≤ 4 * length (flat_map fields_of (own_types g p)) + length (own_section strings)
      → e ≡ TableTooLong (4 * length (flat_map fields_of (own_types g p))
      + length (own_section strings)) → table_refusal base g p ≡ Some e
  refused_length e strings t n s far is =
      let total = length_of_strings strings s in
      let long : ℕ = total_length base (own_types g p) in
      length_decides t n
      ∙ ap (λ (b : Bool). cond b (Some (TableTooLong long)) None)
      (lt-ltb (2 ^ 32 - 1) long (omega arith))
      ∙ ap (λ (k : ℕ). Some (TableTooLong k)) (sym total)
      ∙ ap (λ (f : TableFault). Some f) (sym is)

  pub not_refused : (strings : Names) → types_refusal (length (table_of g p)) ≡ None
      → names_refusal base (own_types g p) ≡ None → strings ≡ strings_of base (own_types g p)
      → 4 * length (flat_map fields_of (own_types g p)) + length (own_section strings) < 2 ^ 32
      → table_refusal base g p ≡ None
  not_refused strings t n s near =
      let total = length_of_strings strings s in
      let long : ℕ = total_length base (own_types g p) in
      length_decides t n ∙ ap (λ (b : Bool). cond b (Some (TableTooLong long)) None)
      (le-ltb (2 ^ 32 - 1) long (omega arith))
