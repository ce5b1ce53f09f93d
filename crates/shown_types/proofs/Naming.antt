-- Types by their names, one more at a time.
use Rattle.std.proofs.Common.{◌≡◌, ◌+◌, ◌-◌, ◌<◌, ◌≤◌, ◌++◌, ◌&&◌, ℕ, zero, suc, Bool, true, false}
use Rattle.std.proofs.Common.{cond, List, [], ◌∷◌, Option, None, Some, refl, sym, ap, ◌∙◌, subst}
use Rattle.std.proofs.Common.{arith, length, ⊎_elim, append_assoc}
use Rattle.std.specs.List.{filter, find, range_with_len, slice_get}
use Rattle.std.specs.Map.{lookup}
use Rattle.std.specs.Option.{option_flatten}
use Rattle.std.specs.Str.{bytes_eq}
use Rattle.std.proofs.Math.ListN.{set}
use Rattle.std.proofs.lemmas.Bool.{cases_lt, and_parts}
use Rattle.std.proofs.lemmas.List.{append-nil, length-set}
use Rattle.std.proofs.lemmas.Option.{none-some, same_Some, slice_get_past}
use Rattle.std.proofs.lemmas.Slice.Eq.{bytes_eq-Decides}
use Rattle.c_model.specs.declared.graph.CType.{CType}
use Rattle.dw_base.proofs.Lists.{slice_get_set, slice_get_set_other}
use Rattle.shown_types.specs.Listed.{has_name, is_listed, name_at, places_named}
use Rattle.shown_types.specs.ByName.{AreNamed, first_from, place_of}
use Rattle.shown_types.proofs.Ranges.{range_next}

-- the first place of a name, with one place more before
first_step : (types : List CType) (name : List ℕ) (x : ℕ) → x < length types
    → first_from types name x
    ≡ cond (has_name types name x) (Some x) (first_from types name (x + 1))
first_step types name x lt = ap (find (has_name types name)) (range_next x (length types) lt)

skipped : (types : List CType) (name : List ℕ) (x : ℕ) → x < length types
    → is_listed types x ≡ false → first_from types name x ≡ first_from types name (x + 1)
skipped types name x lt hidden =
    first_step types name x lt ∙ ap (λ (b : Bool).
    cond (b && bytes_eq (name_at types x) name) (Some x) (first_from types name (x + 1))) hidden

taken : (types : List CType) (name : List ℕ) (x : ℕ) → x < length types → is_listed types x ≡ true
    → first_from types name x
    ≡ cond (bytes_eq (name_at types x) name) (Some x) (first_from types name (x + 1))
taken types name x lt showable =
    first_step types name x lt ∙ ap (λ (b : Bool). cond (b && bytes_eq (name_at types x) name)
    (Some x) (first_from types name (x + 1))) showable

above : (x y : ℕ) → x ≤ y → (x ≡ y → ⊥) → x + 1 ≤ y
above x y le ne =
    ⊎_elim (λ (lt : x < y). omega arith) (λ (ge : y ≤ x). absurd (ne (omega arith))) (cases_lt x y)

-- a type that can't be shown
pub named_skip : (types : List CType) (x : ℕ) (first : List (List ℕ × ℕ))
    (next : List (Option ℕ)) → x < length types → is_listed types x ≡ false
    → AreNamed types (x + 1) first next → AreNamed types x first next
named_skip types x first next lt hidden n = record {
  covers = n.covers;
  heads = λ name. n.heads name ∙ sym (skipped types name x lt hidden);
  follows = λ y le showable. n.follows y (above x y le (λ e. let g : true ≡ false = sym showable
      ∙ (ap (is_listed types) (sym e) ∙ hidden) in cc)) showable;
}

-- one that can
pub named_more : (types : List CType) (x : ℕ) (first new : List (List ℕ × ℕ))
    (next : List (Option ℕ)) (later : Option ℕ) (text : List ℕ)
    → x < length types → is_listed types x ≡ true → text ≡ name_at types x
    → later ≡ place_of text first
    → ((q : List ℕ)
    → lookup (λ (k : List ℕ). bytes_eq q k) new ≡ cond (bytes_eq text q)
    (Some x) (lookup (λ (k : List ℕ). bytes_eq q k) first))
    → AreNamed types (x + 1) first next → AreNamed types x new (set next x later)
named_more types x first new next later text lt showable is old updates n = record {
  covers = length-set next x later ∙ n.covers;
  heads = λ name.
      updates name
      ∙ ap (λ (o : Option ℕ). cond (bytes_eq text name) (Some x) o) (n.heads name)
      ∙ ap (λ (t : List ℕ). cond (bytes_eq t name) (Some x) (first_from types name (x + 1))) is
      ∙ sym (taken types name x lt showable);
  follows = λ y le listed. ⊎_elim
      (λ (less : x < y).
      slice_get_set_other next x y later (λ e. omega (arith, less, e))
      ∙ n.follows y (omega arith) listed)
      (λ (ge : y ≤ x).
      let same : x ≡ y = omega arith in
      subst (λ (z : ℕ).
      slice_get (set next x later) z ≡ Some (first_from types (name_at types z) (z + 1))) same
      (slice_get_set next x later (let c = n.covers in omega (arith, c, lt))
      ∙ ap (λ (o : Option ℕ). Some o)
      (old ∙ n.heads text ∙ ap (λ (t : List ℕ). first_from types t (x + 1)) is)))
      (cases_lt x y);
}

-- no type, at first
pub none_named : (types : List CType) (first : List (List ℕ × ℕ)) (next : List (Option ℕ))
    → first ≡ [] → length next ≡ length types → AreNamed types (length types) first next
none_named types first next e c = record {
  covers = c;
  heads = λ name.
      ap (place_of name) e
      ∙ sym (ap (λ (n : ℕ). find (has_name types name) (range_with_len (length types) n))
      (let z : length types - length types ≡ 0 = omega arith in z));
  follows = λ x le showable. absurd (past x le showable);
}
  where
    past : (x : ℕ) → length types ≤ x → is_listed types x ≡ true → ⊥
    past x le showable = let o = slice_get_past types x le in let g : true ≡ false =
        sym showable ∙ rw o refl in cc

-- places by a test
find_no : (p : ℕ → Bool) (a m : ℕ) → find p (range_with_len a m) ≡ None
    → filter p (range_with_len a m) ≡ []
find_no p a zero e = refl
find_no p a (suc m) e = by (p a) e (find_no p (a + 1) m)
  where
    by : (b : Bool) → cond b (Some a) (find p (range_with_len (a + 1) m)) ≡ None
        → (find p (range_with_len (a + 1) m) ≡ None → filter p (range_with_len (a + 1) m) ≡ [])
        → cond b (a ∷ filter p (range_with_len (a + 1) m))
        (filter p (range_with_len (a + 1) m)) ≡ []
    by true e rest = absurd (none-some a (sym e))
    by false e rest = rest e

record IsNext (p : ℕ → Bool) (a m k : ℕ) : Type 0 where
  from : a ≤ k
  below : k < a + m
  holds : p k ≡ true
  rest : filter p (range_with_len a m) ≡ k ∷ filter p (range_with_len (k + 1) (a + m - (k + 1)))

find_yes : (p : ℕ → Bool) (a m k : ℕ) → find p (range_with_len a m) ≡ Some k → IsNext p a m k
find_yes p a zero k e = absurd (none-some k e)
find_yes p a (suc m) k e = by (p a) refl e (find_yes p (a + 1) m k)
  where
    by : (b : Bool) → p a ≡ b → cond b (Some a) (find p (range_with_len (a + 1) m)) ≡ Some k
        → (find p (range_with_len (a + 1) m) ≡ Some k → IsNext p (a + 1) m k) → IsNext p a (suc m) k
    by true is e later =
        let same : a ≡ k = same_Some a k e in
        let count : m ≡ a + suc m - (a + 1) = omega arith in
        subst (IsNext p a (suc m)) same (record {
          from = omega arith;
          below = omega arith;
          holds = is;
          rest = ap (λ (b : Bool). cond b (a ∷ filter p (range_with_len (a + 1) m))
              (filter p (range_with_len (a + 1) m))) is
              ∙ ap (λ (n : ℕ). a ∷ filter p (range_with_len (a + 1) n)) count;
        })
    by false is e later =
        let n = later e in
        let count : a + 1 + m - (k + 1) ≡ a + suc m - (k + 1) = omega arith in
        record {
          from = let f = n.from in omega (arith, f);
          below = let b = n.below in omega (arith, b);
          holds = n.holds;
          rest = ap (λ (b : Bool). cond b (a ∷ filter p (range_with_len (a + 1) m))
              (filter p (range_with_len (a + 1) m))) is
              ∙ n.rest ∙ ap (λ (n : ℕ). k ∷ filter p (range_with_len (k + 1) n)) count;
        }

-- the places of a name so far, and the next one
pub record IsGoing (types : List CType) (name : List ℕ) (count : ℕ) (all whole : List ℕ)
    (at : Option ℕ) : Type 0 where
  pub from : ℕ
  pub far : count ≤ from
  pub next : at ≡ first_from types name from
  pub rest : all ++ filter (has_name types name) (range_with_len from (length types - from)) ≡ whole

pub going : (types : List CType) (name all : List ℕ) (at : Option ℕ) → at ≡ first_from types name 0
    → IsGoing types name 0 all (all ++ places_named types name) at
unfolding places_named
going types name all at e = record {
  from = 0;
  far = omega arith;
  next = e;
  rest = ap (λ (n : ℕ). all ++ filter (has_name types name) (range_with_len 0 n))
      (let z : length types - 0 ≡ length types = omega arith in z);
}

pub gone : (types : List CType) (name all whole : List ℕ) (count : ℕ)
    → IsGoing types name count all whole None → all ≡ whole
gone types name all whole count g =
    sym (append-nil all) ∙ sym (ap (λ (l : List ℕ). all ++ l)
    (find_no (has_name types name) g.from (length types - g.from) (sym g.next))) ∙ g.rest

pub gone_far : (types : List CType) (name all whole : List ℕ) (count : ℕ) (at : Option ℕ)
    → length types ≤ count → IsGoing types name count all whole at → all ≡ whole
gone_far types name all whole count at le g =
    let none : length types - g.from ≡ 0 = (let f = g.far in omega (arith, f, le)) in
    sym (append-nil all) ∙ sym (ap
    (λ (n : ℕ). all ++ filter (has_name types name) (range_with_len g.from n)) none) ∙ g.rest

pub go_on : (types : List CType) (name all new whole : List ℕ) (count x : ℕ)
    (first : List (List ℕ × ℕ)) (next : List (Option ℕ)) (at : Option ℕ)
    → AreNamed types 0 first next → IsGoing types name count all whole (Some x)
    → new ≡ all ++ x ∷ [] → at ≡ option_flatten (slice_get next x)
    → IsGoing types name (count + 1) new whole at
go_on types name all new whole count x first next at n g pushed is =
    let s = find_yes (has_name types name) g.from (length types - g.from) x (sym g.next) in
    let b = and_parts (is_listed types x) (bytes_eq (name_at types x) name) s.holds in
    let same : name_at types x ≡ name = (bytes_eq-Decides (name_at types x) name).0 b.1 in
    let all_of : g.from + (length types - g.from) - (x + 1) ≡ length types - (x + 1) =
    (let k = s.below in let f = s.from in omega (arith, k, f)) in
    record {
      from = x + 1;
      far = let f = g.far in let k = s.from in omega (arith, f, k);
      next = is ∙ ap option_flatten (n.follows x (omega arith) b.0)
          ∙ ap (λ (t : List ℕ). first_from types t (x + 1)) same;
      rest =
          ap (λ (l : List ℕ). l ++ filter (has_name types name)
          (range_with_len (x + 1) (length types - (x + 1)))) pushed
          ∙ append_assoc all (x ∷ [])
          (filter (has_name types name) (range_with_len (x + 1) (length types - (x + 1))))
          ∙ sym (ap (λ (l : List ℕ). all ++ l) (s.rest
          ∙ ap (λ (m : ℕ). x ∷ filter (has_name types name) (range_with_len (x + 1) m)) all_of))
          ∙ g.rest;
    }
