-- What one step makes of what was read so far.
use Rattle.std.proofs.Common.{◌≡◌, ℕ, ◌<◌, ◌≤◌, ◌+◌, ◌==◌, List, [], ◌∷◌, ◌++◌, length, Option}
use Rattle.std.proofs.Common.{None, Some, if◌then◌else◌, refl, sym, ap, ◌∙◌, subst, arith, false}
use Rattle.std.specs.Prelude.{slice_set}
use Rattle.std.proofs.lemmas.List.{length-append, length-set}
use Rattle.std.proofs.lemmas.List.Elements.{All-weaker, All-pop, All-push}
use Rattle.entry_tree.specs.Items.{Given}
use Rattle.c_types.specs.declared.open.Open.{Open}
use Rattle.c_types.specs.declared.open.OpenType.{OpenType}
use Rattle.type_attributes.specs.declared.source.SourceType.{SourceType}
use Rattle.type_attributes.specs.declared.source.Target.{Target}
use Rattle.type_attributes.specs.declared.fault.TypeFault.{TypeFault}
use Rattle.type_attributes.specs.Scopes.{Scope}
use Rattle.type_attributes.specs.Faults.{noted, joined}
use Rattle.type_attributes.specs.Children.{children_of}
use Rattle.type_attributes.specs.Labels.{Row}
use Rattle.c_types.specs.Opened.{kept_made, kept_refused, ComesTo}
use Rattle.c_types.specs.Walking.{filled, least_of, made_at, refused_at, AreNested}
use Rattle.c_types.specs.Walking.{AreAbove, IsSameOpen, own_of, pointed_at}
use Rattle.c_types.specs.Readings.{Read, IsStack, Joins, Begins, Settles, Meets, Takes, TakesRow}
use Rattle.c_types.proofs.Joining.{joined_noted}
use Rattle.c_types.proofs.Stack.{made_is, refused_is, taken_filled, taken_least, begun_filled}
use Rattle.c_types.proofs.Stack.{begun_least, came_least, nested_push, nested_pop, closed_filled}
use Rattle.c_types.proofs.Stack.{closed_least, met_filled, met_least}
use Rattle.c_types.specs.declared.open.OpenPointer.{OpenPointer}
use Rattle.c_types.specs.declared.open.OpenType.TheVariants.{Pointer}
use Rattle.type_attributes.specs.declared.source.Target.TheVariants.{Entry}
use Rattle.c_types.specs.Opened.{pointer_by}
use Rattle.c_types.specs.Pointers.{tag_in, tag_made}
use Rattle.c_types.specs.Types.{listed}
use Rattle.c_types.specs.Walking.{pointer_in}
use Rattle.c_types.specs.Readings.{TakesTag, TakesRowOf}
use Rattle.c_types.proofs.OpenPointers.{tag_untold}
use Rattle.c_types.proofs.Pointing.{stands_out, is_pointer, unkept, tag_row, tag_comes, tag_filled}
use Rattle.c_types.proofs.Pointing.{tag_least, tag_pointed}
use Rattle.type_attributes.specs.declared.fault.TypeFault.TheVariants.{Memory}
use Rattle.c_types.specs.declared.open.LastPointer.{LastPointer}
use Rattle.c_types.specs.Readings.{types_with, least_with, with_pointer, IsFirst, IsKept}
use Rattle.std.proofs.lemmas.List.{append-nil}
use Rattle.std.proofs.lemmas.Option.{none-some, same_Some}
use Rattle.type_attributes.specs.Attributes.{target_attr}
use Rattle.c_types.specs.Pointers.{own_target, pointer_row}
use Rattle.c_types.specs.Types.{made_in, refused_in, row_of}
use Rattle.c_types.specs.Rows.{StartsOne}
use Rattle.c_types.specs.declared.rows.RowStart.TheVariants.{Parent, Whole}
use Rattle.dwarf_abbrev.specs.declared.constants.TheConstants.{DW_TAG_pointer_type}
use Rattle.c_types.specs.Walking.{opened_pointer}
use Rattle.c_types.specs.Readings.{pointer_at}
use Rattle.c_types.proofs.Pointing.{pointer_comes}
use Rattle.c_types.proofs.Stack.{none_above}
use Rattle.c_types.proofs.Pointing.{last_filled, last_least, last_pointed}
use Rattle.c_types.proofs.Pointing.{pointed_push, pointed_pop, pointed_replaced, pointed_unopened}

-- more places are taken
pub stack_more : (os : List Open) (types more : List SourceType) (t : SourceType)
    → IsStack (length types) os → more ≡ types ++ t ∷ [] → IsStack (length more) os
stack_more os types more t h is =
    let longer : length more ≡ length types + 1 =
    ap (λ (ts : List SourceType). length ts) is ∙ length-append types (t ∷ []) in
    record {
      nested = h.nested;
      placed = All-weaker (λ (o : Open). o.index < length types) (λ (o : Open). o.index
          < length more) (λ (o : Open) (lt : o.index < length types). omega (arith, lt, longer)) os
          h.placed;
    }

-- a type begins
pub stack_push : (os ps : List Open) (o : Open) (types more : List SourceType) (t : SourceType)
    → IsStack (length types) os → AreAbove o.depth os → o.index ≡ length types
    → more ≡ types ++ t ∷ [] → ps ≡ os ++ o ∷ [] → IsStack (length more) ps
stack_push os ps o types more t h above index is opens =
    let wide = stack_more os types more t h is in
    let longer : length more ≡ length types + 1 =
    ap (λ (ts : List SourceType). length ts) is ∙ length-append types (t ∷ []) in
    subst (IsStack (length more)) (sym opens)
    (record {
      nested = nested_push os o h.nested above;
      placed = All-push (λ (q : Open). q.index < length more) os o wide.placed
          (omega (arith, index, longer));
    })

abbrev pub opened : ℕ → ℕ → Option TypeFault → OpenType → Open
opened depth index before kept =
    record { depth = depth; index = index; before = before; open_type = kept }

pub begun : (depth index : ℕ) (kept : OpenType) (old : Read) (types : List SourceType)
    (opens : List Open) (t : SourceType) → IsStack (length old.types) old.opens
    → AreAbove depth old.opens → index ≡ length old.types → types ≡ old.types ++ t ∷ []
    → opens ≡ old.opens ++ opened depth index old.current kept ∷ []
    → Begins depth kept old (record { types = types; opens = opens; current = None })
begun depth index kept old types opens t h above at is more =
    let o = opened depth index old.current kept in
    record {
      types = λ s row es comes. let kids = children_of depth es in
          ap (λ (os : List Open). filled s os es types) more
          ∙ begun_filled s old.opens o es old.types types t (row kids).made h.placed at is
          (made_is s o kids ∙ comes.made kids);
      least = λ s row es later comes. let kids = children_of depth es in
          ap (λ (os : List Open). least_of s os es None later) more
          ∙ begun_least s old.opens o es old.current (row kids).refused later refl
          (came_least s o kids old.current (row kids).refused (comes.refused kids));
      pointed = λ d. ap (λ (os : List Open). pointed_at os d) more
          ∙ pointed_push old.opens o d above;
    }

-- a type that is whole joins
pub joins : (one : SourceType) (found next : Option TypeFault) (old : Read)
    (types : List SourceType) → IsStack (length old.types) old.opens → types ≡ old.types ++ one ∷ []
    → next ≡ joined old.current found
    → Joins one found old (record { types = types; opens = old.opens; current = next })
joins one found next old types h is noted =
    record {
      types = λ s es. taken_filled s old.opens es old.types types (one ∷ []) h.placed is;
      current = noted;
      opens = refl;
    }

pub stack_open : (n : ℕ) (os ps : List Open) (o : Open) → IsStack n os → AreAbove o.depth os
    → o.index < n → ps ≡ os ++ o ∷ [] → IsStack n ps
stack_open n os ps o h above lt opens = subst (IsStack n) (sym opens)
    (record {
      nested = nested_push os o h.nested above;
      placed = All-push (λ (q : Open). q.index < n) os o h.placed lt;
    })

-- the last of the open types is complete
pub stack_pop : (os left : List Open) (last : Open) (types : List SourceType)
    → IsStack (length types) os → os ≡ left ++ last ∷ [] → IsStack (length types) left
stack_pop os left last types h is = record {
  nested = (nested_pop left last (subst AreNested is h.nested)).0;
  placed = (All-pop (λ (o : Open). o.index < length types) os left (Some last) is h.placed).0;
}

pub stack_put : (os : List Open) (types : List SourceType) (i : ℕ) (t : SourceType)
    → IsStack (length types) os → IsStack (length (slice_set types i t)) os
stack_put os types i t h = subst (λ (n : ℕ). IsStack n os) (sym (length-set types i t)) h

pub settles_both : (depth : ℕ) (a b c : Read) → Settles depth a b → Settles depth b c
    → Settles depth a c
settles_both depth a b c h k = record {
  types = λ s rest shallow. k.types s rest shallow ∙ h.types s rest shallow;
  least = λ s rest later shallow. k.least s rest later shallow ∙ h.least s rest later shallow;
  pointed = λ d le. k.pointed d le ∙ h.pointed d le;
}

pub completed : (depth : ℕ) (types : List SourceType) (opens left : List Open) (last : Open)
    (current next refused : Option TypeFault) (made : SourceType) → opens ≡ left ++ last ∷ []
    → depth ≤ last.depth → ((s : Scope) → made ≡ kept_made s last.open_type [])
    → ((s : Scope) → refused ≡ kept_refused s last.open_type [])
    → next ≡ joined last.before (joined refused current)
    → Settles depth (record { types = types; opens = opens; current = current })
    (record { types = slice_set types last.index made; opens = left; current = next })
completed depth types opens left last current next refused made items deep is row joined =
    record {
      types = λ s rest shallow.
          closed_filled s left last rest types (slice_set types last.index made)
          (shallow last.depth deep)
          (ap (λ (t : SourceType). slice_set types last.index t) (is s ∙ sym (made_is s last [])))
          ∙ ap (λ (os : List Open). filled s os rest types) (sym items);
      least = λ s rest later shallow.
          closed_least s left last rest refused current next later (shallow last.depth deep)
          (row s ∙ sym (refused_is s last [])) joined
          ∙ ap (λ (os : List Open). least_of s os rest current later) (sym items);
      pointed = λ d le. sym (pointed_pop left last d (omega (arith, le, deep)))
          ∙ ap (λ (os : List Open). pointed_at os d) (sym items);
    }

-- an entry goes by the last of the open types
pub met : (s : Scope) (e : Given) (types : List SourceType) (current : Option TypeFault)
    (left : List Open) (o p : Open) (opens news : List Open) → opens ≡ left ++ o ∷ []
    → news ≡ left ++ p ∷ [] → AreNested opens → AreAbove e.depth opens → IsSameOpen o p
    → own_of p.open_type ≡ own_of o.open_type
    → ((es : List Given)
    → made_at s p (children_of p.depth es) ≡ made_at s o (children_of o.depth (e ∷ es)))
    → ((es : List Given)
    → refused_at s p (children_of p.depth es) ≡ refused_at s o (children_of o.depth (e ∷ es)))
    → Meets s e (record { types = types; opens = opens; current = current })
    (record { types = types; opens = news; current = current })
met s e types current left o p opens news before after nested above same own made refused =
    let n = subst AreNested before nested in
    let all = All-pop (λ (q : Open). q.depth < e.depth) opens left (Some o) before above in
    record {
      types = λ es. ap (λ (os : List Open). filled s os es types) after
          ∙ met_filled s left o p e es types n all.1 same.index (made es)
          ∙ ap (λ (os : List Open). filled s os (e ∷ es) types) (sym before);
      least = λ es later. ap (λ (os : List Open). least_of s os es current later) after
          ∙ met_least s left o p e es current later n all.1 same.before (refused es)
          ∙ ap (λ (os : List Open). least_of s os (e ∷ es) current later) (sym before);
      above = subst (AreAbove e.depth) (sym after) (All-push (λ (q : Open). q.depth < e.depth)
          left p all.0 (subst (λ (d : ℕ). d < e.depth) (sym same.depth) all.1));
      pointed = λ d. ap (λ (os : List Open). pointed_at os d) after
          ∙ pointed_replaced left o p d same.depth own
          ∙ ap (λ (os : List Open). pointed_at os d) (sym before);
    }

-- what stays open while it is so met
pub stack_met : (n : ℕ) (left : List Open) (o p : Open) (opens news : List Open)
    → IsStack n opens → opens ≡ left ++ o ∷ [] → news ≡ left ++ p ∷ [] → IsSameOpen o p
    → IsStack n news
stack_met n left o p opens news h before after same =
    let pops = nested_pop left o (subst AreNested before h.nested) in
    let placed = All-pop (λ (q : Open). q.index < n) opens left (Some o) before h.placed in
    subst (IsStack n) (sym after)
    (record {
      nested = nested_push left p pops.0
          (subst (λ (d : ℕ). AreAbove d left) (sym same.depth) pops.1);
      placed = All-push (λ (q : Open). q.index < n) left p placed.0
          (subst (λ (i : ℕ). i < n) (sym same.index) placed.1);
    })

-- an entry that is whole at once was taken, and one that begins
pub whole_taken : (s : Scope) (depth : ℕ) (one : SourceType) (found : Option TypeFault)
    (made : List Given → List SourceType) (refused : List Given → List TypeFault) (old new : Read)
    → AreAbove depth old.opens → Joins one found old new
    → ((es : List Given) → one ∷ [] ≡ made es)
    → ((es : List Given) → found ≡ noted None (refused es))
    → Takes s depth None made refused old new
whole_taken s depth one found made refused old new above h makes notes =
    record {
      types = λ es. h.types s es
          ∙ ap (λ (ts : List SourceType). filled s old.opens es old.types ++ ts) (makes es);
      least = λ es later. ap (λ (os : List Open). least_of s os es new.current later) h.opens
          ∙ taken_least s old.opens es old.current new.current (refused es) later
          (h.current ∙ ap (λ (x : Option TypeFault). joined old.current x) (notes es)
          ∙ joined_noted old.current None (refused es));
      pointed = λ d. ap (λ (os : List Open). pointed_at os d) h.opens
          ∙ pointed_unopened old.opens depth d above;
    }

pub begun_taken : (s : Scope) (e : Given) (depth : ℕ) (kept : OpenType) (own : Option Target)
    (row : List Given → Row) (old new : Read) → depth ≡ e.depth → own_of kept ≡ own
    → ComesTo s kept row → Begins depth kept old new → TakesRow s e own row old new
begun_taken s e depth kept own row old new same owns comes h =
    record {
      types = λ es. rw same at (h.types s row es comes);
      least = λ es later. rw same at (h.least s row es later comes);
      pointed = λ d. (rw same at (h.pointed d))
          ∙ ap (λ (o : Option Target). if e.depth + 1 == d then o else pointed_at old.opens d) owns;
    }

-- the last open type is no pointer: no tag is told of an entry in it
pub untold : (s : Scope) (opens left : List Open) (last : Open) (found : Option OpenPointer)
    (e : Given) (tag : List ℕ) → opens ≡ left ++ last ∷ [] → AreNested opens
    → AreAbove e.depth opens → found ≡ pointer_in last.open_type
    → ((p : OpenPointer) → found ≡ Some p → ⊥)
    → tag_in s.sections (pointed_at opens e.depth) e ≡ Some tag → ⊥
untold s opens left last found e tag items nested above is other told =
    let low : last.depth < e.depth =
    (All-pop (λ (o : Open). o.depth < e.depth) opens left (Some last) items above).1 in
    let none : pointed_at opens e.depth ≡ None =
    ap (λ (os : List Open). pointed_at os e.depth) items
    ∙ stands_out left last e.depth (subst AreNested items nested) low
    (unkept last.open_type found is other) in
    tag_untold s.sections e tag (pointed_at opens e.depth) none told

abbrev pub tag_open : ℕ → List ℕ → Target → OpenType
tag_open at tag own = Pointer (record { at = at; kind = 18; name = tag; own = own })

-- it is one, whose tag the entry is: what is kept of it refers to the entry, which is kept in its
-- place
pub tag_taken : (s : Scope) (e : Given) (tag : List ℕ) (old new : Read) (left : List Open)
    (last : Open) (q : OpenPointer) (at : ℕ) (made : SourceType) (next : Option TypeFault)
    → old.opens ≡ left ++ last ∷ [] → AreNested old.opens → AreAbove e.depth old.opens
    → pointer_in last.open_type ≡ Some q → at ≡ e.at → made ≡ pointer_by q (Entry q.at at)
    → next ≡ joined last.before old.current
    → Begins last.depth (tag_open at tag q.own)
    (record { types = slice_set old.types last.index made; opens = left; current = next }) new
    → tag_in s.sections (pointed_at old.opens e.depth) e ≡ Some tag → TakesTag s e old new
tag_taken s e tag old new left last q at made next items nested above kept place linked noted h
    told =
    let low : last.depth < e.depth =
    (All-pop (λ (o : Open). o.depth < e.depth) old.opens left (Some last) items above).1 in
    let pointer = is_pointer last.open_type q kept in
    let nest = subst AreNested items nested in
    let told_last : tag_in s.sections (pointed_at (left ++ last ∷ []) e.depth) e ≡ Some tag =
    ap (λ (os : List Open). tag_in s.sections (pointed_at os e.depth) e) (sym items) ∙ told in
    let begun : Begins last.depth (tag_open e.at tag q.own)
    (record { types = slice_set old.types last.index made; opens = left; current = next }) new =
    subst (λ (n : ℕ). Begins last.depth (tag_open n tag q.own)
    (record { types = slice_set old.types last.index made; opens = left; current = next }) new)
    place h in
    let row = tag_row s.sections e.at tag q.own in
    let comes = tag_comes s e.at tag q.own in
    record {
      types = λ es. tag_filled s left last q e tag pointer nest low told_last es new.opens
          old.types (slice_set old.types last.index made) new.types made
          (linked ∙ ap (λ (n : ℕ). pointer_by q (Entry q.at n)) place) refl
          (begun.types s row es comes)
          ∙ ap (λ (os : List Open). filled s os (e ∷ es) old.types
          ++ listed (tag_made s.sections (pointed_at os e.depth) e es)) (sym items);
      least = λ es later. tag_least s left last q e tag pointer nest low told_last es new.opens
          old.current next new.current later noted (begun.least s row es later comes)
          ∙ ap (λ (os : List Open). least_of s os (e ∷ es) old.current later) (sym items);
      pointed = λ d. tag_pointed s left last q e tag pointer nest low told_last d
          (pointed_at new.opens d) (subst (AreAbove e.depth) items above) (begun.pointed d)
          ∙ ap (λ (os : List Open). if e.depth + 1 == d then None else pointed_at os d) (sym items);
    }

-- all that was open is complete
pub ended : (s : Scope) (old new : Read) → Settles 0 old new → AreAbove 0 new.opens
    → (new.types ≡ types_with s old []) × (new.current ≡ least_with s old [] [])
ended s old new h above =
    let none : new.opens ≡ [] = none_above new.opens above in (
      ap (λ (os : List Open). filled s os [] new.types) (sym none) ∙ h.types s [] (λ d k. refl),
      ap (λ (os : List Open). least_of s os [] new.current []) (sym none)
          ∙ h.least s [] [] (λ d k. refl),
    )

pub first_is : (f : TypeFault) (o : Option TypeFault) → o ≡ Some f → IsFirst f o
first_is Memory o h = tt
first_is f o h = h

-- a pointer that was the last entry is open, or complete where an entry does not stand in it
pub settles_last : (depth : ℕ) (r : Read) (p : LastPointer) → IsKept r p → depth ≤ p.depth
    → Settles depth (with_pointer r (Some p)) r
settles_last depth r p kept deep = record {
  types = λ s rest shallow.
      last_filled s r.opens p rest r.types (shallow p.depth deep) (kept.complete s);
  least = λ s rest later shallow. last_least s r.opens p rest r.current later;
  pointed = λ d le. last_pointed r.opens p d depth deep le;
}

-- an entry that has no row, one whose row is open and one whose row is whole
pub none_taken : (s : Scope) (e : Given) (old : Read) → (e.tag == DW_TAG_pointer_type) ≡ false
    → ((es : List Given) → row_of s e es ≡ None) → AreAbove e.depth old.opens
    → TakesRowOf s e old old
none_taken s e old other none above = record {
  types = λ es. sym (append-nil (types_with s old es)) ∙ ap (λ (o : Option Row).
      types_with s old es ++ listed (made_in o)) (sym (none es));
  least = λ es later. ap (λ (o : Option Row). least_with s old es (refused_in o ++ later))
      (sym (none es));
  pointed = λ d. rw other (pointed_unopened old.opens e.depth d above);
}

pub open_taken : (s : Scope) (e : Given) (depth : ℕ) (k : OpenType) (old new : Read)
    → (e.tag == DW_TAG_pointer_type) ≡ false → depth ≡ e.depth
    → StartsOne s e.depth (row_of s e) (Parent k) → Begins depth k old new
    → TakesRowOf s e old new
open_taken s e depth k old new other same start b =
    let h = begun_taken s e depth k None start.row old new same start.starts.own
    start.starts.comes b in
    record {
      types = λ es. h.types es ∙ ap (λ (o : Option Row). types_with s old es ++ listed (made_in o))
          (sym (start.is es));
      least = λ es later. h.least es later ∙ ap (λ (o : Option Row).
          least_with s old es (refused_in o ++ later)) (sym (start.is es));
      pointed = λ d. rw other (h.pointed d);
    }

pub row_taken : (s : Scope) (e : Given) (one : SourceType) (found : Option TypeFault)
    (old new : Read) → (e.tag == DW_TAG_pointer_type) ≡ false
    → StartsOne s e.depth (row_of s e) (Whole one found) → AreAbove e.depth old.opens
    → Joins one found old new → TakesRowOf s e old new
row_taken s e one found old new other start above h =
    let k = whole_taken s e.depth one found (λ es. listed (made_in (row_of s e es)))
    (λ es. refused_in (row_of s e es)) old new above h
    (λ es. ap (λ (t : SourceType). t ∷ []) (start.starts.made (children_of e.depth es))
    ∙ ap (λ (o : Option Row). listed (made_in o)) (sym (start.is es)))
    (λ es. start.starts.refused (children_of e.depth es)
    ∙ ap (λ (o : Option Row). noted None (refused_in o)) (sym (start.is es))) in
    record { types = k.types; least = k.least; pointed = λ d. rw other (k.pointed d) }

-- and a pointer
pub pointer_row_taken : (s : Scope) (e : Given) (old new : Read) → e.tag ≡ DW_TAG_pointer_type
    → TakesRow s e (Some (own_target s.sections e)) (pointer_row s.sections e) old new
    → TakesRowOf s e old new
pointer_row_taken s e old new is h = rw is h

-- a row that needs no children
pub plain_starts : (s : Scope) (depth : ℕ) (o : Option Row) (one : SourceType)
    (found : Option TypeFault) → made_in o ≡ Some one → found ≡ noted None (refused_in o)
    → StartsOne s depth (λ (es : List Given). o) (Whole one found)
plain_starts s depth None one found m n = absurd (none-some one m)
plain_starts s depth (Some r) one found m n = record {
  row = λ kids. r;
  is = λ es. refl;
  starts = record { made = λ kids. sym (same_Some r.made one m); refused = λ kids. n };
}

pub unmade : (row : Option Row) → made_in row ≡ None → row ≡ None
unmade None h = refl
unmade (Some r) h = absurd (none-some r.made (sym h))

-- a pointer was taken
pub pointer_taken : (s : Scope) (e : Given) (depth at : ℕ) (own : Target) (old new : Read)
    → depth ≡ e.depth → at ≡ e.at → own ≡ own_target s.sections e
    → Takes s depth (Some own) (λ es. pointer_at s at own (children_of depth es) ∷ [])
    (λ es. (target_attr s.sections e).refused) old new
    → TakesRow s e (Some (own_target s.sections e)) (pointer_row s.sections e) old new
pointer_taken s e depth at own old new same place owns h =
    let p : LastPointer = record { depth = depth; index = 0; at = at; own = own } in
    record {
      types = λ es. let kids = children_of e.depth es in
          (rw same at (h.types es)) ∙ ap (λ (t : SourceType). types_with s old es ++ t ∷ [])
          (sym (made_is s (opened_pointer p) kids) ∙ pointer_comes s e p kids place owns);
      least = h.least;
      pointed = λ d. (rw same at (h.pointed d)) ∙ ap (λ (t : Target). if e.depth + 1 == d
          then Some t else pointed_at old.opens d) owns;
    }
