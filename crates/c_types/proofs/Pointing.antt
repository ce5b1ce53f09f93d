-- Which open pointer an entry stands in directly, and the pointer that was the last entry.
use Rattle.std.proofs.Common.{◌≡◌, ℕ, ◌+◌, ◌-◌, ◌<◌, ◌≤◌, ◌==◌, Bool, true, false, List, [], ◌∷◌}
use Rattle.std.proofs.Common.{◌++◌, length, Option, None, Some, is_some, if◌then◌else◌, refl, sym}
use Rattle.std.proofs.Common.{ap, ◌∙◌, subst, arith}
use Rattle.std.specs.Prelude.{slice_get, slice_set, take}
use Rattle.std.proofs.lemmas.Bool.{eqb-true, eqb-false, eq-eqb, ne_eqb}
use Rattle.std.proofs.lemmas.Option.{none-some, same_Some, slice_get_within, get_or_from_slice_get}
use Rattle.std.proofs.lemmas.List.Elements.{All-head, All-tail}
use Rattle.std.proofs.Math.Seq.{set-append_seam}
use Rattle.dwarf_forms.specs.Meanings.{Sections}
use Rattle.entry_tree.specs.Items.{Given}
use Rattle.c_types.specs.declared.open.Open.{Open}
use Rattle.c_types.specs.declared.open.OpenType.{OpenType}
use Rattle.c_types.specs.declared.open.OpenType.TheVariants.{Structure, Function, Enumeration}
use Rattle.c_types.specs.declared.open.OpenType.TheVariants.{Array, EmptyFunction}
use Rattle.c_types.specs.declared.open.OpenType.TheVariants.{Pointer}
use Rattle.c_types.specs.declared.open.OpenPointer.{OpenPointer}
use Rattle.c_types.specs.declared.open.LastPointer.{LastPointer}
use Rattle.type_attributes.specs.declared.source.SourceType.{SourceType}
use Rattle.type_attributes.specs.declared.source.Target.{Target}
use Rattle.type_attributes.specs.declared.source.Target.TheVariants.{Entry}
use Rattle.type_attributes.specs.declared.fault.TypeFault.{TypeFault}
use Rattle.type_attributes.specs.Scopes.{Scope}
use Rattle.type_attributes.specs.Faults.{joined}
use Rattle.type_attributes.specs.Children.{children_of}
use Rattle.c_types.specs.Parents.{parent_in}
use Rattle.type_attributes.specs.Attributes.{name_in_full}
use Rattle.type_attributes.specs.Labels.{Row}
use Rattle.c_types.specs.Pointers.{is_type_tag, own_target, link_to, pointer_row, own_of_pointer}
use Rattle.c_types.specs.Pointers.{pointed_in, tag_attr, tag_in, tag_type, tag_made}
use Rattle.c_types.specs.Opened.{pointer_by, pointer_made, kept_made, kept_refused, ComesTo}
use Rattle.c_types.specs.Types.{listed}
use Rattle.c_types.specs.Walking.{made_at, refused_at, filled, least_of, AreNested}
use Rattle.c_types.specs.Walking.{AreAbove, opened_pointer, with_last, IsComplete, pointer_in}
use Rattle.c_types.specs.Walking.{own_of, pointed_at}
use Rattle.c_types.proofs.Stack as stack
use Rattle.c_types.proofs.Stack.{AreFar, above_far, nested_pop, filled_push, least_push, refused_is}
use Rattle.c_types.proofs.Stack.{far_filled, far_least, kids_child, last_split}
use Rattle.c_types.proofs.OpenPointers as pointers
use Rattle.c_types.proofs.OpenPointers.{pointer_linked, tag_told}

push_one : (p o : Open) (d : ℕ) (a x y : Option Target) (t s : Bool) → (p.depth + 1 == d) ≡ t
    → (o.depth + 1 == d) ≡ s → p.depth < o.depth → x ≡ (if s then a else y)
    → (if t then own_of p.open_type else x)
    ≡ (if s then a else (if t then own_of p.open_type else y))
push_one p o d a x y true true e f lt h = let m : p.depth + 1 ≡ d = eqb-true (p.depth + 1) d e in
    let n : o.depth + 1 ≡ d = eqb-true (o.depth + 1) d f in absurd (omega (arith, m, n, lt))
push_one p o d a x y true false e f lt h = refl
push_one p o d a x y false s e f lt h = h

-- one open type more, deeper than all others
pub pointed_push : (os : List Open) (o : Open) (d : ℕ) → AreAbove o.depth os
    → pointed_at (os ++ o ∷ []) d
    ≡ (if o.depth + 1 == d then own_of o.open_type else pointed_at os d)
pointed_push [] o d above = refl
pointed_push (p ∷ os) o d above =
    push_one p o d (own_of o.open_type) (pointed_at (os ++ o ∷ []) d) (pointed_at os d) (p.depth + 1
    == d) (o.depth + 1 == d) refl refl (All-head (λ (q : Open). q.depth < o.depth) p os above)
    (pointed_push os o d (All-tail (λ (q : Open). q.depth < o.depth) p os above))

-- one that is too deep
pub pointed_pop : (os : List Open) (o : Open) (d : ℕ) → d ≤ o.depth
    → pointed_at (os ++ o ∷ []) d ≡ pointed_at os d
pointed_pop [] o d le = let no : (o.depth + 1 == d) ≡ false =
    ne_eqb (o.depth + 1) d (λ (p : o.depth + 1 ≡ d). omega (arith, p, le)) in rw no refl
pointed_pop (p ∷ os) o d le = ap
    (λ (x : Option Target). if p.depth + 1 == d then own_of p.open_type else x)
    (pointed_pop os o d le)

-- none is deep enough
pub pointed_far : (os : List Open) (d : ℕ) → AreFar d os → pointed_at os d ≡ None
pointed_far [] d far = refl
pointed_far (p ∷ os) d far =
    let lt : p.depth + 1 < d = All-head (λ (q : Open). q.depth + 1 < d) p os far in
    let no : (p.depth + 1 == d) ≡ false =
    ne_eqb (p.depth + 1) d (λ (e : p.depth + 1 ≡ d). omega (arith, e, lt)) in
    rw no (pointed_far os d (All-tail (λ (q : Open). q.depth + 1 < d) p os far))

pub pointed_none : (os : List Open) (k : ℕ) → AreAbove k os → pointed_at os (k + 1) ≡ None
pointed_none os k above = pointed_far os (k + 1) (above_far os k (k + 1) (omega arith) above)

unopened : (os : List Open) (k d : ℕ) (t : Bool) → (k + 1 == d) ≡ t → AreAbove k os
    → pointed_at os d ≡ (if t then None else pointed_at os d)
unopened os k d true e above = let p : k + 1 ≡ d = eqb-true (k + 1) d e in
    subst (λ (n : ℕ). pointed_at os n ≡ None) p (pointed_none os k above)
unopened os k d false e above = refl

pub pointed_unopened : (os : List Open) (k d : ℕ) → AreAbove k os
    → pointed_at os d ≡ (if k + 1 == d then None else pointed_at os d)
pointed_unopened os k d above = unopened os k d (k + 1 == d) refl above

-- the last of some that are nested is the only one in which an entry may stand directly
pub pointed_last : (os : List Open) (o : Open) (k : ℕ) → AreNested (os ++ o ∷ []) → o.depth < k
    → pointed_at (os ++ o ∷ []) k ≡ (if o.depth + 1 == k then own_of o.open_type else None)
pointed_last os o k nested lt =
    let above = (nested_pop os o nested).1 in
    pointed_push os o k above
    ∙ ap (λ (x : Option Target). if o.depth + 1 == k then own_of o.open_type
    else x) (pointed_far os k (above_far os o.depth k lt above))

pub pointed_here : (os : List Open) (o : Open) (k : ℕ) → AreNested (os ++ o ∷ []) → o.depth + 1 ≡ k
    → pointed_at (os ++ o ∷ []) k ≡ own_of o.open_type
pointed_here os o k nested one =
    let same : (o.depth + 1 == k) ≡ true = eq-eqb (o.depth + 1) k one in
    pointed_last os o k nested (omega (arith, one)) ∙ rw same refl

some_if : (t : Bool) (own : Target) → is_some (if t then Some own else None) ≡ t
some_if true own = refl
some_if false own = refl

none_if : (t : Bool) → ◌≡◌ {A = Option Target} (if t then None else None) None
none_if true = refl
none_if false = refl

-- where it is a pointer, and where it is none
pub stands_in : (os : List Open) (o : Open) (k : ℕ) (own : Target) → AreNested (os ++ o ∷ [])
    → o.depth < k → own_of o.open_type ≡ Some own
    → is_some (pointed_at (os ++ o ∷ []) k) ≡ (o.depth + 1 == k)
stands_in os o k own nested lt is = ap (λ (x : Option Target). is_some x) (pointed_last os o k
    nested lt ∙ ap (λ (x : Option Target). if o.depth + 1 == k then x else None) is)
    ∙ some_if (o.depth + 1 == k) own

pub stands_out : (os : List Open) (o : Open) (k : ℕ) → AreNested (os ++ o ∷ []) → o.depth < k
    → own_of o.open_type ≡ None → pointed_at (os ++ o ∷ []) k ≡ None
stands_out os o k nested lt is = pointed_last os o k nested lt ∙ ap
    (λ (x : Option Target). if o.depth + 1 == k then x else None) is ∙ none_if (o.depth + 1 == k)

pub no_pointer : (k : OpenType) → ((p : OpenPointer) → k ≡ Pointer p → ⊥) → own_of k ≡ None
no_pointer (Structure o) h = refl
no_pointer (Function o) h = refl
no_pointer (EmptyFunction at) h = refl
no_pointer (Enumeration o) h = refl
no_pointer (Array o) h = refl
no_pointer (Pointer p) h = absurd (h p refl)

pub is_pointer : (k : OpenType) (p : OpenPointer) → pointer_in k ≡ Some p → k ≡ Pointer p
is_pointer (Structure o) p is = absurd (none-some p is)
is_pointer (Function o) p is = absurd (none-some p is)
is_pointer (EmptyFunction at) p is = absurd (none-some p is)
is_pointer (Enumeration o) p is = absurd (none-some p is)
is_pointer (Array o) p is = absurd (none-some p is)
is_pointer (Pointer q) p is = ap (λ (x : OpenPointer). Pointer x) (same_Some q p is)

pub unkept : (k : OpenType) (r : Option OpenPointer) → r ≡ pointer_in k
    → ((p : OpenPointer) → r ≡ Some p → ⊥) → own_of k ≡ None
unkept (Structure o) r is h = refl
unkept (Function o) r is h = refl
unkept (EmptyFunction at) r is h = refl
unkept (Enumeration o) r is h = refl
unkept (Array o) r is h = refl
unkept (Pointer q) r is h = absurd (h q is)

-- the last of a list
pub split_last : (os : List Open) (o : Open) → Some o ≡ slice_get os (length os - 1)
    → os ≡ take (length os - 1) os ++ o ∷ []
split_last os o is =
    let within : length os - 1 < length os = slice_get_within os (length os - 1) o (sym is) in
    last_split os (length os - 1) o (omega (arith, within))
    (sym (get_or_from_slice_get os (length os - 1) o o (sym is)))

-- one in the place of another
pub pointed_replaced : (os : List Open) (o p : Open) (d : ℕ) → p.depth ≡ o.depth
    → own_of p.open_type ≡ own_of o.open_type
    → pointed_at (os ++ p ∷ []) d ≡ pointed_at (os ++ o ∷ []) d
pointed_replaced [] o p d depth own = ap (λ (n : ℕ). if n + 1 == d then own_of p.open_type
    else None) depth ∙ ap (λ (x : Option Target). if o.depth + 1 == d then x else None) own
pointed_replaced (q ∷ os) o p d depth own = ap (λ (x : Option Target). if q.depth + 1 == d
    then own_of q.open_type else x) (pointed_replaced os o p d depth own)

-- a pointer that was the last entry, in which the next one does not stand
joined_none : (x : Option TypeFault) → joined None x ≡ x
joined_none None = refl
joined_none (Some f) = refl

pub last_filled : (c : Scope) (os : List Open) (p : LastPointer) (rest : List Given)
    (types : List SourceType) → children_of p.depth rest ≡ [] → IsComplete c types (Some p)
    → filled c os rest types ≡ filled c (with_last os (Some p)) rest types
last_filled c os p rest types none complete =
    ap (λ (ts : List SourceType). filled c os rest ts) (sym complete)
    ∙ ap (λ (ks : List Given). filled c os rest (slice_set types p.index (made_at c
    (opened_pointer p) ks))) (sym none) ∙ sym (filled_push c os (opened_pointer p) rest types)

pub last_least : (c : Scope) (os : List Open) (p : LastPointer) (rest : List Given)
    (current : Option TypeFault) (later : List TypeFault)
    → least_of c os rest current later ≡ least_of c (with_last os (Some p)) rest current later
last_least c os p rest current later =
    let kids = children_of p.depth rest in
    let own : refused_at c (opened_pointer p) kids ≡ None = refused_is c (opened_pointer p) kids in
    let all : joined None (joined (refused_at c (opened_pointer p) kids) current) ≡ current =
    joined_none (joined (refused_at c (opened_pointer p) kids) current)
    ∙ ap (λ (x : Option TypeFault). joined x current) own ∙ joined_none current in
    ap (λ (x : Option TypeFault). least_of c os rest x later) (sym all)
    ∙ sym (least_push c os (opened_pointer p) rest current later)

pub last_pointed : (os : List Open) (p : LastPointer) (d depth : ℕ) → depth ≤ p.depth → d ≤ depth
    → pointed_at os d ≡ pointed_at (with_last os (Some p)) d
last_pointed os p d depth deep le =
    sym (pointed_pop os (opened_pointer p) d (omega (arith, deep, le)))

-- a pointer becomes the last entry
pub pointer_complete : (c : Scope) (types more : List SourceType) (p : LastPointer) (t : SourceType)
    → more ≡ types ++ t ∷ [] → p.index ≡ length types → made_at c (opened_pointer p) [] ≡ t
    → IsComplete c more (Some p)
pointer_complete c types more p t is index made =
    let m = made_at c (opened_pointer p) [] in
    ap (λ (ts : List SourceType). slice_set ts p.index m) is
    ∙ ap (λ (i : ℕ). slice_set (types ++ t ∷ []) i m) index ∙ set-append_seam types t [] m
    ∙ ap (λ (u : SourceType). types ++ u ∷ []) made ∙ sym is

-- after one entry more the open pointers are those among the entries so far
one_deeper : (c : Sections) (e : Given) (earlier : List Given) (d most : ℕ) (x : Option Target)
    (t : Bool) → (e.depth + 1 == d) ≡ t → e.depth ≤ most → d ≤ e.depth + 1
    → (d ≤ most → x ≡ pointed_in c earlier d)
    → (if t then own_of_pointer c (Some e) else x)
    ≡ own_of_pointer c (if t then Some e else parent_in earlier d)
one_deeper c e earlier d most x true q low le h = refl
one_deeper c e earlier d most x false q low le h = let ne : (e.depth + 1 ≡ d → ⊥) =
    eqb-false (e.depth + 1) d q in h (omega (arith, low, le, ne))

pub pointed_more : (c : Sections) (e : Given) (earlier : List Given) (d most : ℕ)
    (x : Option Target) → e.depth ≤ most → d ≤ e.depth + 1 → (d ≤ most → x ≡ pointed_in c earlier d)
    → (if e.depth + 1 == d then own_of_pointer c (Some e) else x) ≡ pointed_in c (e ∷ earlier) d
pointed_more c e earlier d most x low le h =
    one_deeper c e earlier d most x (e.depth + 1 == d) refl low le h

-- the open pointers are the same up to a depth
chained : (t : Bool) (d k : ℕ) (a x y : Option Target) → (k + 1 == d) ≡ t → d ≤ k + 1
    → (d ≤ k → x ≡ y) → (if t then a else x) ≡ (if t then a else y)
chained true d k a x y e le h = refl
chained false d k a x y e le h = let ne : (k + 1 ≡ d → ⊥) = eqb-false (k + 1) d e in
    h (omega (arith, le, ne))

pub pointed_chain : (k d : ℕ) (a z x y : Option Target) → z ≡ (if k + 1 == d then a else x)
    → d ≤ k + 1 → (d ≤ k → x ≡ y) → z ≡ (if k + 1 == d then a else y)
pointed_chain k d a z x y is le h = is ∙ chained (k + 1 == d) d k a x y refl le h

-- what a pointer comes to
pub pointer_comes : (c : Scope) (e : Given) (p : LastPointer) (kids : List Given) → p.at ≡ e.at
    → p.own ≡ own_target c.sections e
    → made_at c (opened_pointer p) kids ≡ (pointer_row c.sections e kids).made
pointer_comes c e p kids at own = stack.made_is c (opened_pointer p) kids ∙ pointers.made_is
    c.sections (record { at = p.at; kind = 2; name = []; own = p.own }) kids ∙ rw (at, own) refl

pub pointer_alone : (c : Scope) (p : LastPointer) → made_at c (opened_pointer p) []
    ≡ pointer_by (record { at = p.at; kind = 2; name = []; own = p.own }) p.own
pointer_alone c p = stack.made_is c (opened_pointer p) []
    ∙ pointers.made_closed c.sections (record { at = p.at; kind = 2; name = []; own = p.own })

-- what is kept of a tag entry comes to its type, without refusals
abbrev pub tag_row : Sections → ℕ → List ℕ → Target → List Given → Row
tag_row c at name own kids = record {
  made = pointer_made c
      (record { at = at; kind = 18; name = name; own = own }) kids;
  refused = [];
}

pub tag_comes : (c : Scope) (at : ℕ) (name : List ℕ) (own : Target) → ComesTo c (Pointer
    (record { at = at; kind = 18; name = name; own = own })) (tag_row c.sections at name own)
tag_comes c at name own = record { made = λ kids. refl; refused = λ kids. refl }

-- a tag entry: what is kept of its pointer refers to it, and it is kept in its place
module _ (c : Scope) (left : List Open) (o : Open) (q : OpenPointer) (e : Given) (n : List ℕ)
    (kept : o.open_type ≡ Pointer q) (nested : AreNested (left ++ o ∷ [])) (lt : o.depth < e.depth)
    (tag : tag_in c.sections (pointed_at (left ++ o ∷ []) e.depth) e ≡ Some n) where
  own : own_of o.open_type ≡ Some q.own
  own = ap own_of kept

  told : ((o.depth + 1 == e.depth) ≡ true) × (is_type_tag c.sections e ≡ true)
      × (n ≡ name_in_full (tag_attr c.sections e))
  told = tag_told c.sections e n q.own (o.depth + 1 == e.depth)
      (ap (λ (x : Option Target). tag_in c.sections x e) (sym (pointed_last left o e.depth nested lt
      ∙ ap (λ (x : Option Target). if o.depth + 1 == e.depth then x else None) own)) ∙ tag)

  one : o.depth + 1 ≡ e.depth
  one = eqb-true (o.depth + 1) e.depth told.0

  pub pointed_own : pointed_at (left ++ o ∷ []) e.depth ≡ Some q.own
  pointed_own = pointed_here left o e.depth nested one ∙ own

  far : AreFar e.depth left
  far = above_far left o.depth e.depth lt (nested_pop left o nested).1

  -- the type that is complete
  pub done : (es : List Given)
      → made_at c o (children_of o.depth (e ∷ es)) ≡ pointer_by q (Entry q.at e.at)
  done es =
      ap (λ (ks : List Given). made_at c o ks) (kids_child o.depth e es (omega (arith, one)))
      ∙ stack.made_is c o (e ∷ children_of o.depth es)
      ∙ ap (λ (k : OpenType). kept_made c k (e ∷ children_of o.depth es)) kept
      ∙ pointer_linked c.sections e q (children_of o.depth es) told.1

  -- and the new one
  new_made : (es : List Given) → (tag_row c.sections e.at n q.own (children_of o.depth es)).made
      ∷ [] ≡ listed (tag_made c.sections (pointed_at (left ++ o ∷ []) e.depth) e es)
  new_made es =
      let back : o.depth ≡ e.depth - 1 = omega (arith, one) in
      let is : (tag_row c.sections e.at n q.own (children_of o.depth es)).made
      ≡ tag_type c.sections q.own e (children_of (e.depth - 1) es) =
      pointers.made_is c.sections (record { at = e.at; kind = 18; name = n; own = q.own })
      (children_of o.depth es)
      ∙ ap (λ (d : ℕ). pointer_by (record { at = e.at; kind = 18; name = n; own = q.own })
      (link_to c.sections e.at q.own (children_of d es))) back
      ∙ ap (λ (m : List ℕ). pointer_by (record { at = e.at; kind = 18; name = m; own = q.own })
      (link_to c.sections e.at q.own (children_of (e.depth - 1) es))) told.2 in
      ap (λ (t : SourceType). t ∷ []) is
      ∙ ap (λ (x : Option Target). listed (tag_made c.sections x e es)) (sym pointed_own)

  pub tag_filled : (es : List Given) (ps : List Open) (types more next : List SourceType)
      (made : SourceType) → made ≡ pointer_by q (Entry q.at e.at)
      → more ≡ slice_set types o.index made
      → filled c ps es next ≡ filled c left es more
      ++ (tag_row c.sections e.at n q.own (children_of o.depth es)).made ∷ []
      → filled c ps es next ≡ filled c (left ++ o ∷ []) (e ∷ es) types
      ++ listed (tag_made c.sections (pointed_at (left ++ o ∷ []) e.depth) e es)
  tag_filled es ps types more next made linked is begun =
      let old : filled c left es more ≡ filled c (left ++ o ∷ []) (e ∷ es) types =
      ap (λ (ts : List SourceType). filled c left es ts)
      (is ∙ ap (λ (t : SourceType). slice_set types o.index t) (linked ∙ sym (done es)))
      ∙ far_filled c left e es (slice_set types o.index (made_at c o
      (children_of o.depth (e ∷ es)))) far ∙ sym (filled_push c left o (e ∷ es) types) in
      begun ∙ ap (λ (ts : List SourceType).
      ts ++ (tag_row c.sections e.at n q.own (children_of o.depth es)).made ∷ []) old ∙ ap
      (λ (ts : List SourceType). filled c (left ++ o ∷ []) (e ∷ es) types ++ ts) (new_made es)

  pub tag_least : (es : List Given) (ps : List Open) (current more next : Option TypeFault)
      (later : List TypeFault) → more ≡ joined o.before current
      → least_of c ps es next later ≡ least_of c left es more later
      → least_of c ps es next later ≡ least_of c (left ++ o ∷ []) (e ∷ es) current later
  tag_least es ps current more next later is begun =
      let kids = children_of o.depth (e ∷ es) in
      let none : refused_at c o (children_of o.depth (e ∷ es)) ≡ None =
      refused_is c o (children_of o.depth (e ∷ es))
      ∙ ap (λ (k : OpenType). kept_refused c k (children_of o.depth (e ∷ es))) kept in
      let all : joined o.before current
      ≡ joined o.before (joined (refused_at c o (children_of o.depth (e ∷ es))) current) =
      ap (λ (x : Option TypeFault). joined o.before x)
      (sym (ap (λ (x : Option TypeFault). joined x current) none ∙ joined_none current)) in
      begun ∙ far_least c left e es more later far ∙ ap (λ (x : Option TypeFault). least_of c left
      (e ∷ es) x later) (is ∙ all) ∙ sym (least_push c left o (e ∷ es) current later)

  pub tag_pointed : (d : ℕ) (x : Option Target) → AreAbove e.depth (left ++ o ∷ [])
      → x ≡ (if o.depth + 1 == d then Some q.own else pointed_at left d)
      → x ≡ (if e.depth + 1 == d then None else pointed_at (left ++ o ∷ []) d)
  tag_pointed d x above is =
      is ∙ sym (pointed_push left o d (nested_pop left o nested).1
      ∙ ap (λ (y : Option Target). if o.depth + 1 == d then y else pointed_at left d) own)
      ∙ pointed_unopened (left ++ o ∷ []) e.depth d above
