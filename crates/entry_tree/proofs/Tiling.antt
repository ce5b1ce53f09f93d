-- A walk's entries are those of the tree that the items of a unit are.
use Rattle.std.proofs.Common.{◌≡◌, ◌≢◌, ℕ, zero, suc, ◌+◌, ◌-◌, ◌<◌, ◌≤◌, Bool, true, false, List}
use Rattle.std.proofs.Common.{[], ◌∷◌, ◌++◌, length, Option, None, Some, Result, Ok, Err}
use Rattle.std.proofs.Common.{if◌then◌else◌, refl, sym, ap, subst, ◌∙◌, append_assoc, length-append}
use Rattle.std.proofs.Common.{arith}
use Rattle.std.proofs.lemmas.List.{append-nil}
use Rattle.dw_base.specs.Leb128.{uleb_of}
use Rattle.dw_base.proofs.Ends.{uleb_after}
use Rattle.dwarf_abbrev.specs.Declarations.{Declaration, declaration_with}
use Rattle.dwarf_forms.specs.declared.fault.FormFault.{FormFault}
use Rattle.dwarf_forms.specs.Values.{Shown, Within}
use Rattle.entry_tree.specs.Reads.{values_at, end_of_values}
use Rattle.entry_tree.specs.Items.{Given, Coming, Standing, item_at, coming, coming_from}
use Rattle.entry_tree.specs.Items.{after_item, with_first, opened, listed, is_root}
use Rattle.entry_tree.specs.Items.Standing.{nothing, null, entry}
use Rattle.entry_tree.specs.Tree.{Found, Item, opening, opened_by, closing, closed_by, open_behind}
use Rattle.entry_tree.specs.Tree.{MayStand, IsFound, IsItem, Follow, entry_of, entries_among}
use Rattle.entry_tree.specs.Tree.{IsTree, EntriesAreTree}
use Rattle.entry_tree.specs.declared.fault.WalkFault.{WalkFault}
use Rattle.entry_tree.proofs.Ends.{ends_grow}
use Rattle.entry_tree.proofs.Ahead.{one_item}
use Rattle.entry_tree.proofs.Saying.{Says, SaysEntry, item_says, null_item, end_item, entry_item}

-- counts of a list with one item more
opened_push : (before : List Item) (i : Item)
    → opened_by (before ++ i ∷ []) ≡ opened_by before + opening i.entry
opened_push [] i = omega arith
opened_push (j ∷ js) i = omega (arith, opened_push js i)

closed_push : (before : List Item) (i : Item)
    → closed_by (before ++ i ∷ []) ≡ closed_by before + closing i.entry
closed_push [] i = omega arith
closed_push (j ∷ js) i = omega (arith, closed_push js i)

abbrev null_piece : ℕ → Item
null_piece at = record { at = at; entry = None }

abbrev entry_piece : ℕ → Declaration → List (ℕ × Shown) → Item
entry_piece at d values =
    record { at = at; entry = Some (record { declaration = d; values = values }) }

null_behind : (before : List Item) (at : ℕ)
    → open_behind (before ++ null_piece at ∷ []) ≡ open_behind before - 1
null_behind before at =
    omega (arith, opened_push before (null_piece at), closed_push before (null_piece at))

entry_behind : (before : List Item) (at : ℕ) (d : Declaration) (values : List (ℕ × Shown))
    → closed_by before ≤ opened_by before
    → open_behind (before ++ entry_piece at d values ∷ []) ≡ opened d (open_behind before)
entry_behind before at d values le = by d.children (opened_push before (entry_piece at d values))
    (closed_push before (entry_piece at d values))
  where
    by : (b : Bool) → opened_by (before ++ entry_piece at d values ∷ []) ≡ opened_by before + (if b
        then 1 else 0) → closed_by (before ++ entry_piece at d values ∷ []) ≡ closed_by before + 0
        → open_behind (before ++ entry_piece at d values ∷ [])
        ≡ (if b then open_behind before + 1 else open_behind before)
    by true o k = omega (arith, o, k)
    by false o k = omega (arith, o, k)

-- the items so far begin at the first byte
pub record Begun (first at : ℕ) (before : List Item) : Type 0 where
  pub fresh : length before ≡ 0 → at ≡ first
  pub later : 0 < length before → first < at

few_closed : (first at : ℕ) (before : List Item) → Begun first at before
    → (at ≢ first → open_behind before ≢ 0) → closed_by before ≤ opened_by before
few_closed first at [] begun inside = omega arith
few_closed first at (i ∷ is) begun inside =
    let lt : first < at = begun.later (omega arith) in
    let some : open_behind (i ∷ is) ≢ 0 = inside (λ (e : at ≡ first). omega arith) in omega arith

pub may_stand : (first at : ℕ) (before : List Item) (d : Declaration) → Begun first at before → (at
    ≡ first → is_root d.tag ≡ true) → (at ≢ first → open_behind before ≢ 0) → MayStand before d
may_stand first at [] d begun root inside = root (begun.fresh refl)
may_stand first at (i ∷ is) d begun root inside =
    let lt : first < at = begun.later (omega arith) in
    let some : open_behind (i ∷ is) ≢ 0 = inside (λ (e : at ≡ first). omega arith) in omega arith

pub not_first : (first at : ℕ) (before : List Item) → Begun first at before → 0 < length before
    → at ≢ first
not_first first at before begun some e = let lt : first < at = begun.later some in omega arith

pub some_before : (first at : ℕ) (before : List Item) → Begun first at before → at ≢ first
    → 0 < length before
some_before first at [] begun ne = absurd (ne (begun.fresh refl))
some_before first at (i ∷ is) begun ne = omega arith

pub begun_on : (first at end : ℕ) (before : List Item) (i : Item) → Begun first at before → at < end
    → Begun first end (before ++ i ∷ [])
begun_on first at end before i begun lt =
    let n : length (before ++ i ∷ []) ≡ length before + 1 = length-append before (i ∷ []) in
    record {
      fresh = λ (e : length (before ++ i ∷ []) ≡ 0). absurd (omega arith);
      later = λ (some : 0 < length (before ++ i ∷ [])). by before begun;
    }
  where
    by : (js : List Item) → Begun first at js → first < end
    by [] b = let e : at ≡ first = b.fresh refl in omega arith
    by (j ∷ js) b = let e : first < at = b.later (omega arith) in omega arith

pub read_values : (c : Within) (d : Declaration) (from end : ℕ) (q : Result (List (ℕ × Shown) × ℕ)
    FormFault) → values_at c d.specs from ≡ q → end_of_values q ≡ Ok end → q ≡ Ok (listed q, end)
read_values c d from end (Ok vs) h e = let same : vs.1 ≡ end = cc in
    ap (λ (k : ℕ). Ok (vs.0, k)) same
read_values c d from end (Err f) h e = absurd (cc)

module _ (c : Within) (declarations : List Declaration) (first : ℕ) where
  -- how a walk ends
  abbrev pub Ending : Option WalkFault → ℕ → List Item → Type 0
  Ending None end all = (length c.unit ≤ end) × (open_behind all ≡ 0) × (0 < length all)
  Ending (Some f) end all = item_at c declarations first end (open_behind all) ≡ Err f

  -- what comes behind some items is the entries of the items that follow
  pub record Comes (before : List Item) (at : ℕ) (r : Coming) : Type 0 where
    pub items : List Item
    pub end : ℕ
    pub follow : Follow c declarations before at items end
    pub entries : r.entries ≡ entries_among before items
    pub ending : Ending r.ending end (before ++ items)

  stops : (before : List Item) (at : ℕ) (f : Option WalkFault) → Ending f at before
      → Comes before at (record { entries = []; ending = f })
  stops before at f h = record {
    items = [];
    end = at;
    follow = refl;
    entries = refl;
    ending = subst (λ (js : List Item). Ending f at js) (sym (append-nil before)) h;
  }

  goes : (before : List Item) (at mid : ℕ) (i : Item) (r : Coming) → i.at ≡ at
      → IsItem c declarations before i mid → Comes (before ++ i ∷ []) mid r
      → Comes before at
      (record { entries = entry_of before i.at i.entry ++ r.entries; ending = r.ending })
  goes before at mid i r here item comes =
      record {
        items = i ∷ comes.items;
        end = comes.end;
        follow = (here, mid, item, comes.follow);
        entries = ap (λ (es : List Given). entry_of before i.at i.entry ++ es) comes.entries;
        ending = subst (λ (js : List Item). Ending r.ending comes.end js)
            (append_assoc before (i ∷ []) comes.items) comes.ending;
      }

  comes_by : (before : List Item) (at : ℕ) (r : Result Standing WalkFault) (go : ℕ → ℕ → Coming)
      → item_at c declarations first at (open_behind before) ≡ r
      → Says c declarations first at (open_behind before) r → Begun first at before
      → ((end : ℕ) (i : Item) → at < length c.unit → at < end
      → Comes (before ++ i ∷ []) end (go end (open_behind (before ++ i ∷ []))))
      → Comes before at (after_item c at (open_behind before) go r)
  comes_by before at (Err f) go h says begun ih = stops before at (Some f) h
  comes_by before at (Ok nothing) go h says begun ih =
      stops before at None (says.0, says.2, some_before first at before begun says.1)
  comes_by before at (Ok (null end)) go h says begun ih =
      let after = (uleb_after c.unit at 0 end says.1).0 in
      let k : open_behind (before ++ null_piece at ∷ []) ≡ open_behind before - 1 =
      null_behind before at in
      rw (← k) (goes before at end (null_piece at)
      (go end (open_behind (before ++ null_piece at ∷ []))) refl (
        says.0,
        (some_before first at before begun says.2, says.1),
      ) (ih end (null_piece at) says.0 after))
  comes_by before at (Ok (entry d from end)) go h says begun ih =
      let s = says.1 in
      let values = listed (values_at c d.specs from) in
      let read : values_at c d.specs from ≡ Ok (listed (values_at c d.specs from), end) =
      read_values c d from end (values_at c d.specs from) refl s.values in
      let grows : from ≤ end = ends_grow c d.specs from end s.values in
      let after : at < from = (uleb_after c.unit at s.code from s.number).0 in
      let k : open_behind (before ++ entry_piece at d (listed (values_at c d.specs from)) ∷ [])
      ≡ opened d (open_behind before) = entry_behind before at d
      (listed (values_at c d.specs from)) (few_closed first at before begun s.inside) in
      rw (← k)
      (goes before at end (entry_piece at d (listed (values_at c d.specs from))) (go end
      (open_behind (before ++ entry_piece at d (listed (values_at c d.specs from)) ∷ []))) refl (
        says.0,
        (
          s.code,
          from,
          s.number,
          s.some,
          s.declared,
          read,
          may_stand first at before d begun s.root s.inside,
        ),
      )
      (ih end (entry_piece at d (listed (values_at c d.specs from))) says.0 (omega arith)))

  comes : (n at : ℕ) (before : List Item) → length c.unit < n + at → 0 < n → Begun first at before
      → Comes before at (coming c declarations first n at (open_behind before))
  unfolding coming
  comes zero at before fuel some begun = absurd (omega arith)
  comes (suc n) at before fuel some begun =
      comes_by before at (item_at c declarations first at (open_behind before))
      (λ (next more : ℕ). coming c declarations first n next more) refl
      (item_says c declarations first at (open_behind before)) begun
      (λ (end : ℕ) (i : Item) (within : at < length c.unit) (lt : at < end). comes n end
      (before ++ i ∷ []) (omega arith) (omega arith) (begun_on first at end before i begun lt))

  pub starts : Begun first first []
  starts = record { fresh = λ _. refl; later = λ (some : 0 < 0). absurd (omega arith) }

  pub walked : Comes [] first (coming_from c declarations first first 0)
  walked = comes (length c.unit + 1) first [] (omega arith) (omega arith) starts

  -- the other way round: a tree is walked
  null_step : (before : List Item) (at end : ℕ) → Begun first at before → at < length c.unit
      → 0 < length before → uleb_of c.unit at ≡ Ok (0, end)
      → coming_from c declarations first at (open_behind before)
      ≡ coming_from c declarations first end (open_behind (before ++ null_piece at ∷ []))
  null_step before at end begun lt some number =
      let is : item_at c declarations first at (open_behind before) ≡ Ok (null end) =
      null_item c declarations first at (open_behind before) end lt number
      (not_first first at before begun some) in
      one_item c declarations first at (open_behind before)
      ∙ ap (λ (r : Result Standing WalkFault). after_item c at (open_behind before)
      (λ (next more : ℕ). coming_from c declarations first next more) r) is
      ∙ ap (λ (k : ℕ). coming_from c declarations first end k) (sym (null_behind before at))

  says_entry : (before : List Item) (at code from end : ℕ) (e : Found) → Begun first at before
      → uleb_of c.unit at ≡ Ok (code, from) → code ≢ 0
      → declaration_with code declarations ≡ Some e.declaration
      → values_at c e.declaration.specs from ≡ Ok (e.values, end) → MayStand before e.declaration
      → SaysEntry c declarations first at (open_behind before) e.declaration from end
  says_entry [] at code from end e begun number some declared values may =
      record {
        code = code;
        number = number;
        some = some;
        declared = declared;
        values = ap end_of_values values;
        root = λ _. may;
        inside = λ (ne : at ≢ first). absurd (ne (begun.fresh refl));
      }
  says_entry (i ∷ is) at code from end e begun number some declared values may =
      let lt : first < at = begun.later (omega arith) in
      record {
        code = code;
        number = number;
        some = some;
        declared = declared;
        values = ap end_of_values values;
        root = λ (same : at ≡ first). absurd (omega arith);
        inside = λ (ne : at ≢ first) (zero : open_behind (i ∷ is) ≡ 0). omega arith;
      }

  entry_step : (before : List Item) (at code from end : ℕ) (e : Found) → Begun first at before
      → at < length c.unit → uleb_of c.unit at ≡ Ok (code, from) → code ≢ 0
      → declaration_with code declarations ≡ Some e.declaration
      → values_at c e.declaration.specs from ≡ Ok (e.values, end) → MayStand before e.declaration
      → coming_from c declarations first at (open_behind before)
      ≡ with_first (record {
        at = at;
        depth = open_behind before;
        tag = e.declaration.tag;
        values = e.values;
      }) (coming_from c declarations first end
      (open_behind (before ++ entry_piece at e.declaration e.values ∷ [])))
  entry_step before at code from end e begun lt number some declared values may =
      let s = says_entry before at code from end e begun number some declared values may in
      let is : item_at c declarations first at (open_behind before)
      ≡ Ok (entry e.declaration from end) =
      entry_item c declarations first at (open_behind before) e.declaration from end lt s in
      let listed_is : listed (values_at c e.declaration.specs from) ≡ e.values = ap listed values in
      let k : open_behind (before ++ entry_piece at e.declaration e.values ∷ [])
      ≡ opened e.declaration (open_behind before) = entry_behind before at e.declaration
      e.values (few_closed first at before begun s.inside) in
      one_item c declarations first at (open_behind before)
      ∙ ap (λ (r : Result Standing WalkFault). after_item c at (open_behind before)
      (λ (next more : ℕ). coming_from c declarations first next more) r) is
      ∙ rw (listed_is, k) refl

  pub item_end : (before : List Item) (i : Item) (end : ℕ) → IsItem c declarations before i end
      → i.at < end
  item_end before i end item = by i.entry item.1
    where
      by : (o : Option Found) → IsFound c declarations before i.at o end → i.at < end
      by None f = (uleb_after c.unit i.at 0 end f.1).0
      by (Some e) f =
          let grows : f.1 ≤ end = ends_grow c e.declaration.specs f.1 end (ap end_of_values f.5) in
          let after : i.at < f.1 = (uleb_after c.unit i.at f.0 f.1 f.2).0 in omega arith

  one_step : (before : List Item) (at mid : ℕ) (o : Option Found) (rest : List Given)
      (ending : Option WalkFault) → Begun first at before → at < length c.unit
      → IsFound c declarations before at o mid
      → coming_from c declarations first mid (open_behind (before ++ record {
        at = at;
        entry = o;
      } ∷ [])) ≡ record { entries = rest; ending = ending }
      → coming_from c declarations first at (open_behind before)
      ≡ record { entries = entry_of before at o ++ rest; ending = ending }
  one_step before at mid None rest ending begun lt f ih =
      null_step before at mid begun lt f.0 f.1 ∙ ih
  one_step before at mid (Some e) rest ending begun lt f ih =
      entry_step before at f.0 f.1 mid e begun lt f.2 f.3 f.4 f.5 f.6
      ∙ ap (λ (r : Coming). with_first (record {
        at = at;
        depth = open_behind before;
        tag = e.declaration.tag;
        values = e.values;
      }) r) ih

  -- items that follow one another are walked, and then what comes behind them
  pub items_walked : (items before : List Item) (at end : ℕ) (ending : Option WalkFault)
      → Begun first at before → Follow c declarations before at items end
      → (Begun first end (before ++ items) → coming_from c declarations first end
      (open_behind (before ++ items)) ≡ record { entries = []; ending = ending })
      → coming_from c declarations first at (open_behind before)
      ≡ record { entries = entries_among before items; ending = ending }
  items_walked [] before at end ending begun follow last =
      let here : before ++ [] ≡ before = append-nil before in
      let there : Begun first end (before ++ []) = subst (λ (js : List Item). Begun first end js)
      (sym here) (subst (λ (k : ℕ). Begun first k before) follow begun) in
      subst (λ (k : ℕ). coming_from c declarations first k (open_behind before)
      ≡ record { entries = []; ending = ending }) (sym follow)
      (subst (λ (js : List Item). coming_from c declarations first end (open_behind js)
      ≡ record { entries = []; ending = ending }) here (last there))
  items_walked (i ∷ is) before at end ending begun follow last =
      let more : (before ++ i ∷ []) ++ is ≡ before ++ i ∷ is = append_assoc before (i ∷ []) is in
      let after : i.at < follow.1 = item_end before i follow.1 follow.2 in
      let here : Begun first i.at before = rw follow.0 begun in
      let ih = items_walked is (before ++ i ∷ []) follow.1 end ending
      (begun_on first i.at follow.1 before i here after) follow.3
      (subst (λ (js : List Item). Begun first end js → coming_from c declarations first end
      (open_behind js) ≡ record { entries = []; ending = ending }) (sym more) last) in
      rw (← follow.0) (one_step before i.at follow.1 i.entry
      (entries_among (before ++ i ∷ []) is) ending here follow.2.0 follow.2.1 ih)

  -- a tree is walked to its end
  pub tree_ends : (all : List Item) (end : ℕ) → Begun first end all → length c.unit ≤ end
      → open_behind all ≡ 0 → 0 < length all → coming_from c declarations first end
      (open_behind all) ≡ record { entries = []; ending = None }
  tree_ends all end begun whole closed some =
      one_item c declarations first end (open_behind all)
      ∙ ap (λ (r : Result Standing WalkFault). after_item c end (open_behind all)
      (λ (next more : ℕ). coming_from c declarations first next more) r)
      (end_item c declarations first end (open_behind all) whole
      (not_first first end all begun some) closed)

pub entries_are : EntriesAreTree
entries_are c declarations first es = (forth, back)
  where
    forth : coming_from c declarations first first 0 ≡ record { entries = es; ending = None }
        → (items : List Item) × IsTree c declarations first items × (es ≡ entries_among [] items)
    forth e =
        let w = walked c declarations first in
        let ends : (coming_from c declarations first first 0).ending ≡ None =
        ap (λ (r : Coming). r.ending) e in
        let given : (coming_from c declarations first first 0).entries ≡ es =
        ap (λ (r : Coming). r.entries) e in
        let last = subst
        (λ (o : Option WalkFault). Ending c declarations first o w.end w.items) ends w.ending in (
          w.items,
          record {
            end = w.end;
            follow = w.follow;
            whole = last.0;
            closed = last.1;
            rooted = last.2;
          },
          sym given ∙ w.entries,
        )

    back : (items : List Item) × IsTree c declarations first items × (es ≡ entries_among [] items)
        → coming_from c declarations first first 0 ≡ record { entries = es; ending = None }
    back h =
        items_walked c declarations first h.0 [] first h.1.end None
        (starts c declarations first) h.1.follow
        (λ (begun : Begun first h.1.end h.0).
        tree_ends c declarations first h.0 h.1.end begun h.1.whole h.1.closed h.1.rooted)
        ∙ ap (λ (vs : List Given). record { entries = vs; ending = None }) (sym h.2)
