-- A walk's fault is that of the first item that can't stand where it stands.
use Rattle.std.proofs.Common.{◌≡◌, ℕ, List, [], ◌∷◌, ◌++◌, Option, None, Some, Err, refl, sym, ap}
use Rattle.std.proofs.Common.{subst, ◌∙◌, append_assoc}
use Rattle.std.proofs.lemmas.List.{append-nil}
use Rattle.dwarf_abbrev.specs.Declarations.{Declaration}
use Rattle.dwarf_forms.specs.Values.{Within}
use Rattle.entry_tree.specs.Items.{Given, Coming, item_at, coming_from}
use Rattle.entry_tree.specs.Tree.{Item, Follow, open_behind, entries_among}
use Rattle.entry_tree.specs.Refusals.{IsRefused, FaultsAreFirst, AreEntriesTo, AreEntries}
use Rattle.entry_tree.specs.declared.fault.WalkFault.{WalkFault}
use Rattle.entry_tree.proofs.Ahead.{item_fails}
use Rattle.entry_tree.proofs.Refused.{item_refused, item_out}
use Rattle.entry_tree.proofs.Tiling.{Begun, Ending, begun_on, item_end, items_walked, starts}
use Rattle.entry_tree.proofs.Tiling.{walked, entries_are}

module _ (c : Within) (declarations : List Declaration) (first : ℕ) where
  -- items that follow one another begin at the first byte
  begun_behind : (items before : List Item) (at end : ℕ) → Begun first at before
      → Follow c declarations before at items end → Begun first end (before ++ items)
  begun_behind [] before at end begun follow =
      subst (λ (js : List Item). Begun first end js) (sym (append-nil before))
      (subst (λ (k : ℕ). Begun first k before) follow begun)
  begun_behind (i ∷ is) before at end begun follow =
      let after = item_end c declarations first before i follow.1 follow.2 in
      let here : Begun first i.at before = rw follow.0 begun in
      subst (λ (js : List Item). Begun first end js) (append_assoc before (i ∷ []) is)
      (begun_behind is (before ++ i ∷ []) follow.1 end
      (begun_on first i.at follow.1 before i here after) follow.3)

pub faults_are : FaultsAreFirst
faults_are c declarations first es f = (forth, back)
  where
    forth : coming_from c declarations first first 0 ≡ record { entries = es; ending = Some f }
        → (items : List Item) × (at : ℕ) × Follow c declarations [] first items at
        × (es ≡ entries_among [] items) × IsRefused c declarations items at f
    forth e =
        let w = walked c declarations first in
        let ends : (coming_from c declarations first first 0).ending ≡ Some f =
        ap (λ (r : Coming). r.ending) e in
        let given : (coming_from c declarations first first 0).entries ≡ es =
        ap (λ (r : Coming). r.entries) e in
        let fails : item_at c declarations first w.end (open_behind w.items) ≡ Err f = subst
        (λ (o : Option WalkFault). Ending c declarations first o w.end w.items) ends w.ending in
        let begun : Begun first w.end w.items = begun_behind c declarations first w.items
        [] first w.end (starts c declarations first) w.follow in (
          w.items,
          w.end,
          w.follow,
          sym given ∙ w.entries,
          item_refused c declarations first w.end w.items begun f fails,
        )

    back : (items : List Item) × (at : ℕ) × Follow c declarations [] first items at
        × (es ≡ entries_among [] items) × IsRefused c declarations items at f
        → coming_from c declarations first first 0 ≡ record { entries = es; ending = Some f }
    back h =
        items_walked c declarations first h.0 [] first h.1 (Some f)
        (starts c declarations first) h.2
        (λ (begun : Begun first h.1 h.0). sym (item_fails c declarations first h.1
        (open_behind h.0) f (sym (item_out c declarations first h.1 h.0 begun f h.4))))
        ∙ ap (λ (vs : List Given). record { entries = vs; ending = Some f }) (sym h.3)

-- what comes of a unit, in one
are_to : (c : Within) (declarations : List Declaration) (first : ℕ) (es : List Given)
    (o : Option WalkFault) → coming_from c declarations first first 0
    ≡ record { entries = es; ending = o } → AreEntriesTo c declarations first es o
are_to c declarations first es None e = (entries_are c declarations first es).0 e
are_to c declarations first es (Some f) e = (faults_are c declarations first es f).0 e

pub are_entries : (c : Within) (declarations : List Declaration) (first : ℕ)
    → AreEntries c declarations first (coming_from c declarations first first 0)
are_entries c declarations first = are_to c declarations first
    (coming_from c declarations first first 0).entries
    (coming_from c declarations first first 0).ending refl
