use Rattle.shown_types.specs.Shown.{AreKept}
use Rattle.shown_types.proofs.Texts.{ShownSoFar}
use Rattle.shown_types.proofs.showing.show_places.Given as goal

-- so many places are shown
abbrev pub invariant-loop-i : goal.invariant-loop-i
invariant-loop-i l = record {
  shown : ShownSoFar l.source.table.now.types l.source.sizes.now.pointer l.source.style l.places l.i
      l.out.items;
  kept : AreKept l.source.table.now.types l.source.sizes.now.pointer l.source.style
      l.layouts.entries;
}
