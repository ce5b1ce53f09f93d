use Rattle.shown_types.proofs.Texts.{shown_more}
use Rattle.shown_types.proofs.showing.show_places.Goals as goal

pub loop-i-preserved : goal.loop-i-preserved
loop-i-preserved c =
    let p = c.in_ok-show_place.ensures.shows in
    record {
      shown =
          shown_more c.args.source.table.now.types c.args.source.sizes.now.pointer
          c.args.source.style c.args.places.now c.loop-i.i 0 _ _ p.0
          c.loop-i-test.true c.loop-i.invariant.shown p.1 p.2 p.3;
      kept = c.in_ok-show_place.ensures.kept;
    }
