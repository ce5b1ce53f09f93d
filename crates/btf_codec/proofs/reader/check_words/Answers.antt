use Rattle.std.proofs.Common.{[], sym, ◌∙◌, arith}
use Rattle.btf_codec.specs.Reading.{pieces_fault}
use Rattle.btf_codec.proofs.Checking.{fault_found, fault_none, fault_over, nows}
use Rattle.btf_codec.proofs.reader.check_words.Goals as goal

pub returns-in-Some : goal.returns-in-Some
returns-in-Some c =
    fault_found c.args.order c.loop-piece.place c.loop-piece.id c.args.limit c.args.count
    c.loop-piece.piece-index c.args.pieces.now c.in-Some.fault (pieces_fault c.args.order 24
    c.args.first c.args.limit c.args.count (nows c.args.pieces.now))
    c.loop-piece-test.true (sym c.words_fault.ensures ∙ c.in-Some.is) c.loop-piece.invariant.so_far

pub loop-piece-preserved : goal.loop-piece-preserved
loop-piece-preserved c =
    let s = c.requires.short c.loop-piece.piece-index
    (record { ref_ptr = (0, 0); now = [] }) c.loop-piece-test.true in
    record {
      so_far =
          fault_none c.args.order c.loop-piece.place c.loop-piece.id c.args.limit c.args.count
          c.loop-piece.piece-index c.args.pieces.now (pieces_fault c.args.order 24 c.args.first
          c.args.limit c.args.count (nows c.args.pieces.now))
          c.loop-piece-test.true
          (sym c.words_fault.ensures ∙ c.in_default.is) c.loop-piece.invariant.so_far;
      id_is = omega (arith, c.loop-piece.invariant.id_is);
      near = omega (arith, c.loop-piece.invariant.near, s);
    }

pub returns : goal.returns
returns c =
    fault_over c.args.order c.loop-piece.place c.loop-piece.id c.args.limit c.args.count
    c.loop-piece.piece-index c.args.pieces.now (pieces_fault c.args.order 24 c.args.first
    c.args.limit c.args.count (nows c.args.pieces.now))
    c.loop-piece-test.false c.loop-piece.invariant.so_far
