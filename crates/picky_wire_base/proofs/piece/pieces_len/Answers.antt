-- One more piece.
use Rattle.std.proofs.Common.{arith}
use Rattle.picky_wire_base.proofs.PieceLemmas.{one_more_len}
use Rattle.picky_wire_base.proofs.piece.pieces_len.Goals as goal

pub pieces-preserved : goal.pieces-preserved
pieces-preserved c =
    let more = one_more_len c.args.pieces.now c.pieces.piece-index c.piece-item.result c.pieces-test.true c.piece-item.is in
    record {
      len = omega (arith, more, c.pieces.invariant.len, c.piece_len.ensures.len);
      small = omega (arith, c.pieces.invariant.len);
    }
