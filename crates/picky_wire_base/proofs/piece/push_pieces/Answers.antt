-- One more piece.
use Rattle.std.proofs.Common.{◌++◌, ◌∙◌, ap, append_assoc}
use Rattle.picky_wire_base.proofs.PieceLemmas.{one_more_piece}
use Rattle.picky_wire_base.proofs.piece.push_pieces.Goals as goal

pub pieces-preserved : goal.pieces-preserved
pieces-preserved c =
    let head = c.in_ok-extend_from_slice.ensures.items in
    let body = c.in_ok-extend_from_slice-2.ensures.items in
    let joined = append_assoc c.pieces.out.items c.parts.result.0.now c.parts.result.1.now in
    body ∙ ap (λ b. b ++ c.parts.result.1.now) head ∙ joined
    ∙ ap (λ b. c.pieces.out.items ++ b) c.parts.ensures.bytes
    ∙ ap (λ b. b ++ c.piece-item.result) c.pieces.invariant
    ∙ one_more_piece c.args.pieces.now c.pieces.piece-index c.piece-item.result _ c.pieces-test.true c.piece-item.is
