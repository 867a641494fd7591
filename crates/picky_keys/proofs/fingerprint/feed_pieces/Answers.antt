-- One more piece, in its two parts.
use Rattle.std.proofs.Common.{◌++◌, ◌∙◌, ap, subst, append_assoc, take}
use Rattle.std.specs.List.{concat}
use Rattle.picky_wire_base.proofs.PieceLemmas.{one_more_piece}
use Rattle.picky_keys.proofs.fingerprint.feed_pieces.Goals as goal

pub pieces-preserved : goal.pieces-preserved
pieces-preserved g c = λ m held.
    let so_far = c.pieces.invariant m held in
    let head = c.feed.ensures _ so_far in
    let body = c.feed-in-pieces.ensures _ head in
    let before = m ++ concat (take c.pieces.piece-index c.args.pieces.now) in
    subst (g.H.Hasher.held c.feed-in-pieces.new.self)
    (append_assoc before _ _ ∙ ap (λ p. before ++ p) c.parts.ensures.bytes
    ∙ one_more_piece c.args.pieces.now c.pieces.piece-index c.piece-item.result m c.pieces-test.true c.piece-item.is) body
