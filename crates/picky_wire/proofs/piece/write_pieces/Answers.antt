-- A write that stopped in one piece stopped in all of them.
use Rattle.std.proofs.Common.{◌++◌, ◌∙◌, ap, sym, take}
use Rattle.picky_wire_base.proofs.PieceLemmas.{pieces_joined, one_more_piece}
use Rattle.picky_wire.proofs.ListLemmas.{list_stopped}
use Rattle.picky_wire.proofs.WriteLemmas.{puts_same}
use Rattle.picky_wire.specs.declared.error.WireError.TheVariants as errors
use Rattle.picky_wire.proofs.piece.write_pieces.Goals as goal

pub returns-in-Err : goal.returns-in-Err
returns-in-Err g c =
    puts_same _ _ (sym (pieces_joined c.args.pieces.now))
    (list_stopped g.S.Sink.tells g.S.Sink.written g.S.Sink.faults errors.WriteFault
    (λ x. x) c.args.pieces.now c.pieces.piece-index c.piece-item.result c.in-Err.e
    c.args.stream.now c.pieces.stream c.write_piece.new.stream c.pieces-test.true c.piece-item.is
    (λ told. c.pieces.invariant.written told ∙ ap (λ b. g.S.Sink.written c.args.stream.now ++ b) (pieces_joined (take c.pieces.piece-index c.args.pieces.now)))
    c.pieces.invariant.told c.pieces.invariant.calm c.in-Err.ensures)

pub pieces-preserved : goal.pieces-preserved
pieces-preserved g c = record {
  written = λ told.
      c.in-Ok.ensures.writes (c.pieces.invariant.told told)
      ∙ ap (λ b. b ++ c.piece-item.result) (c.pieces.invariant.written told)
      ∙ one_more_piece c.args.pieces.now c.pieces.piece-index c.piece-item.result _ c.pieces-test.true c.piece-item.is;
  told = λ told. c.in-Ok.ensures.told (c.pieces.invariant.told told);
  calm = c.in-Ok.ensures.calm ∙ c.pieces.invariant.calm;
}
