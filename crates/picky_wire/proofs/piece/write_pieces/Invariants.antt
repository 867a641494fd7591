-- The pieces so far were written.
use Rattle.std.proofs.Common.{◌≡◌, ◌++◌, take}
use Rattle.std.specs.List.{concat}
use Rattle.picky_wire.proofs.piece.write_pieces.Given as goal

abbrev pub invariant-pieces : goal.invariant-pieces
invariant-pieces g l = record {
  written : g.S.Sink.tells l.initial.stream → g.S.Sink.written l.stream
      ≡ g.S.Sink.written l.initial.stream ++ concat (take l.piece-index l.pieces);
  told : g.S.Sink.tells l.initial.stream → g.S.Sink.tells l.stream;
  calm : g.S.Sink.faults l.stream ≡ g.S.Sink.faults l.initial.stream;
}
