-- The pieces so far were appended.
use Rattle.std.proofs.Common.{◌≡◌, ◌++◌, take}
use Rattle.std.specs.List.{concat}
use Rattle.picky_wire_base.proofs.piece.push_pieces.Given as goal

abbrev pub invariant-pieces : goal.invariant-pieces
invariant-pieces l =
    l.out.items ≡ l.initial.out.items ++ concat (take l.piece-index l.pieces)
