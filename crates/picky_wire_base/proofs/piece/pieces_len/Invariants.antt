-- How long the pieces so far are together.
use Rattle.std.proofs.Common.{◌≡◌, ◌^◌, ◌≤◌, length, min, take}
use Rattle.std.specs.List.{concat}
use Rattle.picky_wire_base.proofs.piece.pieces_len.Given as goal

abbrev pub invariant-pieces : goal.invariant-pieces
invariant-pieces l = record {
  len : l.len ≡ min (length (concat (take l.piece-index l.pieces))) (2 ^ 40);
  small : l.len ≤ 2 ^ 40;
}
