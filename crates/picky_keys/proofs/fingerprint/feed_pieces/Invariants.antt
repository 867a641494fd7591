-- The hasher was fed the pieces so far.
use Rattle.std.proofs.Common.{◌++◌, List, ℕ, take}
use Rattle.std.specs.List.{concat}
use Rattle.picky_keys.proofs.fingerprint.feed_pieces.Given as goal

abbrev pub invariant-pieces : goal.invariant-pieces
invariant-pieces g l =
    (m : List ℕ) → g.H.Hasher.held l.initial.hasher m
    → g.H.Hasher.held l.hasher (m ++ concat (take l.piece-index l.pieces))
