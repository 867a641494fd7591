-- The caller's meanings, and the table that was read.
use Rattle.std.specs.Prelude.{Some}
use Rattle.picky_c.proofs.round.converted_by.Given as goal

abbrev pub ghosts-round_by : goal.ghosts-round_by
ghosts-round_by g a = record { known = g.m; table = Some a.table.now }
