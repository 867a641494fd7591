-- The meanings and the table that the caller has.
use Rattle.std.specs.Prelude.{Some}
use Rattle.picky_ask.proofs.laws.what_answers_seal_is_what_was_answered.Given as goal

abbrev pub ghosts-seal_by : goal.ghosts-seal_by
ghosts-seal_by g a = record { known = g.m; table = Some a.table.now }
