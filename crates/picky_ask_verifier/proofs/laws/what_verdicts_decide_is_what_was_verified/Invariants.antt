-- The test and the table that the caller has.
use Rattle.std.specs.Prelude.{Some}
use Rattle.picky_ask_verifier.proofs.laws.what_verdicts_decide_is_what_was_verified.Given as goal

abbrev pub ghosts-decide_by : goal.ghosts-decide_by
ghosts-decide_by g a = record { test = g.test; table = Some a.table.now }
