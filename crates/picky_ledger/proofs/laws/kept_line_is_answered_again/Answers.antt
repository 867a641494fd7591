-- The entry with the line's id is the one that keeps it.
use Rattle.picky_ledger.proofs.JudgedLaws.{kept_is_again}
use Rattle.picky_ledger.proofs.laws.kept_line_is_answered_again.Goals as goal

pub returns : goal.returns
returns c = kept_is_again
