use Rattle.picky_ledger.proofs.BadLineLaws.{bad_line_exactly}
use Rattle.picky_ledger.proofs.laws.text_is_refused_at_its_first_bad_line.Goals as goal

pub returns : goal.returns
returns c = bad_line_exactly
