use Rattle.picky_ledger.proofs.LedgerTextLaws.{ledger_is_read, ledger_read_is}
use Rattle.picky_ledger.proofs.laws.text_is_read_back.Goals as goal

pub returns-clause-back : goal.returns-clause-back
returns-clause-back c = ledger_is_read

pub returns-clause-only : goal.returns-clause-only
returns-clause-only c = ledger_read_is
