use Rattle.picky_ledger.proofs.OwnLaws.{issuer_is_own, request_is_own, source_is_own}
use Rattle.picky_ledger.proofs.laws.bytes_are_refused_for_themselves.Goals as goal

pub returns-clause-source : goal.returns-clause-source
returns-clause-source c = source_is_own

pub returns-clause-issuer : goal.returns-clause-issuer
returns-clause-issuer c = issuer_is_own

pub returns-clause-request : goal.returns-clause-request
returns-clause-request c = request_is_own
