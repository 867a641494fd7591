-- Eight bytes end early, or the source failed.
use Rattle.picky_wire.proofs.CauseLemmas.{timestamp_cause}
use Rattle.picky_wire.proofs.timestamp.TimestampSshComplexTypeDecode.decode.Goals as goal

pub returns-in-Err-clause-cause : goal.returns-in-Err-clause-cause
returns-in-Err-clause-cause g c = timestamp_cause c.in-Err.e _ c.in-Err.ensures.cause
