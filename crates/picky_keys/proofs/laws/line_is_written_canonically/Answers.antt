-- A line that was read is one whose spelling is read back.
use Rattle.picky_keys.proofs.CanonicalLaws.{text_is_written, source_is_written}
use Rattle.picky_keys.proofs.laws.line_is_written_canonically.Goals as goal

pub returns-clause-text : goal.returns-clause-text
returns-clause-text c = text_is_written

pub returns-clause-source : goal.returns-clause-source
returns-clause-source c = source_is_written
