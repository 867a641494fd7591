-- Both ways, by one lemma each.
use Rattle.picky_conversion.proofs.DraftedLaws.{drafted_where, line_drafted_where}
use Rattle.picky_conversion.proofs.certificate_laws.requests_are_refused_as_they_come_to_nothing.Goals as goal

pub returns-clause-signed : goal.returns-clause-signed
returns-clause-signed c = drafted_where

pub returns-clause-line : goal.returns-clause-line
returns-clause-line c = line_drafted_where
