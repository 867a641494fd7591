-- Each clause is a lemma.
use Rattle.picky_c.proofs.CertifyLemmas.{draft_answered, line_answered}
use Rattle.picky_c.proofs.laws.refusals_of_certificates_are_answered.Goals as goal

pub returns-clause-draft : goal.returns-clause-draft
returns-clause-draft c = draft_answered

pub returns-clause-line : goal.returns-clause-line
returns-clause-line c = line_answered
