-- Each clause is a lemma.
use Rattle.picky_c.proofs.LawLemmas.{conversion_answered, reading_answered, refusal_kept}
use Rattle.picky_c.proofs.RefusedLemmas.{comment_answered, shown_answered}
use Rattle.picky_c.proofs.laws.refusals_are_answered.Goals as goal

pub returns-clause-conversion : goal.returns-clause-conversion
returns-clause-conversion c = conversion_answered

pub returns-clause-reading : goal.returns-clause-reading
returns-clause-reading c = reading_answered

pub returns-clause-shown : goal.returns-clause-shown
returns-clause-shown c = shown_answered

pub returns-clause-comment : goal.returns-clause-comment
returns-clause-comment c = comment_answered

pub returns-clause-refusal : goal.returns-clause-refusal
returns-clause-refusal c = refusal_kept
