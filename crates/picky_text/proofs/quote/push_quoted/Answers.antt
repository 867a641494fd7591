-- What was written, and where the writing failed.
use Rattle.picky_text.proofs.FrontLemmas.{writing_stays, writing_failed}
use Rattle.picky_text.proofs.quote.push_quoted.Goals as goal

pub returns-in_err-rest-clause-err : goal.returns-in_err-rest-clause-err
returns-in_err-rest-clause-err c =
    writing_failed _ (writing_stays _ c.pieces.invariant.1 c.in_err-rest.ensures.err)
