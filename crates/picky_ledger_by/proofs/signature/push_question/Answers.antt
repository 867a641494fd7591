-- A head that is too long makes the question too long.
use Rattle.std.proofs.Common.{Err, ap, inr, refl}
use Rattle.picky_ledger_by.proofs.LineLemmas.{long_head}
use Rattle.picky_ledger_by.proofs.signature.push_question.Goals as goal

pub returns-in-Err-TooLong-clause-err : goal.returns-in-Err-TooLong-clause-err
returns-in-Err-TooLong-clause-err c =
    inr (refl, inr (long_head c.args.question.now (c.in-Err-TooLong.ensures.too_long_only_if_long (ap Err c.in-Err-TooLong.field-0-is))))
