-- What the text asks for is answered.
use Rattle.std.proofs.Common.{◌∙◌}
use Rattle.picky_ledger.specs.inner.Shown.{given_shown}
use Rattle.picky_ledger.proofs.RunLemmas.{asked_by_text}
use Rattle.picky_ledger.proofs.answer.answer_to.Goals as goal

pub returns-in-Ok-clause-comes : goal.returns-in-Ok-clause-comes
returns-in-Ok-clause-comes g c = λ input is.
    c.answer_given.ensures.comes input
    (asked_by_text c.args.fresh.now input c.args.text.now is ∙ c.in-Ok.ensures)

pub returns-in-Ok-clause-signer : goal.returns-in-Ok-clause-signer
returns-in-Ok-clause-signer g c = record {
  kept = c.answer_given.ensures.signer.kept;
  calm = c.answer_given.ensures.signer.calm;
  unasked = λ spared.
      c.answer_given.ensures.signer.unasked (spared.2 (given_shown c.in-Ok.given)
      (asked_by_text c.args.fresh.now spared.0 c.args.text.now spared.1 ∙ c.in-Ok.ensures));
}
