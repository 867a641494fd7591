use Rattle.picky_ask_verifier.specs.Verdicts.{IsGood, Passes}
use Rattle.picky_ask_verifier.proofs.VerdictLemmas.{agrees_good}
use Rattle.picky_ask_verifier.proofs.DecisionLemmas.{decided_same}
use Rattle.picky_ask_verifier.proofs.laws.what_verdicts_decide_is_what_was_verified.Goals as goal

pub returns-clause-decided : goal.returns-clause-decided
returns-clause-decided g c = λ agrees.
    decided_same (IsGood g.test c.args.table.now) (Passes g.test) (agrees_good g.test c.args.table.now agrees) c.args.entries.now
    c.args.offer.now c.args.user.now c.args.moment c.decide_by.result c.decide_by.ensures.decided
