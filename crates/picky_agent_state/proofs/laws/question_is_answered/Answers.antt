-- The law on questions.
use Rattle.picky_agent_state.proofs.QuestionLaws.{failed_step, signed_step}
use Rattle.picky_agent_state.proofs.laws.question_is_answered.Goals as goal

pub returns-clause-signed : goal.returns-clause-signed
returns-clause-signed g c = λ device. signed_step (g.G.Signer.signs device)

pub returns-clause-failed : goal.returns-clause-failed
returns-clause-failed g c = λ device. failed_step (g.G.Signer.signs device)
