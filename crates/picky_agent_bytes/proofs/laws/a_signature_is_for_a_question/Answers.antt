-- By what the steps are.
use Rattle.picky_agent_bytes.proofs.LawLemmas.{failed_reply, signed_by, unasked_reply}
use Rattle.picky_agent_bytes.proofs.laws.a_signature_is_for_a_question.Goals as goal

pub returns-clause-failed : goal.returns-clause-failed
returns-clause-failed c = failed_reply

pub returns-clause-signed : goal.returns-clause-signed
returns-clause-signed c = signed_by

pub returns-clause-unasked : goal.returns-clause-unasked
returns-clause-unasked c = unasked_reply
