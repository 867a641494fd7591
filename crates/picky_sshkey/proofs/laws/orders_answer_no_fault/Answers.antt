-- Each clause is a law.
use Rattle.picky_sshkey.proofs.FaultLaws.{content_no_fault, key_content_no_fault, key_text_no_fault, text_no_fault}
use Rattle.picky_sshkey.proofs.laws.orders_answer_no_fault.Goals as goal

pub returns-clause-content : goal.returns-clause-content
returns-clause-content c = content_no_fault

pub returns-clause-text : goal.returns-clause-text
returns-clause-text c = text_no_fault

pub returns-clause-written_content : goal.returns-clause-written_content
returns-clause-written_content c = key_content_no_fault

pub returns-clause-written_text : goal.returns-clause-written_text
returns-clause-written_text c = key_text_no_fault
