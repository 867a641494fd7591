-- Each clause is a law.
use Rattle.picky_sshkey.proofs.KeptLaws.{IsSshPrivateKey-read_again, content_reads_back, read_again-read_again, text_reads_back}
use Rattle.picky_sshkey.proofs.laws.private_key_is_read_back.Goals as goal

pub returns-clause-content : goal.returns-clause-content
returns-clause-content c = content_reads_back

pub returns-clause-text : goal.returns-clause-text
returns-clause-text c = text_reads_back

pub returns-clause-kept : goal.returns-clause-kept
returns-clause-kept c = IsSshPrivateKey-read_again

pub returns-clause-again : goal.returns-clause-again
returns-clause-again c = read_again-read_again
