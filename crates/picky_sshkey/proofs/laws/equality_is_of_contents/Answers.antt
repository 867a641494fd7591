-- A key's parts one by one.
use Rattle.picky_sshkey.proofs.EqualityLemmas.{key_equal}
use Rattle.picky_sshkey.proofs.laws.equality_is_of_contents.Goals as goal

pub returns-clause-key : goal.returns-clause-key
returns-clause-key c = key_equal
