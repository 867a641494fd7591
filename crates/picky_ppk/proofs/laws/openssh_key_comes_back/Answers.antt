-- The laws of a key that is put into a file, and of one without.
use Rattle.picky_ppk.proofs.KeyLaws.{key_comes_back, base_key_comes_back, base_comes_back}
use Rattle.picky_ppk.proofs.laws.openssh_key_comes_back.Goals as goal

pub returns-clause-file : goal.returns-clause-file
returns-clause-file c = key_comes_back

pub returns-clause-versions : goal.returns-clause-versions
returns-clause-versions c = base_key_comes_back

pub returns-clause-base : goal.returns-clause-base
returns-clause-base c = base_comes_back
