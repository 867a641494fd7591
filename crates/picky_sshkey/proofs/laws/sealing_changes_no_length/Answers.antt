-- Each clause is a law.
use Rattle.picky_sshkey.proofs.KeptLaws.{length-sealed}
use Rattle.picky_sshkey.proofs.laws.sealing_changes_no_length.Goals as goal

pub returns : goal.returns
returns c = length-sealed
