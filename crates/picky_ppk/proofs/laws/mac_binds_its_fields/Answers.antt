-- The law of what a MAC covers.
use Rattle.picky_ppk.proofs.BindLaws.{covered_binds}
use Rattle.picky_ppk.proofs.laws.mac_binds_its_fields.Goals as goal

pub returns : goal.returns
returns c = covered_binds
