-- The first place where no value is spelled is the list's.
use Rattle.picky_wire_base.proofs.ReadingLaws.{values_stuck}
use Rattle.picky_wire.proofs.laws.blocks_are_refused_at_one_place.Goals as goal

pub returns : goal.returns
returns g c = values_stuck g.T.SshLayout.layout
