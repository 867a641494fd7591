-- What the source holds is bytes.
use Rattle.std.proofs.Common.{subst}
use Rattle.picky_wire_base.specs.Numbers.{IsBytes}
use Rattle.picky_wire.proofs.source.SliceSource.rest.Goals as goal

pub returns-clause-bytes : goal.returns-clause-bytes
returns-clause-bytes c = subst IsBytes c.self.view_is c.self.invariant
