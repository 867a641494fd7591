use Rattle.picky_wire_base.proofs.FixedWhen.{raw_is_short, raw_is_other, raw_only}
use Rattle.picky_wire_base.proofs.laws.fixed_bytes_are_refused_exactly.Goals as goal

pub returns : goal.returns
returns c = record { short = raw_is_short; magic = raw_is_other; only = raw_only }
