use Rattle.picky_wire_base.proofs.FixedWhen.{sized_is_short, sized_is_other, sized_only}
use Rattle.picky_wire_base.proofs.laws.sized_strings_are_refused_exactly.Goals as goal

pub returns : goal.returns
returns c = record { short = sized_is_short; length = sized_is_other; only = sized_only }
