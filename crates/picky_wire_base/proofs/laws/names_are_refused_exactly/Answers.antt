use Rattle.picky_wire_base.proofs.FixedWhen.{named_is_short, named_is_not_utf8, named_is_unknown, named_only}
use Rattle.picky_wire_base.proofs.laws.names_are_refused_exactly.Goals as goal

pub returns : goal.returns
returns g c = record {
  short = named_is_short;
  not_utf8 = named_is_not_utf8;
  name = named_is_unknown;
  only = named_only;
}
