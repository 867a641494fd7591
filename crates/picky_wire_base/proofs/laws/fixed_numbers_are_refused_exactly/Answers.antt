use Rattle.picky_wire_base.proofs.FixedWhen.{fixed_uint32_is_short, fixed_uint32_is_other, fixed_uint32_only}
use Rattle.picky_wire_base.proofs.laws.fixed_numbers_are_refused_exactly.Goals as goal

pub returns : goal.returns
returns c = record {
  short = fixed_uint32_is_short;
  number = fixed_uint32_is_other;
  only = fixed_uint32_only;
}
