use Rattle.picky_wire_base.proofs.When.{byte_is_short, uint32_is_short, uint64_is_short, byte_array_are_short}
use Rattle.picky_wire_base.proofs.laws.numbers_are_refused_exactly.Goals as goal

pub returns : goal.returns
returns c = record {
  byte = byte_is_short;
  uint32 = uint32_is_short;
  uint64 = uint64_is_short;
  byte_array = byte_array_are_short;
}
