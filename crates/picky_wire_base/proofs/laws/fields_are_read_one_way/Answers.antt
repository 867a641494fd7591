use Rattle.picky_wire_base.specs.Wire.{uint32, string, text}
use Rattle.picky_wire_base.specs.Numbers.{byte, uint64}
use Rattle.picky_wire_base.specs.Mpint.{mpint}
use Rattle.picky_wire_base.proofs.ReadingLaws.{layout_is_read}
use Rattle.picky_wire_base.proofs.laws.fields_are_read_one_way.Goals as goal

pub returns : goal.returns
returns c = record {
  byte = layout_is_read byte;
  uint32 = layout_is_read uint32;
  uint64 = layout_is_read uint64;
  string = layout_is_read string;
  text = layout_is_read text;
  mpint = layout_is_read mpint;
}
