-- No spelling of a field is a front of another.
use Rattle.picky_wire_base.specs.Wire.{uint32, string, text}
use Rattle.picky_wire_base.specs.Numbers.{byte, uint64}
use Rattle.picky_wire_base.specs.Mpint.{mpint}
use Rattle.picky_wire_base.proofs.Fronts.{layout_has_one_front}
use Rattle.picky_wire_base.proofs.laws.no_field_is_a_front_of_another.Goals as goal

pub returns : goal.returns
returns c = record {
  byte = layout_has_one_front byte;
  uint32 = layout_has_one_front uint32;
  uint64 = layout_has_one_front uint64;
  string = layout_has_one_front string;
  text = layout_has_one_front text;
  mpint = layout_has_one_front mpint;
}
