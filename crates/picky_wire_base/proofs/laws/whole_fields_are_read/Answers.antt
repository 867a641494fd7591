use Rattle.picky_wire_base.proofs.Strings.{text_reads}
use Rattle.picky_wire_base.proofs.When.{byte_is_read, uint32_is_read, uint64_is_read, byte_array_are_read, string_is_read, mpint_reads}
use Rattle.picky_wire_base.proofs.laws.whole_fields_are_read.Goals as goal

pub returns : goal.returns
returns c = record {
  byte = byte_is_read;
  uint32 = uint32_is_read;
  uint64 = uint64_is_read;
  byte_array = byte_array_are_read;
  string = string_is_read;
  text = text_reads;
  mpint = mpint_reads;
}
