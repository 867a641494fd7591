use Rattle.picky_wire_base.proofs.Numbers.{uint32_reads_back, uint64_reads_back}
use Rattle.picky_wire_base.proofs.Strings.{string_reads_back, text_reads_back}
use Rattle.picky_wire_base.proofs.MpintLaws.{mpint_reads_back}
use Rattle.picky_wire_base.proofs.laws.fields_are_read_back.Goals as goal

pub returns : goal.returns
returns c = record {
  uint32 = uint32_reads_back;
  uint64 = uint64_reads_back;
  string = string_reads_back;
  text = text_reads_back;
  mpint = mpint_reads_back;
}
