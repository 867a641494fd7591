use Rattle.picky_wire_base.proofs.When.{string_is_short, text_is_short, text_is_not_utf8, text_only}
use Rattle.picky_wire_base.proofs.laws.strings_are_refused_exactly.Goals as goal

pub returns : goal.returns
returns c = record {
  string = string_is_short;
  text_short = text_is_short;
  text_not_utf8 = text_is_not_utf8;
  text_only = text_only;
}
