-- What an outcome's status says of the bytes, which are all that are left, or none.
use Rattle.picky_convert.specs.Run.{input_for, input_limit}
use Rattle.picky_convert.proofs.CauseLemmas.{long_of, no_text_of}
use Rattle.picky_convert.proofs.SourceLemmas.{no_longer, text_read}
use Rattle.picky_convert.proofs.laws.bytes_are_refused_for_what_they_are.Goals as goal

pub returns : goal.returns
returns c = record {
  too_long = λ o command left is. no_longer command left input_limit (long_of o command (input_for command left) is);
  not_utf8 = λ o command left is utf8. no_text_of o command (input_for command left) is (text_read command left utf8);
}
