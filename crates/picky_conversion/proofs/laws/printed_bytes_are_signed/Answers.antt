-- The lemma on what is signed of a certificate that is issued.
use Rattle.picky_conversion.proofs.LawLemmas.{printed_is_signed}
use Rattle.picky_conversion.proofs.laws.printed_bytes_are_signed.Goals as goal

pub returns : goal.returns
returns c = printed_is_signed
