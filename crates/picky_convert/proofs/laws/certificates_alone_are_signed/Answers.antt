-- The lemma on who signs.
use Rattle.picky_convert.proofs.RunLemmas.{certifies_where_signed}
use Rattle.picky_convert.proofs.laws.certificates_alone_are_signed.Goals as goal

pub returns : goal.returns
returns c = certifies_where_signed
