-- The fields of what is asked of a certificate, one by one.
use Rattle.picky_issuing.proofs.EqualityLemmas.{cert_options_equal}
use Rattle.picky_issuing.proofs.laws.equality_is_of_contents.Goals as goal

pub returns : goal.returns
returns c = cert_options_equal
