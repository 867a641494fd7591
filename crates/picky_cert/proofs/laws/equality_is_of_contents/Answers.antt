-- The fields of a certificate, and of a view, one by one.
use Rattle.picky_cert.proofs.EqualityLemmas.{certificate_equal, view_equal}
use Rattle.picky_cert.proofs.laws.equality_is_of_contents.Goals as goal

pub returns-clause-view : goal.returns-clause-view
returns-clause-view c = view_equal

pub returns-clause-certificate : goal.returns-clause-certificate
returns-clause-certificate c = certificate_equal
