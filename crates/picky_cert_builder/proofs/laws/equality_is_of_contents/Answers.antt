-- The fields of a request, one by one.
use Rattle.picky_cert_builder.proofs.EqualityLemmas.{builder_equal}
use Rattle.picky_cert_builder.proofs.laws.equality_is_of_contents.Goals as goal

pub returns-clause-builder : goal.returns-clause-builder
returns-clause-builder c = builder_equal
