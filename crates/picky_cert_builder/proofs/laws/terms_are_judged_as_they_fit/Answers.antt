-- Both ways, by one lemma.
use Rattle.picky_cert_builder.proofs.FitLaws.{judged_where_fit}
use Rattle.picky_cert_builder.proofs.laws.terms_are_judged_as_they_fit.Goals as goal

pub returns : goal.returns
returns c = judged_where_fit
