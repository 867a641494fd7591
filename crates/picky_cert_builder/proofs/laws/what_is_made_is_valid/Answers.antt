-- Each law is a lemma's.
use Rattle.picky_cert_builder.proofs.MadeLaws.{made_keeps, made_is_formed}
use Rattle.picky_cert_builder.proofs.laws.what_is_made_is_valid.Goals as goal

pub returns-clause-ranges : goal.returns-clause-ranges
returns-clause-ranges c = made_keeps

pub returns-clause-formed : goal.returns-clause-formed
returns-clause-formed c = made_is_formed
