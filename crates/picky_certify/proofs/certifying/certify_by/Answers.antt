-- A line is what the words ask of both texts.
use Rattle.picky_suite.specs.Meanings.{plain}
use Rattle.std.proofs.Common.{refl}
use Rattle.std.specs.Prelude.{map}
use Rattle.picky_ask.specs.Table.{table_of}
use Rattle.picky_certify.specs.Certify.{certified_in, entries_in, given}
use Rattle.picky_certify.proofs.CertifyLemmas.{round_is_certified}
use Rattle.picky_certify.proofs.certifying.certify_by.Goals as goal

pub returns-clause-means : goal.returns-clause-means
returns-clause-means c =
    let g = given (map (λ word. word.now) c.args.words.now) c.args.issuer.now c.args.key.now c.args.fresh.now in
    round_is_certified g c.args.answers.now (certified_in g c.args.answers.now) (entries_in (table_of c.args.answers.now)) c.certified.result
    (c.is_given.ensures plain) refl c.certified.ensures
