use Rattle.std.proofs.Common.{◌∙◌, sym}
use Rattle.picky_ask.proofs.KnownLemmas.{meant_sha256}
use Rattle.picky_ask.proofs.suite.AnsweredSuiteSuite.hmac_sha256.Goals as goal

pub returns : goal.returns
returns g c =
    c.hmac_sha256.ensures ∙ sym (meant_sha256 g.K.Known.known c.args.self.now.entries c.args.key.now c.args.message.now)
