use Rattle.std.proofs.Common.{◌∙◌, sym}
use Rattle.picky_ask.proofs.KnownLemmas.{meant_sha1}
use Rattle.picky_ask.proofs.suite.AnsweredSuiteSuite.hmac_sha1.Goals as goal

pub returns : goal.returns
returns g c =
    c.hmac_sha1.ensures ∙ sym (meant_sha1 g.K.Known.known c.args.self.now.entries c.args.key.now c.args.message.now)
