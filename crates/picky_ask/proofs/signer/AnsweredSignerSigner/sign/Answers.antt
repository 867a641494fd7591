use Rattle.picky_keys.specs.PrivateKey.{issuer_key}
use Rattle.picky_ask.proofs.SignLemmas.{looks_signs}
use Rattle.picky_ask.proofs.signer.AnsweredSignerSigner.sign.Goals as goal

pub returns-clause-signs : goal.returns-clause-signs
returns-clause-signs g c =
    looks_signs (issuer_key c.args.issuer.now) c.args.algorithm c.args.message.now c.ask_signature.result c.args.self.now
    c.ask_signature.new.self c.ask_signature.ensures
