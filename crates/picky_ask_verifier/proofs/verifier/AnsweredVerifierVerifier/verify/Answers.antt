use Rattle.picky_ask_verifier.proofs.VerdictLemmas.{looks_verifies}
use Rattle.picky_ask_verifier.proofs.verifier.AnsweredVerifierVerifier.verify.Goals as goal

pub returns-clause-verifies : goal.returns-clause-verifies
returns-clause-verifies g c =
    looks_verifies g.K.KnownVerdicts.test c.args.key.now c.args.signature.now c.args.message.now c.ask_verdict.result c.args.self.now
    c.ask_verdict.new.self c.ask_verdict.ensures
