-- Where no envelope is made, nothing is written.
use Rattle.picky_sshkey_blob.specs.declared.pem.Pem.{Pem}
use Rattle.picky_sshkey.proofs.EncodeLemmas.{nothing_encoded}
use Rattle.picky_sshkey.proofs.private_key.SshPrivateKey.encode.Goals as goal

pub returns-clause-puts : goal.returns-clause-puts
returns-clause-puts g c =
    nothing_encoded _ g.W.Sink.tells g.W.Sink.written g.W.Sink.faults _ c.args.self.now (λ (pem : Pem). pem.content) _
    c.in-Err.e c.args.stream.now c.in-Err.ensures.gives
