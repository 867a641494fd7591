-- So many messages were answered.
use Rattle.std.proofs.Common.{Ok}
use Rattle.std.specs.Prelude.{◌≡◌, ◌↔◌, ℕ, List}
use Rattle.picky_keys.specs.declared.public_key.PublicKey.{PublicKey}
use Rattle.picky_keys.specs.declared.algorithm.SignatureAlgorithm.{SignatureAlgorithm}
use Rattle.picky_agent.specs.Ending.{HasNoSign}
use Rattle.picky_agent.specs.Served.{Serves, scene}
use Rattle.picky_agent.proofs.serving.serve.Given as goal

abbrev pub invariant-messages : goal.invariant-messages
invariant-messages g l = record {
  serves : Serves (g.G.Signer.signs l.initial.signer) (g.I.Source.tells l.initial.source) (g.O.Sink.tells l.initial.out) (Ok tt) l.answered
      (scene l.initial.agent (g.G.Signer.faults l.initial.signer) (g.I.Source.left l.initial.source) (g.I.Source.faults l.initial.source)
      (g.O.Sink.written l.initial.out) (g.O.Sink.faults l.initial.out))
      (scene l.agent (g.G.Signer.faults l.signer) (g.I.Source.left l.source) (g.I.Source.faults l.source)
      (g.O.Sink.written l.out) (g.O.Sink.faults l.out));
  signs : (k : PublicKey) (a : SignatureAlgorithm) (m s : List ℕ)
      → g.G.Signer.signs l.signer k a m s ↔ g.G.Signer.signs l.initial.signer k a m s;
  unasked : g.I.Source.tells l.initial.source → HasNoSign (g.I.Source.left l.initial.source)
      → (l.signer ≡ l.initial.signer) × HasNoSign (g.I.Source.left l.source);
  source_tells : g.I.Source.tells l.initial.source → g.I.Source.tells l.source;
  out_tells : g.O.Sink.tells l.initial.out → g.O.Sink.tells l.out;
}
