-- One turn after another, until one ends it or there were too many.
use Rattle.std.proofs.Common.{◌∙◌, ap, arith, refl, Err}
use Rattle.picky_agent.proofs.EndingLaws.{served_tells}
use Rattle.picky_agent.proofs.ServedLemmas.{served_by, served_many, serves_joined, serves_none}
use Rattle.picky_agent.proofs.serving.serve.Goals as goal

pub returns-in-Err-clause-served : goal.returns-in-Err-clause-served
returns-in-Err-clause-served g c =
    served_by (g.G.Signer.signs c.messages.signer) (g.G.Signer.signs c.args.signer.now)
    (g.I.Source.tells c.args.source.now) (g.O.Sink.tells c.args.out.now)
    (g.I.Source.tells c.messages.source) (g.O.Sink.tells c.messages.out)
    c.in-Err.status c.messages.answered _ _ _
    (λ k a m s. (c.messages.invariant.signs k a m s).0)
    c.messages.invariant.source_tells c.messages.invariant.out_tells (omega arith) (λ same. c.in-Err.ensures.few (ap Err same))
    c.messages.invariant.serves c.in-Err.ensures.serves

pub returns-in-Err-clause-ending : goal.returns-in-Err-clause-ending
returns-in-Err-clause-ending g c = λ told messages ending ends.
    served_tells _ _ _ c.in-Err.status _ _ (returns-in-Err-clause-served g c) told messages ending ends

pub returns-clause-served : goal.returns-clause-served
returns-clause-served g c =
    served_many (g.G.Signer.signs c.args.signer.now) (g.I.Source.tells c.args.source.now) (g.O.Sink.tells c.args.out.now)
    c.messages.answered _ _ (omega arith) c.messages.invariant.serves

pub messages-init : goal.messages-init
messages-init g c = record {
  serves = serves_none (g.G.Signer.signs c.args.signer.now) (g.I.Source.tells c.args.source.now) (g.O.Sink.tells c.args.out.now) _;
  signs = λ k a m s. (λ good. good, λ good. good);
  unasked = λ told none. (refl, none);
  source_tells = λ told. told;
  out_tells = λ told. told;
}

pub messages-preserved : goal.messages-preserved
messages-preserved g c = record {
  serves = serves_joined (g.G.Signer.signs c.messages.signer) (g.G.Signer.signs c.args.signer.now)
      (g.I.Source.tells c.args.source.now) (g.O.Sink.tells c.args.out.now)
      (g.I.Source.tells c.messages.source) (g.O.Sink.tells c.messages.out)
      _ c.messages.answered 1 _ _ _
      (λ k a m s. (c.messages.invariant.signs k a m s).0)
      c.messages.invariant.source_tells c.messages.invariant.out_tells
      c.messages.invariant.serves c.in-Ok.ensures.serves;
  signs = λ k a m s.
      let turn = c.in-Ok.ensures.signs k a m s in
      let before = c.messages.invariant.signs k a m s in
      (λ good. before.0 (turn.0 good), λ good. turn.1 (before.1 good));
  unasked = λ told none.
      let before = c.messages.invariant.unasked told none in
      let tells = c.messages.invariant.source_tells told in
      (c.in-Ok.ensures.unasked tells before.1 ∙ before.0, c.in-Ok.ensures.goes_on tells before.1);
  source_tells = λ told. c.in-Ok.ensures.source_tells (c.messages.invariant.source_tells told);
  out_tells = λ told. c.in-Ok.ensures.out_tells (c.messages.invariant.out_tells told);
}
