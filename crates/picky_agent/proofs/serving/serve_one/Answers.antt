-- One turn: what was taken, what the agent answered, and what was put.
use Rattle.std.proofs.Common.{Result, Ok, Err}
use Rattle.std.specs.Prelude.{OnOk}
use Rattle.picky_agent.proofs.TurnLemmas.{serves_end, serves_put, serves_refused, serves_unanswered, turn_asks_none, turn_goes_on}
use Rattle.picky_agent.proofs.serving.serve_one.Goals as goal

pub returns-in-Ok-clause-serves : goal.returns-in-Ok-clause-serves
returns-in-Ok-clause-serves g c =
    serves_put (g.G.Signer.signs c.args.signer.now) g.I.Source.tells g.I.Source.left g.I.Source.faults
    g.O.Sink.tells g.O.Sink.written g.O.Sink.faults c.in-Ok-Some.message c.in-Ok.reply c.put.result
    c.args.agent.now c.answer.new.self (g.G.Signer.faults c.args.signer.now) (g.G.Signer.faults c.answer.new.signer)
    c.args.source.now c.take_message.new.source c.args.out.now c.put.new.out
    (rw c.in-Ok-Some.field-0-is at c.in-Ok-Some.ensures) (rw c.as_slice.ensures.bytes at c.in-Ok.ensures.step) c.put.ensures

pub returns-in-Ok-Some-clause-serves : goal.returns-in-Ok-Some-clause-serves
returns-in-Ok-Some-clause-serves g c =
    serves_unanswered (g.G.Signer.signs c.args.signer.now) g.I.Source.tells g.I.Source.left g.I.Source.faults
    (g.O.Sink.tells c.args.out.now) c.in-Ok-Some.message c.args.agent.now c.answer.new.self
    (g.G.Signer.faults c.args.signer.now) (g.G.Signer.faults c.answer.new.signer) c.args.source.now c.take_message.new.source
    (g.O.Sink.written c.args.out.now) (g.O.Sink.faults c.args.out.now)
    (rw c.in-Ok-Some.field-0-is at c.in-Ok-Some.ensures) c.in-Err-answer.ensures.unchanged c.in-Err-answer.ensures.never_falls

pub returns-in-Ok-None-clause-serves : goal.returns-in-Ok-None-clause-serves
returns-in-Ok-None-clause-serves g c =
    serves_end (g.G.Signer.signs c.args.signer.now) g.I.Source.tells g.I.Source.left g.I.Source.faults
    (g.O.Sink.tells c.args.out.now) c.args.agent.now (g.G.Signer.faults c.args.signer.now)
    c.args.source.now c.take_message.new.source (g.O.Sink.written c.args.out.now) (g.O.Sink.faults c.args.out.now)
    (rw c.in-Ok-None.field-0-is at c.in-Ok-None.ensures)

pub returns-clause-serves : goal.returns-clause-serves
returns-clause-serves g c =
    rw c.frame_status.ensures
    (serves_refused (g.G.Signer.signs c.args.signer.now) g.I.Source.tells g.I.Source.left g.I.Source.faults
    (g.O.Sink.tells c.args.out.now) c.in-Err.e c.args.agent.now (g.G.Signer.faults c.args.signer.now)
    c.args.source.now c.take_message.new.source (g.O.Sink.written c.args.out.now) (g.O.Sink.faults c.args.out.now) c.in-Err.ensures)

-- what asks for no signature

pub returns-in-Ok-clause-unasked : goal.returns-in-Ok-clause-unasked
returns-in-Ok-clause-unasked g c = λ told none.
    c.in-Ok.ensures.unasked (turn_asks_none g.I.Source.tells g.I.Source.left g.I.Source.faults c.in-Ok-Some.message c.as_slice.result.now
    c.args.agent.now c.args.source.now c.take_message.new.source (rw c.in-Ok-Some.field-0-is at c.in-Ok-Some.ensures)
    c.as_slice.ensures.bytes told none)

pub returns-in-Ok-clause-goes_on : goal.returns-in-Ok-clause-goes_on
returns-in-Ok-clause-goes_on g c = λ told none.
    go c.put.result (turn_goes_on g.I.Source.tells g.I.Source.left g.I.Source.faults c.in-Ok-Some.message
    c.args.source.now c.take_message.new.source (rw c.in-Ok-Some.field-0-is at c.in-Ok-Some.ensures) told none)
  where
    go : {A E P : Type 0} (r : Result A E) → P → OnOk r P
    go (Ok done) here = here
    go (Err e) here = tt

pub returns-in-Ok-Some-clause-unasked : goal.returns-in-Ok-Some-clause-unasked
returns-in-Ok-Some-clause-unasked g c = λ told none.
    c.in-Err-answer.ensures.unasked (turn_asks_none g.I.Source.tells g.I.Source.left g.I.Source.faults c.in-Ok-Some.message
    c.as_slice.result.now c.args.agent.now c.args.source.now c.take_message.new.source
    (rw c.in-Ok-Some.field-0-is at c.in-Ok-Some.ensures) c.as_slice.ensures.bytes told none)
