-- The command that the words name is the one that is carried out.
use Rattle.std.proofs.Common.{◌≡◌, subst}
use Rattle.picky_conversion.specs.Outside.{outside}
use Rattle.picky_convert.specs.Run.{input_for, moment, Ends}
use Rattle.picky_convert.proofs.program.attempt.Goals as goal

pub returns-in-Ok-Some-clause-ends : goal.returns-in-Ok-Some-clause-ends
returns-in-Ok-Some-clause-ends g c = λ command named told.
    let same : c.in-Ok-Some.command ≡ command = cc (named, c.in-Ok-Some.ensures, c.in-Ok-Some.field-0-is) in
    subst (λ k. Ends (g.G.Signer.signs c.args.signer.now) (outside (g.S.Suite.meanings c.args.suite.now) c.args.given) k
    (input_for k (g.I.Source.left c.args.source.now)) (g.O.Sink.tells c.args.out.now)
    (moment (g.O.Sink.written c.args.out.now) (g.I.Source.faults c.args.source.now) (g.O.Sink.faults c.args.out.now)
    (g.S.Suite.faults c.args.suite.now) (g.G.Signer.faults c.args.signer.now))
    (moment (g.O.Sink.written c.carry_out.new.out) (g.I.Source.faults c.carry_out.new.source) (g.O.Sink.faults c.carry_out.new.out)
    (g.S.Suite.faults c.carry_out.new.suite) (g.G.Signer.faults c.carry_out.new.signer)) c.carry_out.result)
    same (c.carry_out.ensures.told told)

pub returns-in-Ok-Some-clause-ends_for_some : goal.returns-in-Ok-Some-clause-ends_for_some
returns-in-Ok-Some-clause-ends_for_some g c = λ command named.
    let same : c.in-Ok-Some.command ≡ command = cc (named, c.in-Ok-Some.ensures, c.in-Ok-Some.field-0-is) in
    let some = c.carry_out.ensures.some in (
      some.0,
      subst (λ k. Ends (g.G.Signer.signs c.args.signer.now) (outside (g.S.Suite.meanings c.args.suite.now) c.args.given) k
          (input_for k some.0) (g.O.Sink.tells c.args.out.now)
          (moment (g.O.Sink.written c.args.out.now) (g.I.Source.faults c.args.source.now) (g.O.Sink.faults c.args.out.now)
          (g.S.Suite.faults c.args.suite.now) (g.G.Signer.faults c.args.signer.now))
          (moment (g.O.Sink.written c.carry_out.new.out) (g.I.Source.faults c.carry_out.new.source) (g.O.Sink.faults c.carry_out.new.out)
          (g.S.Suite.faults c.carry_out.new.suite) (g.G.Signer.faults c.carry_out.new.signer)) c.carry_out.result) same some.1,
    )
