-- The answer that is written, or a status for which nothing is.
use Rattle.std.proofs.Common.{string_bytes}
use Rattle.picky_policy.specs.Command.{asked_by}
use Rattle.picky_policy.proofs.RunLemmas.{comes_ends, done_ends, prefix_ends}
use Rattle.picky_policy.proofs.run.perform.Goals as goal

pub returns-in-Ok-put-clause-ends : goal.returns-in-Ok-put-clause-ends
returns-in-Ok-put-clause-ends g c = λ told.
    done_ends (g.V.Verifier.verifies c.args.verifier.now) (asked_by c.args.command) (g.I.Source.left c.args.source.now)
    _ _ _ _ _ _ c.in-Ok.answer.status (string_bytes c.in-Ok.answer.text) c.as_bytes.result.now (c.in-Ok.ensures.comes told)
    c.as_bytes.ensures.value c.in-Ok-put.ensures.writes

pub returns-in-Ok-put-clause-ends_for_some : goal.returns-in-Ok-put-clause-ends_for_some
returns-in-Ok-put-clause-ends_for_some g c =
    let some = c.in-Ok.ensures.comes_for_some in (
      some.0,
      done_ends (g.V.Verifier.verifies c.args.verifier.now) (asked_by c.args.command) some.0
          _ _ _ _ _ _ c.in-Ok.answer.status (string_bytes c.in-Ok.answer.text) c.as_bytes.result.now some.1
          c.as_bytes.ensures.value c.in-Ok-put.ensures.writes,
    )

pub returns-in-Ok-clause-ends_for_some : goal.returns-in-Ok-clause-ends_for_some
returns-in-Ok-clause-ends_for_some g c =
    let some = c.in-Ok.ensures.comes_for_some in (
      some.0,
      prefix_ends (g.V.Verifier.verifies c.args.verifier.now) (asked_by c.args.command) some.0
          _ _ _ _ _ _ c.in-Err-put.fault c.in-Ok.answer.status (string_bytes c.in-Ok.answer.text) c.as_bytes.result.now
          c.in-Err-put.ensures.cause some.1 c.as_bytes.ensures.value c.in-Err-put.ensures.writes,
    )

pub returns-clause-ends : goal.returns-clause-ends
returns-clause-ends g c = λ told.
    comes_ends (g.V.Verifier.verifies c.args.verifier.now) (asked_by c.args.command) (g.I.Source.left c.args.source.now)
    _ _ _ _ _ _ c.in-Err.status (c.in-Err.ensures.comes told)

pub returns-clause-ends_for_some : goal.returns-clause-ends_for_some
returns-clause-ends_for_some g c =
    let some = c.in-Err.ensures.comes_for_some in (
      some.0,
      comes_ends (g.V.Verifier.verifies c.args.verifier.now) (asked_by c.args.command) some.0 _ _ _ _ _ _ c.in-Err.status some.1,
    )
