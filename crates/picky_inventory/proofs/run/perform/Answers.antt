-- A status for which nothing is written.
use Rattle.picky_inventory.specs.Run.{reader}
use Rattle.picky_inventory.proofs.EndLemmas.{comes_ends}
use Rattle.picky_inventory.proofs.run.perform.Goals as goal

pub returns-clause-told : goal.returns-clause-told
returns-clause-told g c = λ told.
    comes_ends (reader (g.S.Suite.meanings c.args.suite.now) c.args.pass) c.args.command (g.I.Source.left c.args.source.now)
    _ _ _ _ _ _ c.in-Err.status (c.in-Err.ensures.told told)

pub returns-clause-some : goal.returns-clause-some
returns-clause-some g c =
    let some = c.in-Err.ensures.some in (
      some.0,
      comes_ends (reader (g.S.Suite.meanings c.args.suite.now) c.args.pass) c.args.command some.0
          _ _ _ _ _ _ c.in-Err.status some.1,
    )

pub returns-clause-suite : goal.returns-clause-suite
returns-clause-suite g c = record {
  kept = c.in-Err.ensures.suite.kept;
  calm = λ other. c.in-Err.ensures.suite.calm (λ is. other (cc is));
  unasked = c.in-Err.ensures.suite.unasked;
}
