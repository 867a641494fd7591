-- What a run comes to, from what its status says of the bytes.
use Rattle.picky_conversion.specs.Outside.{outside_of}
use Rattle.picky_convert.specs.Run.{input_for}
use Rattle.picky_convert.proofs.CommandLemmas.{named_fits}
use Rattle.picky_convert.proofs.RunLemmas.{outcome_valid, writes_answer}
use Rattle.picky_convert.proofs.CauseLemmas.{settled, wrote_all}
use Rattle.picky_convert.proofs.program.run.Goals as goal

pub returns-clause-done : goal.returns-clause-done
returns-clause-done g c = λ command named is told_in told_out.
    let o = outside_of (g.S.Suite.meanings c.args.suite.now) c.args.pass_in c.args.pass_out c.args.fresh.now in
    let wrote = wrote_all (g.G.Signer.signs c.args.signer.now) o command _ _ _ _ c.attempt-status.result is
    (c.attempt-status.ensures.ends command named told_in) in
    writes_answer (g.G.Signer.signs c.args.signer.now) o command _ wrote.0 _ _ (c.is_given.ensures (g.S.Suite.meanings c.args.suite.now))
    (named_fits c.args.words.now command named) wrote.1 (wrote.2 told_out)

pub returns-clause-complete : goal.returns-clause-complete
returns-clause-complete g c = λ command named told valid calm_in calm_out calm still.
    let o = outside_of (g.S.Suite.meanings c.args.suite.now) c.args.pass_in c.args.pass_out c.args.fresh.now in
    let made = outcome_valid o command (input_for command (g.I.Source.left c.args.source.now)) valid in
    settled (g.G.Signer.signs c.args.signer.now) o command _ _ _ _ c.attempt-status.result made.0 made.1 calm_in calm_out calm still
    (c.attempt-status.ensures.ends command named told)
