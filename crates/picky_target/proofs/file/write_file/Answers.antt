use Rattle.picky_target.specs.inner.File.{plain_written}
use Rattle.picky_target.proofs.FaultLemmas.{plain_written_no_fault, unasked_leaves}
use Rattle.picky_target.proofs.file.write_file.Goals as goal

pub returns-in-None-clause-suite : goal.returns-in-None-clause-suite
returns-in-None-clause-suite g c =
    let m = g.S.Suite.meanings c.args.suite.now in
    unasked_leaves g.S.Suite.meanings g.S.Suite.faults _ _ c.write_plain.result
    (plain_written m c.args.version c.args.layout c.args.key.now c.args.comment) c.args.suite.now
    (plain_written_no_fault m c.args.version c.args.layout c.args.key.now c.args.comment) c.write_plain.ensures
