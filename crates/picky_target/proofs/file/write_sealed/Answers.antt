use Rattle.picky_target.specs.inner.File.{plain_drafted}
use Rattle.picky_target.proofs.FaultLemmas.{plain_no_fault, refusal_leaves}
use Rattle.picky_target.proofs.file.write_sealed.Goals as goal

pub returns-in-Err-plain_file-clause-suite : goal.returns-in-Err-plain_file-clause-suite
returns-in-Err-plain_file-clause-suite g c =
    let m = g.S.Suite.meanings c.args.suite.now in
    let salt = c.in-Ok.fresh.salt.now in
    let padding = c.in-Ok.fresh.padding.now in
    refusal_leaves g.S.Suite.meanings g.S.Suite.faults _ c.in-Err-plain_file.e
    (plain_drafted m c.args.version c.args.config c.args.layout c.args.key.now c.args.comment salt padding) c.args.suite.now
    (plain_no_fault m c.args.version c.args.config c.args.layout c.args.key.now c.args.comment salt padding)
    c.in-Err-plain_file.ensures.gives
