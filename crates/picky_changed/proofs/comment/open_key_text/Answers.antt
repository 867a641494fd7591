-- A key without a passphrase is written without a suite.
use Rattle.picky_wire.specs.Count.{Rose}
use Rattle.picky_changed.proofs.UnaskedLemmas.{key_is_unwritten, writing_stays}
use Rattle.picky_changed.proofs.comment.open_key_text.Goals as goal

pub returns-in-Ok-clause-suite : goal.returns-in-Ok-clause-suite
returns-in-Ok-clause-suite g c =
    writing_stays g.S.Suite.meanings g.S.Suite.faults _ c.args.key.now c.args.suite.now c.to_string.new.suite c.requires
    c.in-Ok.ensures.suite

pub returns-in-Err-clause-gives : goal.returns-in-Err-clause-gives
returns-in-Err-clause-gives g c =
    key_is_unwritten (g.S.Suite.meanings c.args.suite.now) c.args.key.now c.in-Err.e c.private_refusal.result
    (Rose (g.S.Suite.faults c.args.suite.now) (g.S.Suite.faults c.to_string.new.suite)) c.requires c.private_refusal.ensures
    c.in-Err.ensures.gives

pub returns-in-Err-clause-suite : goal.returns-in-Err-clause-suite
returns-in-Err-clause-suite g c =
    writing_stays g.S.Suite.meanings g.S.Suite.faults _ c.args.key.now c.args.suite.now c.to_string.new.suite c.requires
    c.in-Err.ensures.suite
