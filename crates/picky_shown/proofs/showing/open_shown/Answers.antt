-- Reading without a passphrase asks no suite.
use Rattle.picky_wire.specs.Count.{Rose}
use Rattle.picky_key_text.specs.Order.{fault_of}
use Rattle.picky_shown.proofs.OpenLemmas.{open_is_refused, open_leaves}
use Rattle.picky_shown.proofs.showing.open_shown.Goals as goal

pub returns-in-Ok-clause-suite : goal.returns-in-Ok-clause-suite
returns-in-Ok-clause-suite g c =
    open_leaves g.S.Suite.meanings g.S.Suite.faults (fault_of c.args.text.now) _ c.args.text.now c.args.suite.now
    c.read_text.new.suite c.in-Ok.ensures.suite

pub returns-in-Err-clause-gives : goal.returns-in-Err-clause-gives
returns-in-Err-clause-gives g c =
    open_is_refused (g.S.Suite.meanings c.args.suite.now) c.args.text.now c.in-Err.e (fault_of c.args.text.now)
    (Rose (g.S.Suite.faults c.args.suite.now) (g.S.Suite.faults c.read_text.new.suite)) c.in-Err.ensures.gives

pub returns-in-Err-clause-suite : goal.returns-in-Err-clause-suite
returns-in-Err-clause-suite g c =
    open_leaves g.S.Suite.meanings g.S.Suite.faults (fault_of c.args.text.now) _ c.args.text.now c.args.suite.now
    c.read_text.new.suite c.in-Err.ensures.suite
