-- A text read without a passphrase asks no suite, and its key keeps none.
use Rattle.std.specs.Prelude.{None}
use Rattle.picky_wire.specs.Count.{Rose}
use Rattle.picky_changed.proofs.UnaskedLemmas.{key_is_unread, reading_stays, text_keeps}
use Rattle.picky_changed.proofs.comment.open_key.Goals as goal

pub returns-in-Ok-clause-suite : goal.returns-in-Ok-clause-suite
returns-in-Ok-clause-suite g c =
    reading_stays g.S.Suite.meanings g.S.Suite.faults _ c.args.text.now c.args.suite.now c.from_pem_str.new.suite c.requires
    c.in-Ok.ensures.suite

pub returns-in-Ok-clause-bare : goal.returns-in-Ok-clause-bare
returns-in-Ok-clause-bare g c =
    text_keeps (g.S.Suite.meanings c.args.suite.now) None c.args.text.now c.in-Ok.key c.in-Ok.ensures.gives

pub returns-in-Err-clause-gives : goal.returns-in-Err-clause-gives
returns-in-Err-clause-gives g c =
    key_is_unread (g.S.Suite.meanings c.args.suite.now) c.args.text.now c.in-Err.e c.unread_private.result
    (Rose (g.S.Suite.faults c.args.suite.now) (g.S.Suite.faults c.from_pem_str.new.suite)) c.requires c.unread_private.ensures
    c.in-Err.ensures.gives

pub returns-in-Err-clause-suite : goal.returns-in-Err-clause-suite
returns-in-Err-clause-suite g c =
    reading_stays g.S.Suite.meanings g.S.Suite.faults _ c.args.text.now c.args.suite.now c.from_pem_str.new.suite c.requires
    c.in-Err.ensures.suite
