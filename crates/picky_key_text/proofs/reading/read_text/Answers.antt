-- What is answered in the text's form is answered for the text.
use Rattle.std.specs.Option.{option_copied}
use Rattle.picky_wire.specs.Count.{Rose}
use Rattle.picky_key_text.specs.Order.{asks, fault_of}
use Rattle.picky_key_text.proofs.ReadingLaws.{given_means, given_meaning, text_gives, text_leaves}
use Rattle.picky_key_text.proofs.reading.read_text.Goals as goal

pub returns-clause-gives : goal.returns-clause-gives
returns-clause-gives g c =
    text_gives c.read_as.result c.form_of.result (g.S.Suite.meanings c.args.suite.now) (option_copied c.args.pass)
    c.args.input.now (Rose (g.S.Suite.faults c.args.suite.now) (g.S.Suite.faults c.read_as.new.suite)) c.form_of.ensures
    c.read_as.ensures.gives

pub returns-clause-suite : goal.returns-clause-suite
returns-clause-suite g c =
    text_leaves g.S.Suite.meanings g.S.Suite.faults c.read_as.result c.form_of.result (option_copied c.args.pass)
    c.args.input.now c.args.suite.now c.read_as.new.suite c.form_of.ensures c.read_as.ensures.suite

pub returns-clause-means : goal.returns-clause-means
returns-clause-means g c =
    given_means c.read_as.result (fault_of c.args.input.now) (record { meanings = g.S.Suite.meanings c.args.suite.now; pass = option_copied c.args.pass })
    c.args.input.now (asks (option_copied c.args.pass) c.args.input.now)
    (Rose (g.S.Suite.faults c.args.suite.now) (g.S.Suite.faults c.read_as.new.suite)) c.utf8.input c.pass_is_bytes.ensures
    (returns-clause-gives g c)

pub returns-clause-complete : goal.returns-clause-complete
returns-clause-complete g c =
    given_meaning c.read_as.result (fault_of c.args.input.now) (record { meanings = g.S.Suite.meanings c.args.suite.now; pass = option_copied c.args.pass })
    c.args.input.now (asks (option_copied c.args.pass) c.args.input.now)
    (Rose (g.S.Suite.faults c.args.suite.now) (g.S.Suite.faults c.read_as.new.suite)) (returns-clause-gives g c)
