-- Nothing is opened and nothing sealed, so the suite isn't asked, and no fault can be its.
use Rattle.picky_wire.specs.Count.{Rose}
use Rattle.picky_convert.proofs.AnswerLemmas.{converted_wants}
use Rattle.picky_convert.proofs.AskedLemmas.{converting_asks_none}
use Rattle.picky_convert.proofs.texts.converted.Goals as goal

pub want_of-requires : goal.want_of-requires
want_of-requires g c =
    let m = g.S.Suite.meanings c.args.suite.now in
    let rose = Rose (g.S.Suite.faults c.args.suite.now) (g.S.Suite.faults c.convert_key_text.new.suite) in
    converted_wants m c.args.target c.args.from.now c.in-Err.e rose c.requires c.in-Err.ensures.gives

pub returns-in-Ok-clause-suite : goal.returns-in-Ok-clause-suite
returns-in-Ok-clause-suite g c =
    c.convert_key_text.ensures.suite.unasked (converting_asks_none (g.S.Suite.meanings c.args.suite.now) c.args.target c.args.from.now)

pub returns-in-Err-clause-suite : goal.returns-in-Err-clause-suite
returns-in-Err-clause-suite g c =
    c.convert_key_text.ensures.suite.unasked (converting_asks_none (g.S.Suite.meanings c.args.suite.now) c.args.target c.args.from.now)
