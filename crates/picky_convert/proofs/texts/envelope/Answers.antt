-- What is written of the key is its text; nothing is sealed, so the suite isn't asked.
use Rattle.std.proofs.Common.{arith}
use Rattle.picky_wire.specs.Count.{Rose}
use Rattle.picky_convert.specs.SampleTexts.{openssh}
use Rattle.picky_convert.proofs.AnswerLemmas.{first_is, first_wants}
use Rattle.picky_convert.proofs.AskedLemmas.{writing_asks_none}
use Rattle.picky_convert.proofs.texts.envelope.Goals as goal

pub want_of-requires : goal.want_of-requires
want_of-requires g c =
    let rose = Rose (g.S.Suite.faults c.args.suite.now) (g.S.Suite.faults c.write_text.new.suite) in
    first_wants (g.S.Suite.meanings c.args.suite.now) c.args.number c.in-Ok.meaning c.in-Err-write_text.e rose (omega arith)
    c.in-Ok.ensures c.in-Err-write_text.ensures.gives

pub returns-in-Ok-write_text-clause-text : goal.returns-in-Ok-write_text-clause-text
returns-in-Ok-write_text-clause-text g c =
    first_is (g.S.Suite.meanings c.args.suite.now) c.args.number c.in-Ok.meaning c.in-Ok-write_text.text (omega arith) c.in-Ok.ensures
    c.in-Ok-write_text.ensures.gives

pub returns-in-Ok-write_text-clause-suite : goal.returns-in-Ok-write_text-clause-suite
returns-in-Ok-write_text-clause-suite g c = c.write_text.ensures.suite.unasked (writing_asks_none openssh c.in-Ok.meaning)

pub returns-in-Err-write_text-clause-suite : goal.returns-in-Err-write_text-clause-suite
returns-in-Err-write_text-clause-suite g c = c.write_text.ensures.suite.unasked (writing_asks_none openssh c.in-Ok.meaning)
