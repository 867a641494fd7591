use Rattle.picky_ask.proofs.KnownLemmas.{looks_fills, meant_bcrypt}
use Rattle.picky_ask.proofs.TurnLemmas.{looks_asked}
use Rattle.picky_ask.proofs.suite.AnsweredSuiteSuite.bcrypt.Goals as goal

pub returns-clause-fills : goal.returns-clause-fills
returns-clause-fills g c =
    looks_fills g.K.Known.known _ _ c.ask_bcrypt.result c.args.out.now c.ask_bcrypt.new.out _ c.args.self.now c.ask_bcrypt.new.self
    c.ask_bcrypt.ensures.looks c.ask_bcrypt.ensures.len c.ask_bcrypt.ensures.bytes
    (meant_bcrypt g.K.Known.known c.args.self.now.entries c.args.pass.now c.args.salt.now c.args.rounds _ c.ask_bcrypt.new.out)

pub returns-clause-asked : goal.returns-clause-asked
returns-clause-asked g c = looks_asked _ _ c.ask_bcrypt.result c.ask_bcrypt.new.out c.args.self.now c.ask_bcrypt.new.self c.ask_bcrypt.ensures.looks
