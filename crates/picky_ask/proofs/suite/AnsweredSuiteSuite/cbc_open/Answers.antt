use Rattle.picky_ask.proofs.KnownLemmas.{looks_fills, meant_open}
use Rattle.picky_ask.proofs.TurnLemmas.{looks_asked}
use Rattle.picky_ask.proofs.suite.AnsweredSuiteSuite.cbc_open.Goals as goal

pub returns-clause-fills : goal.returns-clause-fills
returns-clause-fills g c =
    looks_fills g.K.Known.known _ _ c.ask_open.result c.args.block.now c.ask_open.new.block _ c.args.self.now c.ask_open.new.self
    c.ask_open.ensures.looks c.ask_open.ensures.len c.ask_open.ensures.bytes
    (λ is _. meant_open g.K.Known.known c.args.self.now.entries c.args.key.now c.args.iv.now c.args.block.now c.ask_open.new.block is)

pub returns-clause-asked : goal.returns-clause-asked
returns-clause-asked g c = looks_asked _ _ c.ask_open.result c.ask_open.new.block c.args.self.now c.ask_open.new.self c.ask_open.ensures.looks
