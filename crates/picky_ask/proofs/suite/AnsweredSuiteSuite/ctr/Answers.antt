use Rattle.picky_ask.proofs.KnownLemmas.{looks_fills, meant_ctr}
use Rattle.picky_ask.proofs.TurnLemmas.{looks_asked}
use Rattle.picky_ask.proofs.suite.AnsweredSuiteSuite.ctr.Goals as goal

pub returns-clause-fills : goal.returns-clause-fills
returns-clause-fills g c =
    looks_fills g.K.Known.known _ _ c.ask_ctr.result c.args.block.now c.ask_ctr.new.block _ c.args.self.now c.ask_ctr.new.self
    c.ask_ctr.ensures.looks c.ask_ctr.ensures.len c.ask_ctr.ensures.bytes
    (λ is _. meant_ctr g.K.Known.known c.args.self.now.entries c.args.key.now c.args.iv.now c.args.block.now c.ask_ctr.new.block is)

pub returns-clause-asked : goal.returns-clause-asked
returns-clause-asked g c = looks_asked _ _ c.ask_ctr.result c.ask_ctr.new.block c.args.self.now c.ask_ctr.new.self c.ask_ctr.ensures.looks
