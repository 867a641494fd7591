use Rattle.picky_ask.proofs.KnownLemmas.{looks_fills, meant_seal}
use Rattle.picky_ask.proofs.TurnLemmas.{looks_asked}
use Rattle.picky_ask.proofs.suite.AnsweredSuiteSuite.cbc_seal.Goals as goal

pub returns-clause-fills : goal.returns-clause-fills
returns-clause-fills g c =
    looks_fills g.K.Known.known _ _ c.ask_seal.result c.args.block.now c.ask_seal.new.block _ c.args.self.now c.ask_seal.new.self
    c.ask_seal.ensures.looks c.ask_seal.ensures.len c.ask_seal.ensures.bytes
    (λ is _. meant_seal g.K.Known.known c.args.self.now.entries c.args.key.now c.args.iv.now c.args.block.now c.ask_seal.new.block is)

pub returns-clause-asked : goal.returns-clause-asked
returns-clause-asked g c = looks_asked _ _ c.ask_seal.result c.ask_seal.new.block c.args.self.now c.ask_seal.new.self c.ask_seal.ensures.looks
