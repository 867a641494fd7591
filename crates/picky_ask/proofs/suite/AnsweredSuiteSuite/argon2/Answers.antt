use Rattle.std.proofs.Common.{◌≡◌, ℕ, length, subst, arith}
use Rattle.std.specs.Prelude.{Ok}
use Rattle.picky_ask.specs.declared.question.Head.TheVariants as heads
use Rattle.picky_ask.specs.Lookup.{derivation, question}
use Rattle.picky_ask.proofs.KnownLemmas.{looks_fills, meant_argon2}
use Rattle.picky_ask.proofs.TurnLemmas.{looks_asked}
use Rattle.picky_ask.proofs.suite.AnsweredSuiteSuite.argon2.Goals as goal

pub returns-clause-fills : goal.returns-clause-fills
returns-clause-fills g c =
    let eighty : length c.args.out.now ≡ 80 = omega arith in
    let head = heads.Argon2 c.args.flavour c.args.memory c.args.passes c.args.parallelism c.args.salt.now in
    looks_fills g.K.Known.known _ _ c.ask_argon2.result c.args.out.now c.ask_argon2.new.out _ c.args.self.now c.ask_argon2.new.self
    c.ask_argon2.ensures.looks c.ask_argon2.ensures.len c.ask_argon2.ensures.bytes
    (λ is each. meant_argon2 g.K.Known.known c.args.self.now.entries c.args.flavour c.args.memory c.args.passes c.args.parallelism
    c.args.pass.now c.args.salt.now c.ask_argon2.new.out
    (subst (λ (n : ℕ). derivation (question head c.args.pass.now) n c.args.self.now.entries ≡ Ok c.ask_argon2.new.out) eighty is) each)

pub returns-clause-asked : goal.returns-clause-asked
returns-clause-asked g c = looks_asked _ _ c.ask_argon2.result c.ask_argon2.new.out c.args.self.now c.ask_argon2.new.self c.ask_argon2.ensures.looks
