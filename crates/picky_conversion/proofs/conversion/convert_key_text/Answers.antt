-- What is given has the ranges of its types.
use Rattle.std.proofs.lemmas.Result.{IfOk-weaker}
use Rattle.picky_wire.specs.Count.{Rose}
use Rattle.picky_conversion.specs.Binds.{Binds}
use Rattle.picky_conversion.specs.Convert.{IsConversion}
use Rattle.picky_conversion.specs.Outside.{outside}
use Rattle.picky_conversion.proofs.ToLemmas.{key_answered}
use Rattle.picky_conversion.proofs.conversion.convert_key_text.Goals as goal

pub returns-clause-converts : goal.returns-clause-converts
returns-clause-converts g c =
    let o = outside (g.S.Suite.meanings c.args.suite.now) c.args.given in
    let rose = Rose (g.S.Suite.faults c.args.suite.now) (g.S.Suite.faults c.convert_key.new.suite) in
    IfOk-weaker c.convert_key.result (λ text. IsConversion o c.args.target c.args.input.now text × Binds o c.args.target c.args.input.now text) _
    (λ text both. both.0)
    (key_answered o c.args.target c.args.input.now rose c.convert_key.result (c.is_given.ensures (g.S.Suite.meanings c.args.suite.now))
    c.is_key_target.ensures c.utf8.input c.convert_key.ensures.gives)

pub returns-clause-binds : goal.returns-clause-binds
returns-clause-binds g c =
    let o = outside (g.S.Suite.meanings c.args.suite.now) c.args.given in
    let rose = Rose (g.S.Suite.faults c.args.suite.now) (g.S.Suite.faults c.convert_key.new.suite) in
    IfOk-weaker c.convert_key.result (λ text. IsConversion o c.args.target c.args.input.now text × Binds o c.args.target c.args.input.now text) _
    (λ text both. both.1)
    (key_answered o c.args.target c.args.input.now rose c.convert_key.result (c.is_given.ensures (g.S.Suite.meanings c.args.suite.now))
    c.is_key_target.ensures c.utf8.input c.convert_key.ensures.gives)
