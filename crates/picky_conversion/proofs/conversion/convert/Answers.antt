-- The text is the target's for what the key text means: the copy that is handed on is the target.
use Rattle.picky_conversion.proofs.ToLemmas.{answered_binds, answered_converts, answered_whole}
use Rattle.picky_conversion.specs.To.{way_to}
use Rattle.picky_conversion.proofs.conversion.convert.Goals as goal

pub returns-in-Ok-clause-gives : goal.returns-in-Ok-clause-gives
returns-in-Ok-clause-gives g c = let same = c.in-Ok.ensures in rw same at c.convert_owned.ensures.gives

pub returns-in-Ok-clause-suite : goal.returns-in-Ok-clause-suite
returns-in-Ok-clause-suite g c = let same = c.in-Ok.ensures in rw same at c.convert_owned.ensures.suite

pub returns-in-Ok-clause-signer : goal.returns-in-Ok-clause-signer
returns-in-Ok-clause-signer g c = let same = c.in-Ok.ensures in rw same at c.convert_owned.ensures.signer

pub returns-in-Ok-clause-converts : goal.returns-in-Ok-clause-converts
returns-in-Ok-clause-converts g c =
    let same = c.in-Ok.ensures in
    answered_converts (g.G.Signer.signs c.args.signer.now) _ (way_to c.args.target.now) c.args.input.now _ _ c.convert_owned.result
    (c.is_given.ensures (g.S.Suite.meanings c.args.suite.now)) c.is_target.ensures c.utf8.input (rw same at c.convert_owned.ensures.gives)

pub returns-in-Ok-clause-binds : goal.returns-in-Ok-clause-binds
returns-in-Ok-clause-binds g c =
    let same = c.in-Ok.ensures in
    answered_binds (g.G.Signer.signs c.args.signer.now) _ (way_to c.args.target.now) c.args.input.now _ _ c.convert_owned.result
    (c.is_given.ensures (g.S.Suite.meanings c.args.suite.now)) c.is_target.ensures c.utf8.input (rw same at c.convert_owned.ensures.gives)

pub returns-in-Ok-clause-complete : goal.returns-in-Ok-clause-complete
returns-in-Ok-clause-complete g c = λ meaning.
    let same = c.in-Ok.ensures in
    answered_whole (g.G.Signer.signs c.args.signer.now) _ (way_to c.args.target.now) c.args.input.now _ _ c.convert_owned.result meaning
    (rw same at c.convert_owned.ensures.gives)
