-- Of what `convert` may answer, neither fault is left.
use Rattle.picky.specs.Signs.{SignsAsHanded}
use Rattle.picky_callers.proofs.UnaskedLemmas.{why_refused_by}
use Rattle.picky_callers.proofs.conversion.putty_text.Goals as goal

pub returns-clause-refused : goal.returns-clause-refused
returns-clause-refused c =
    why_refused_by _ c.default.result (SignsAsHanded c.new-signer.result) c.args.input.now _ _ c.convert-converted.result
    (c.no_passphrase_asks_no_suite.ensures c.args.input.now) c.new-suite.ensures.meanings c.default.ensures c.convert-converted.ensures.gives
