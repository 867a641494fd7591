-- A key text that is refused leaves the suite as reading did.
use Rattle.picky_conversion.proofs.AnswerLemmas.{refused_leaves, refuses_input}
use Rattle.picky_conversion.specs.Refusal.{input_refusal}
use Rattle.picky_target.specs.declared.error.ConvertError.TheVariants as errors
use Rattle.picky_convert.proofs.command.fingerprint.Goals as goal

pub returns-in-Err-clause-suite : goal.returns-in-Err-clause-suite
returns-in-Err-clause-suite g c =
    rw c.input_refusal.ensures
    (refused_leaves (λ e. errors.Input e) input_refusal refuses_input _ _ _ _ c.args.text.now c.in-Err.e _ _ (λ no. no)
    c.in-Err.ensures.gives c.in-Err.ensures.suite)
