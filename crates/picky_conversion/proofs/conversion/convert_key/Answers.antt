-- What a conversion answers, from what reading and writing answer.
use Rattle.picky_conversion.proofs.AnswerLemmas.{asks_neither, key_refused, refused_leaves, refuses_input, written_gives, written_leaves}
use Rattle.picky_conversion.specs.Outside.{outside}
use Rattle.picky_conversion.specs.Refusal.{input_refusal}
use Rattle.picky_target.specs.declared.error.ConvertError.TheVariants as errors
use Rattle.picky_conversion.proofs.conversion.convert_key.Goals as goal

pub returns-in-Ok-clause-gives : goal.returns-in-Ok-clause-gives
returns-in-Ok-clause-gives g c =
    written_gives _ _ c.args.target c.args.input.now c.in-Ok.meaning _ _ _ _ c.write_text.result c.in-Ok.ensures.gives
    c.in-Ok.ensures.suite.kept c.in-Ok.ensures.suite.calm c.write_text.ensures.gives

pub returns-in-Ok-clause-suite : goal.returns-in-Ok-clause-suite
returns-in-Ok-clause-suite g c =
    written_leaves _ _ _ _ c.args.target c.args.input.now c.in-Ok.meaning c.write_text.result _ _ _ c.in-Ok.ensures.gives
    c.in-Ok.ensures.suite c.write_text.ensures.gives c.write_text.ensures.suite

pub returns-in-Err-clause-gives : goal.returns-in-Err-clause-gives
returns-in-Err-clause-gives g c =
    let o = outside (g.S.Suite.meanings c.args.suite.now) c.args.given in
    rw c.input_refusal.ensures
    (key_refused o c.args.target c.args.input.now c.in-Err.e _ c.in-Err.ensures.gives)

pub returns-in-Err-clause-suite : goal.returns-in-Err-clause-suite
returns-in-Err-clause-suite g c =
    rw c.input_refusal.ensures
    (refused_leaves (λ e. errors.Input e) input_refusal refuses_input _ _ _ _ c.args.input.now c.in-Err.e _ _
    (λ no. (asks_neither _ c.args.target c.args.input.now no).0) c.in-Err.ensures.gives c.in-Err.ensures.suite)
