-- What is answered, from what reading and drafting answer.
use Rattle.picky_conversion.proofs.AnswerLemmas.{refused_leaves, refuses_input}
use Rattle.picky_conversion.proofs.CertifyLemmas.{drafted_gives, drafted_leaves, drafting_refused, input_refused}
use Rattle.std.proofs.Common.{ap}
use Rattle.picky_cert.specs.Spelled.{signed_of}
use Rattle.picky_wire_base.specs.Outcome.{map_ok}
use Rattle.picky_conversion.specs.Outside.{outside}
use Rattle.picky_conversion.specs.Refusal.{input_refusal}
use Rattle.picky_target.specs.declared.error.ConvertError.TheVariants as errors
use Rattle.picky_conversion.proofs.conversion.bytes_to_sign.Goals as goal

pub returns-in-Ok-clause-gives : goal.returns-in-Ok-clause-gives
returns-in-Ok-clause-gives g c =
    let o = outside (g.S.Suite.meanings c.args.suite.now) c.args.given in
    drafted_gives (λ u. signed_of u.certificate) o c.args.request c.args.input.now c.in-Ok.meaning _ c.write_signed_bytes.result
    c.in-Ok.ensures.gives c.write_signed_bytes.ensures

pub returns-in-Ok-clause-suite : goal.returns-in-Ok-clause-suite
returns-in-Ok-clause-suite g c =
    drafted_leaves (λ u. signed_of u.certificate) _ _ c.args.request c.in-Ok.meaning c.args.input.now _ _ c.write_signed_bytes.result
    _ _ c.in-Ok.ensures.suite c.write_signed_bytes.ensures

pub returns-in-Err-clause-gives : goal.returns-in-Err-clause-gives
returns-in-Err-clause-gives g c =
    let o = outside (g.S.Suite.meanings c.args.suite.now) c.args.given in
    rw c.input_refusal.ensures
    (input_refused o c.args.input.now c.in-Err.e _ _ c.in-Err.ensures.gives
    (λ was. ap (map_ok (λ u. signed_of u.certificate)) (drafting_refused o c.args.request c.args.input.now c.in-Err.e was)))

pub returns-in-Err-clause-suite : goal.returns-in-Err-clause-suite
returns-in-Err-clause-suite g c =
    rw c.input_refusal.ensures
    (refused_leaves (λ e. errors.Input e) input_refusal refuses_input _ _ _ _ c.args.input.now c.in-Err.e _ _ (λ no. no)
    c.in-Err.ensures.gives c.in-Err.ensures.suite)
