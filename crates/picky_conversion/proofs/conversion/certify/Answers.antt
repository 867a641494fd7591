-- What is answered, from what reading and signing answer.
use Rattle.picky_conversion.proofs.AnswerLemmas.{refused_leaves, refuses_input}
use Rattle.picky_conversion.proofs.CertifyLemmas.{certification_refused, certified_gives, certified_leaves, certified_signer}
use Rattle.picky_conversion.proofs.CertifyLemmas.{input_refused, refused_made, still}
use Rattle.picky_wire.specs.Count.{Rose}
use Rattle.picky_conversion.specs.Certify.{IsInputFault, certification}
use Rattle.picky_conversion.specs.Made.{ToSign}
use Rattle.picky_conversion.specs.Outside.{outside}
use Rattle.picky_conversion.specs.Refusal.{input_refusal}
use Rattle.picky_target.specs.declared.error.ConvertError.TheVariants as errors
use Rattle.picky_conversion.proofs.conversion.certify.Goals as goal

pub returns-in-Ok-clause-gives : goal.returns-in-Ok-clause-gives
returns-in-Ok-clause-gives g c =
    let o = outside (g.S.Suite.meanings c.args.suite.now) c.args.given in
    certified_gives (g.G.Signer.signs c.args.signer.now) o c.args.request c.args.input.now c.in-Ok.meaning _ _ c.write_certificate.result c.in-Ok.ensures.gives
    c.write_certificate.ensures.answers

pub returns-in-Ok-clause-suite : goal.returns-in-Ok-clause-suite
returns-in-Ok-clause-suite g c =
    certified_leaves _ _ (g.G.Signer.signs c.args.signer.now) _ c.in-Ok.meaning c.args.input.now _ _ _ c.write_certificate.result _ _ c.in-Ok.ensures.suite
    c.write_certificate.ensures.answers

pub returns-in-Ok-clause-signer : goal.returns-in-Ok-clause-signer
returns-in-Ok-clause-signer g c =
    let o = outside (g.S.Suite.meanings c.args.suite.now) c.args.given in
    certified_signer _ _ o c.args.request c.args.input.now c.in-Ok.meaning c.write_certificate.result _ _ c.in-Ok.ensures.gives
    c.write_certificate.ensures.signer

pub returns-in-Err-clause-gives : goal.returns-in-Err-clause-gives
returns-in-Err-clause-gives g c =
    let o = outside (g.S.Suite.meanings c.args.suite.now) c.args.given in
    let rose = Rose (g.S.Suite.faults c.args.suite.now) (g.S.Suite.faults c.read_text.new.suite) in
    rw c.input_refusal.ensures
    (refused_made (g.G.Signer.signs c.args.signer.now) (λ text. text) ToSign (certification o c.args.request c.args.input.now) (λ e. IsInputFault o c.args.input.now e rose) _ (input_refusal c.in-Err.e)
    (input_refused o c.args.input.now c.in-Err.e rose (certification o c.args.request c.args.input.now) c.in-Err.ensures.gives
    (certification_refused o c.args.request c.args.input.now c.in-Err.e)))

pub returns-in-Err-clause-suite : goal.returns-in-Err-clause-suite
returns-in-Err-clause-suite g c =
    rw c.input_refusal.ensures
    (refused_leaves (λ e. errors.Input e) input_refusal refuses_input _ _ _ _ c.args.input.now c.in-Err.e _ _ (λ no. no)
    c.in-Err.ensures.gives c.in-Err.ensures.suite)

pub returns-in-Err-clause-signer : goal.returns-in-Err-clause-signer
returns-in-Err-clause-signer g c = still _ _ _ _ _
