-- Who reads without a passphrase asks no suite, so what is refused is the text.
use Rattle.std.proofs.Common.{None, refl}
use Rattle.picky_key_text.specs.Order.{reading}
use Rattle.picky_suite.specs.Meanings.{plain}
use Rattle.picky_target.specs.declared.error.ConvertError.TheVariants as conversions
use Rattle.picky_certify.specs.declared.error.CertifyError.TheVariants as errors
use Rattle.picky_certify.proofs.AskedLemmas.{refused_as, refused_issuer, text_is_refused}
use Rattle.picky_certify.proofs.asked.issuer_of.Goals as goal

pub returns-in_default : goal.returns-in_default
returns-in_default c =
    let g = errors.Refused (conversions.Issuer c.in-Err.e) in
    let read = reading (record { meanings = plain; pass = None }) c.args.issuer.now in
    refused_issuer read g (refused_as (λ e. conversions.Issuer e) read c.in-Err.e g refl c.in_default.not-NoMemory
    (text_is_refused _ c.args.issuer.now c.in-Err.e _ c.new-suite.ensures.meanings c.in-Err.ensures.gives))
