-- Who reads without a passphrase asks no suite, so what is refused is the text.
use Rattle.std.proofs.Common.{None, refl}
use Rattle.picky_key_text.specs.Order.{reading}
use Rattle.picky_suite.specs.Meanings.{plain}
use Rattle.picky_target.specs.declared.error.ConvertError.TheVariants as conversions
use Rattle.picky_certify.specs.declared.error.CertifyError.TheVariants as errors
use Rattle.picky_certify.proofs.AskedLemmas.{refused_as, text_is_refused}
use Rattle.picky_certify.proofs.asked.meaning_of.Goals as goal

pub returns-in_default : goal.returns-in_default
returns-in_default c =
    refused_as (λ e. conversions.Input e) (reading (record { meanings = plain; pass = None }) c.args.key.now) c.in-Err.e
    (errors.Refused (conversions.Input c.in-Err.e)) refl c.in_default.not-NoMemory
    (text_is_refused _ c.args.key.now c.in-Err.e _ c.new-suite.ensures.meanings c.in-Err.ensures.gives)
