-- What is answered of a certificate that was signed.
use Rattle.std.specs.Prelude.{◌≡◌, ◌≢◌, ◌<◌, ◌^◌, List, ℕ, Result, Ok, Err, IfOk, IfErr, length}
use Rattle.std.proofs.Common.{refl, sym, subst, inl, inr}
use Rattle.picky_cert_parts.specs.declared.error.SshCertificateError.TheVariants as lines
use Rattle.picky_cert_parts.specs.Signature.{IsSignature}
use Rattle.picky_cert.specs.declared.certificate.SshCertificate.{SshCertificate}
use Rattle.picky_cert.specs.Line.{IsReadBackCertificate}
use Rattle.picky_cert.specs.LineRefusal.{cert_line_text}
use Rattle.picky_cert.specs.Spelled.{cert_line_of}
use Rattle.picky_cert_builder.specs.Draft.{IsSigned, Unsigned, signed_with}
use Rattle.picky_cert_builder.specs.Keeps.{without_key_comments}
use Rattle.picky_cert_builder.proofs.MadeLaws.{signed_line}
use Rattle.picky_target.specs.declared.error.ConvertError.{ConvertError}
use Rattle.picky_target.specs.declared.error.ConvertError.TheVariants as errors
use Rattle.picky_conversion.specs.Certified.{Certifies, SignRelation}
use Rattle.picky_conversion.specs.inner.Signed.{IsReadBack}

signed_is_kept_back : (u : Unsigned) (c : SshCertificate) (bytes text : List ℕ) → c ≡ signed_with u.certificate bytes
    → IsReadBack u.certificate → IsSignature c.signature → cert_line_text c ≡ Ok text → IsReadBackCertificate (without_key_comments c)
signed_is_kept_back u c bytes text same back ranges written =
    subst (λ d. IsReadBackCertificate (without_key_comments d)) (sym same)
    (back bytes (subst (λ d. IsSignature d.signature) same ranges)
    (subst (λ d. length (cert_line_of d) < 2 ^ 32) same (signed_line c text written).1))

pub signed_line_answers : (signs : SignRelation) (u : Unsigned) (c : SshCertificate) (rose : Type 0) (r : Result (List ℕ) ConvertError)
    → IsReadBack u.certificate → IsSigned signs u c → IsSignature c.signature → IfOk r (λ text. cert_line_text c ≡ Ok text)
    → (r ≡ Err errors.TooLong → cert_line_text c ≡ Err lines.TooLong)
    → IfErr r (λ e. e ≢ errors.TooLong → e ≡ errors.NoMemory) → Certifies signs (Ok u) rose r
signed_line_answers signs u c rose (Ok text) back signed ranges ok long others =
    (c, signed, signed_is_kept_back u c signed.0 text signed.1 back ranges ok, ok)
signed_line_answers signs u c rose (Err errors.TooLong) back signed ranges ok long others =
    inr (inr (refl, (c, signed, long refl)))
signed_line_answers signs u c rose (Err e) back signed ranges ok long others = inl (others (λ is. cc is))
