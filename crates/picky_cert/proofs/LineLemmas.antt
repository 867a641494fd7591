-- Lemmas on the bytes of a certificate's line.
use Rattle.std.specs.Prelude.{◌≡◌, ◌≢◌, ◌≤◌, ◌⊎◌, List, ℕ, length, Some, Ok, Err}
use Rattle.std.proofs.Common.{sym, ◌∙◌, ap, arith, inl, inr}
use Rattle.picky_wire_base.specs.Numbers.{IsBytes}
use Rattle.picky_wire_base.specs.Outcome.{and_then, map_err, map_ok}
use Rattle.picky_text.specs.Base64.{decoded}
use Rattle.picky_text.proofs.Base64Laws.{base64_is_of_what_it_gives, length_base64}
use Rattle.picky_wire.specs.declared.error.WireError.TheVariants as wire
use Rattle.picky_cert_parts.specs.declared.error.SshCertificateError.{SshCertificateError}
use Rattle.picky_cert_parts.specs.declared.error.SshCertificateError.TheVariants as errors
use Rattle.picky_cert_parts.specs.CertFromWire.{certificate_error}
use Rattle.picky_cert_blob.specs.Reason.{CertReason}
use Rattle.picky_cert.specs.declared.certificate.SshCertificate.{SshCertificate}
use Rattle.picky_cert.specs.Certificate.{certificate, subject_key}
use Rattle.picky_cert.specs.CertRefusal.{cert_error}
use Rattle.picky_cert.specs.LineRefusal.{blob_certificate}
use Rattle.picky_cert.specs.carried.LineOwn.{cert_is_own, own_is_no_fault}

-- no bytes are longer than their base64
pub no_longer_than_base64 : (body bytes : List ℕ) → IsBytes body → decoded body ≡ Some bytes → length bytes ≤ length body
no_longer_than_base64 body bytes each some =
    omega (arith, ap length (base64_is_of_what_it_gives body bytes each some), length_base64 bytes)

-- the certificate of the bytes is the one that is seen
pub blob_certificate_seen : (bytes rest : List ℕ) (c : SshCertificate) → certificate.read bytes ≡ Ok (c, rest)
    → blob_certificate bytes ≡ Ok c
unfolding blob_certificate
blob_certificate_seen bytes rest c read = ap (λ r. map_err cert_error (and_then r (λ first. Ok first.0))) read

-- its refusal is that of the part at which the view is stopped
blob_certificate_refused : (bytes : List ℕ) (reason : CertReason) → certificate.read bytes ≡ Err reason
    → blob_certificate bytes ≡ Err (cert_error reason)
unfolding blob_certificate
blob_certificate_refused bytes reason read = ap (λ r. map_err cert_error (and_then r (λ first. Ok first.0))) read

pub refused_as : (bytes : List ℕ) (reason : CertReason) (e : SshCertificateError) → certificate.read bytes ≡ Err reason
    → (e ≡ cert_error reason) ⊎ (e ≡ errors.NoMemory) → (e ≡ errors.NoMemory) ⊎ (blob_certificate bytes ≡ Err e)
refused_as bytes reason e read (inl is) = inr (blob_certificate_refused bytes reason read ∙ ap (λ x. Err x) (sym is))
refused_as bytes reason e read (inr want) = inl want

-- nor has it a subject then
pub no_subject : (bytes : List ℕ) (e : SshCertificateError) → (e ≡ errors.NoMemory) ⊎ (blob_certificate bytes ≡ Err e)
    → (e ≡ errors.NoMemory) ⊎ (map_ok subject_key (blob_certificate bytes) ≡ Err e)
no_subject bytes e (inl want) = inl want
no_subject bytes e (inr refused) = inr (ap (map_ok subject_key) refused)

-- and no part is refused for a fault
pub part_is_no_fault : (reason : CertReason) → cert_error reason ≢ certificate_error wire.ReadFault
part_is_no_fault reason = own_is_no_fault (cert_error reason) (cert_is_own reason)
