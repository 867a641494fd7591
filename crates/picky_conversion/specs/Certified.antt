-- What a call promises that has a device sign a certificate and writes its line.
use Rattle.std.specs.Prelude.{◌≡◌, ◌≢◌, ◌↔◌, ◌⊎◌, List, ℕ, Result, Ok, Err, IfErr}
use Rattle.picky_keys.specs.declared.algorithm.SignatureAlgorithm.{SignatureAlgorithm}
use Rattle.picky_keys.specs.declared.public_key.PublicKey.{PublicKey}
pub use Rattle.picky_suite.specs.Signs.{SignRelation}
use Rattle.picky_cert_parts.specs.declared.error.SshCertificateError.TheVariants as lines
use Rattle.picky_cert.specs.declared.certificate.SshCertificate.{SshCertificate}
use Rattle.picky_cert.specs.Line.{IsReadBackCertificate}
use Rattle.picky_cert.specs.LineRefusal.{cert_line_text}
use Rattle.picky_cert_builder.specs.declared.error.SshCertificateGenerationError.TheVariants as requests
use Rattle.picky_cert_builder.specs.Draft.{IsSigned, Unsigned}
use Rattle.picky_cert_builder.specs.Keeps.{without_key_comments}
use Rattle.picky_target.specs.declared.error.ConvertError.{ConvertError}
use Rattle.picky_target.specs.declared.error.ConvertError.TheVariants as errors

-- the text is the line of the certificate with a good signature of exactly its signed bytes, and one that is read back, the
-- comments of its keys aside
abbrev pub IsLineOf : SignRelation → Unsigned → (text : List ℕ) → Type 0
IsLineOf signs u text =
    (c : SshCertificate) × IsSigned signs u c × IsReadBackCertificate (without_key_comments c) × (cert_line_text c ≡ Ok text)

-- there is a good signature with which the line is too long
abbrev pub IsLineTooLong : SignRelation → Unsigned → Type 0
IsLineTooLong signs u = (c : SshCertificate) × IsSigned signs u c × (cert_line_text c ≡ Err lines.TooLong)

-- why a certificate that is to be signed has no line: the device's fault, or a signature with which the line is too long
abbrev pub IsUnsigned : SignRelation → Unsigned → Type 0 → ConvertError → Type 0
IsUnsigned signs u rose e =
    ((e ≡ errors.Request requests.SignatureError) × rose) ⊎ ((e ≡ errors.TooLong) × IsLineTooLong signs u)

-- the line; or want of memory, the first reason why nothing is signed, or, where there is none, why it has no line
abbrev pub Certifies : SignRelation → Result Unsigned ConvertError → Type 0 → Result (List ℕ) ConvertError → Type 0
Certifies signs (Ok u) rose (Ok text) = IsLineOf signs u text
Certifies signs (Ok u) rose (Err e) = (e ≡ errors.NoMemory) ⊎ IsUnsigned signs u rose e
Certifies signs (Err refused) rose (Ok text) = ⊥
Certifies signs (Err refused) rose (Err e) = (e ≡ errors.NoMemory) ⊎ (e ≡ refused)

-- which signatures are good stays; a fault is counted only where it is answered; a device that isn't asked is as it was
pub record LeavesDraftSigner {S A : Type 0} (signs : S → SignRelation) (faults : S → ℕ) (says : Result Unsigned ConvertError)
    (result : Result A ConvertError) (old new : S) : Type 0 where
  pub kept : (k : PublicKey) (a : SignatureAlgorithm) (m s : List ℕ) → signs new k a m s ↔ signs old k a m s
  pub calm : result ≢ Err (errors.Request requests.SignatureError) → faults new ≡ faults old
  pub unasked : IfErr says (λ e. new ≡ old)
