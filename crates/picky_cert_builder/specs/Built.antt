-- What a call promises that makes a certificate and asks a device to sign it.
use Rattle.std.specs.Prelude.{◌≡◌, ◌≢◌, ◌↔◌, ◌⊎◌, List, ℕ, Result, Ok, Err, IfErr}
use Rattle.picky_keys.specs.declared.algorithm.SignatureAlgorithm.{SignatureAlgorithm}
use Rattle.picky_keys.specs.declared.public_key.PublicKey.{PublicKey}
use Rattle.picky_cert.specs.declared.certificate.SshCertificate.{SshCertificate}
use Rattle.picky_cert_builder.specs.declared.error.SshCertificateGenerationError.{SshCertificateGenerationError}
use Rattle.picky_cert_builder.specs.declared.error.SshCertificateGenerationError.TheVariants as errors
use Rattle.picky_cert_builder.specs.Draft.{IsSigned, Unsigned}

-- the certificate that is asked for, signed; or want of memory, the first reason why none is made, or, where there is none,
-- the device's fault
abbrev pub IsBuilt : (PublicKey → SignatureAlgorithm → List ℕ → List ℕ → Type 0)
    → Result Unsigned SshCertificateGenerationError → Type 0 → Result SshCertificate SshCertificateGenerationError → Type 0
IsBuilt signs (Ok u) rose (Ok c) = IsSigned signs u c
IsBuilt signs (Ok u) rose (Err e) = (e ≡ errors.NoMemory) ⊎ ((e ≡ errors.SignatureError) × rose)
IsBuilt signs (Err refused) rose (Ok c) = ⊥
IsBuilt signs (Err refused) rose (Err e) = (e ≡ errors.NoMemory) ⊎ (e ≡ refused)

-- which signatures are good stays; a fault is counted only where it is answered; a device that isn't asked, or for which
-- there is no memory, is as it was
pub record LeavesSigner {S A : Type 0} (signs : S → PublicKey → SignatureAlgorithm → List ℕ → List ℕ → Type 0)
    (faults : S → ℕ) (says : Result Unsigned SshCertificateGenerationError)
    (result : Result A SshCertificateGenerationError) (old new : S) : Type 0 where
  pub kept : (k : PublicKey) (a : SignatureAlgorithm) (m s : List ℕ) → signs new k a m s ↔ signs old k a m s
  pub calm : result ≢ Err errors.SignatureError → faults new ≡ faults old
  pub unasked : IfErr says (λ e. new ≡ old)
  pub unchanged : result ≡ Err errors.NoMemory → new ≡ old
