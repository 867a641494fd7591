-- What a certificate that was built says of its request.
use Rattle.std.proofs.Common.{◌≡◌, ◌⊎◌, ℕ, List, Result, Ok, Err, IfErr, IfOk, IsOk, ap, inl, inr, refl, sym}
use Rattle.picky.specs.Built.{IsBuilt}
use Rattle.picky.specs.Draft.{IsSigned, Unsigned}
use Rattle.picky.specs.declared.ssh.PublicKey.{PublicKey}
use Rattle.picky.specs.declared.ssh.SignatureAlgorithm.{SignatureAlgorithm}
use Rattle.picky.specs.declared.ssh.SshCertificate.{SshCertificate}
use Rattle.picky.specs.declared.ssh.SshCertificateGenerationError.{SshCertificateGenerationError}
use Rattle.picky.specs.declared.ssh.SshCertificateGenerationError.TheVariants as errors

-- one that is built is what the request comes to, signed
pub built_is_signed : (signs : PublicKey → SignatureAlgorithm → List ℕ → List ℕ → Type 0)
    (says : Result Unsigned SshCertificateGenerationError) (rose : Type 0)
    (result : Result SshCertificate SshCertificateGenerationError) → IsBuilt signs says rose result
    → IfOk result (λ c. (u : Unsigned) × (says ≡ Ok u) × IsSigned signs u c)
built_is_signed signs (Ok u) rose (Ok c) signed = (u, refl, signed)
built_is_signed signs (Err refused) rose (Ok c) never = absurd never
built_is_signed signs says rose (Err e) built = tt

-- and where none is built, the request comes to nothing, or the signer failed, who was asked
pub unbuilt_is_refused : (signs : PublicKey → SignatureAlgorithm → List ℕ → List ℕ → Type 0)
    (says : Result Unsigned SshCertificateGenerationError) (rose : Type 0)
    (result : Result SshCertificate SshCertificateGenerationError) → IsBuilt signs says rose result
    → IfErr result (λ e. (e ≡ errors.NoMemory) ⊎ ((e ≡ errors.SignatureError) × IsOk says × rose) ⊎ (says ≡ Err e))
unbuilt_is_refused signs says rose (Ok c) built = tt
unbuilt_is_refused signs (Ok u) rose (Err e) (inl want) = inl want
unbuilt_is_refused signs (Ok u) rose (Err e) (inr fault) = inr (inl (fault.0, refl, fault.1))
unbuilt_is_refused signs (Err refused) rose (Err e) (inl want) = inl want
unbuilt_is_refused signs (Err refused) rose (Err e) (inr same) = inr (inr (ap Err (sym same)))
