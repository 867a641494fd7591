-- What a certificate means, by its subject's key alone.
use Rattle.std.proofs.Common.{◌≡◌, Result, Ok, Err, ap}
use Rattle.picky_wire_base.specs.Outcome.{and_then, map_err, map_ok}
use Rattle.picky_keys.specs.declared.key.SshPublicKey.{SshPublicKey}
use Rattle.picky_cert_parts.specs.declared.error.SshCertificateError.{SshCertificateError}
use Rattle.picky_cert.specs.declared.certificate.SshCertificate.{SshCertificate}
use Rattle.picky_cert.specs.Certificate.{subject}
use Rattle.picky_key_text.specs.declared.error.ReadError.TheVariants as errors
use Rattle.picky_key_text.specs.Key.{certificate_meaning, public_meaning}

-- it is what that key means as a line
pub subject_means : (says : Result SshCertificate SshCertificateError) (key : SshPublicKey) → map_ok subject says ≡ Ok key
    → and_then (map_err errors.Certificate says) (λ c. Ok (certificate_meaning c)) ≡ Ok (public_meaning key)
subject_means (Ok c) key is = let same : subject c ≡ key = cc is in ap (λ k. Ok (public_meaning k)) same
subject_means (Err e) key is = cc is

-- and without one there is no meaning
pub no_subject_means : (says : Result SshCertificate SshCertificateError) (e : SshCertificateError) → map_ok subject says ≡ Err e
    → and_then (map_err errors.Certificate says) (λ c. Ok (certificate_meaning c)) ≡ Err (errors.Certificate e)
no_subject_means (Ok c) e is = cc is
no_subject_means (Err d) e is = let same : d ≡ e = cc is in ap (λ x. Err (errors.Certificate x)) same

pub ruleset subjects = (subject_means, no_subject_means)
