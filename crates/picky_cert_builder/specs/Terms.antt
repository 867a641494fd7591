-- The order in which the terms of a request for a certificate are refused, and what they come to (OpenSSH's
-- PROTOCOL.certkeys; which requests are refused is the original crate's).
use Rattle.std.specs.Prelude.{Bool, true, false, Option, Some, None, Result, Ok, Err, nat_le, if◌then◌else◌}
use Rattle.std.specs.Option.{ok_or}
use Rattle.picky_wire_base.specs.Outcome.{and_then}
use Rattle.picky_keys.specs.declared.algorithm.SignatureAlgorithm.{SignatureAlgorithm}
use Rattle.picky_wire.specs.declared.timestamp.Timestamp.{Timestamp}
use Rattle.picky_cert_parts.specs.declared.cert_key_type.SshCertKeyType.{SshCertKeyType}
use Rattle.picky_cert_parts.specs.declared.cert_key_type.SshCertKeyType.TheVariants as types
use Rattle.picky_cert_parts.specs.declared.signature_format.SshSignatureFormat.{SshSignatureFormat}
use Rattle.picky_cert_parts.specs.declared.cert_type.SshCertType.{SshCertType}
use Rattle.picky_cert_parts.specs.declared.cert_type.SshCertType.TheVariants.{Client, Host}
use Rattle.picky_cert_blob.specs.Subject.{is_for, subject_kind}
use Rattle.picky_cert_builder.specs.declared.error.SshCertificateGenerationError.{SshCertificateGenerationError}
use Rattle.picky_cert_builder.specs.declared.error.SshCertificateGenerationError.TheVariants as errors
use Rattle.picky_cert_builder.specs.declared.terms.FitTerms.{FitTerms}
use Rattle.picky_cert_builder.specs.declared.terms.RequestTerms.{RequestTerms}
use Rattle.picky_cert_builder.specs.Algorithm.{default_algorithm, format_of}

-- ---- who is certified

-- no certificates of DSS and of NIST P-521 are made
abbrev pub is_made : SshCertKeyType → Bool
is_made types.SshDssV01 = false
is_made types.EcdsaSha2Nistp521V01 = false
is_made t = true

-- the type, where it is for the subject's key
unfoldable pub judged_subject : RequestTerms → Result SshCertKeyType SshCertificateGenerationError
judged_subject r =
    and_then (ok_or r.cert_key_type errors.NoKeyType) (λ t.
    if is_made t
    then and_then (ok_or r.subject errors.MissingPublicKey) (λ kind.
    if is_for (subject_kind t) kind then Ok t else Err (errors.UnsupportedCertificateKeyType t))
    else Err (errors.UnsupportedCertificateKeyType t))

-- ---- for what, and from when until when

-- both times, where the first isn't past the second
abbrev pub ordered : Option Timestamp → Option Timestamp → Result (Timestamp × Timestamp) SshCertificateGenerationError
ordered (Some after) (Some before) = if nat_le after.0 before.0 then Ok (after, before) else Err errors.InvalidTime
ordered after before = Err errors.InvalidTime

-- a host's certificate has neither extensions nor critical options
abbrev pub granted : RequestTerms → SshCertType → Timestamp × Timestamp
    → Result (SshCertType × (Timestamp × Timestamp)) SshCertificateGenerationError
granted r Client times = Ok (Client, times)
granted r Host times =
    if r.has_extensions then Err errors.HostCertificateExtensions
    else if r.has_critical_options then Err errors.HostCertificateCriticalOptions
    else Ok (Host, times)

unfoldable pub judged_use : RequestTerms → Result (SshCertType × (Timestamp × Timestamp)) SshCertificateGenerationError
judged_use r =
    and_then (ok_or r.cert_type errors.MissingCertificateType) (λ kind.
    and_then (ordered r.valid_after r.valid_before) (λ times. granted r kind times))

-- ---- by whom

-- the algorithm that is asked for, or the type's own
abbrev pub algorithm_by : Option SignatureAlgorithm → SshCertKeyType → SignatureAlgorithm
algorithm_by (Some algorithm) t = algorithm
algorithm_by None t = default_algorithm t

-- the algorithm, and the format in which the issuer's kind of key signs by it
unfoldable pub judged_signature : RequestTerms → SshCertKeyType
    → Result (SignatureAlgorithm × SshSignatureFormat) SshCertificateGenerationError
judged_signature r t =
    and_then (ok_or r.issuer errors.MissingSignatureKey) (λ kind.
    and_then (ok_or (format_of kind (algorithm_by r.signature_algo t)) errors.IncorrectSignatureAlgorithm) (λ format.
    Ok (algorithm_by r.signature_algo t, format)))

-- ---- all of it, in this order

abbrev pub fit_of : SshCertKeyType → SshCertType × (Timestamp × Timestamp) → SignatureAlgorithm × SshSignatureFormat → FitTerms
fit_of t used signed = record {
  cert_key_type = t;
  cert_type = used.0;
  valid_after = used.1.0;
  valid_before = used.1.1;
  signature_algo = signed.0;
  format = signed.1;
}

unfoldable pub judged_terms : RequestTerms → Result FitTerms SshCertificateGenerationError
judged_terms r =
    and_then (judged_subject r) (λ t.
    and_then (judged_use r) (λ used.
    and_then (judged_signature r t) (λ signed. Ok (fit_of t used signed))))
