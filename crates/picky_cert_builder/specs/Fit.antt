-- The requests for which a certificate is made, and the terms that they come to.
use Rattle.std.specs.Prelude.{◌≡◌, ◌≤◌, true, false, Some}
use Rattle.picky_keys.specs.declared.kind.KeyKind.{KeyKind}
use Rattle.picky_cert_parts.specs.declared.cert_type.SshCertType.TheVariants.{Host}
use Rattle.picky_cert_blob.specs.Subject.{subject_kind}
use Rattle.picky_cert_builder.specs.declared.terms.FitTerms.{FitTerms}
use Rattle.picky_cert_builder.specs.declared.terms.RequestTerms.{RequestTerms}
use Rattle.picky_cert_builder.specs.Algorithm.{format_of}
use Rattle.picky_cert_builder.specs.Terms.{algorithm_by, is_made}

-- the type is one that is made, and for the subject's key; both times are given, the first not past the second; a host's
-- certificate has neither extensions nor critical options; and the issuer's key signs by the algorithm that is asked for, or
-- by the type's own
pub record IsFit (r : RequestTerms) (fit : FitTerms) : Type 0 where
  pub key_type : r.cert_key_type ≡ Some fit.cert_key_type
  pub made : is_made fit.cert_key_type ≡ true
  pub subject : (kind : KeyKind) × (r.subject ≡ Some kind) × (subject_kind fit.cert_key_type ≡ Some kind)
  pub cert_type : r.cert_type ≡ Some fit.cert_type
  pub after : r.valid_after ≡ Some fit.valid_after
  pub before : r.valid_before ≡ Some fit.valid_before
  pub ordered : fit.valid_after.0 ≤ fit.valid_before.0
  pub host : fit.cert_type ≡ Host → (r.has_extensions ≡ false) × (r.has_critical_options ≡ false)
  pub algorithm : fit.signature_algo ≡ algorithm_by r.signature_algo fit.cert_key_type
  pub signature : (kind : KeyKind) × (r.issuer ≡ Some kind) × (format_of kind fit.signature_algo ≡ Some fit.format)
