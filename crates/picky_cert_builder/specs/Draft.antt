-- The certificate that a request comes to, before it is signed, and when it is signed (OpenSSH's PROTOCOL.certkeys).
use Rattle.std.specs.Prelude.{◌≡◌, List, [], ℕ, Option, Some, None, Result, Ok, Err, if◌then◌else◌}
use Rattle.std.specs.Option.{ok_or}
use Rattle.picky_wire_base.specs.Outcome.{and_then}
use Rattle.picky_keys.specs.declared.algorithm.SignatureAlgorithm.{SignatureAlgorithm}
use Rattle.picky_keys.specs.declared.public_key.PublicKey.{PublicKey}
use Rattle.picky_keys.specs.declared.key.SshPublicKey.{SshPublicKey}
use Rattle.picky_keys.specs.Key.{public_key_of}
use Rattle.picky_keys.specs.LineRefusal.{is_short}
use Rattle.picky_cert_parts.specs.ExtensionType.{extension_name}
use Rattle.picky_cert_parts.specs.CertNames.{option_name}
use Rattle.picky_cert_parts.specs.declared.signature_format.SshSignatureFormat.{SshSignatureFormat}
use Rattle.picky_cert_parts.specs.declared.cert_type.SshCertType.{SshCertType}
use Rattle.picky_cert_parts.specs.declared.cert_type.SshCertType.TheVariants.{Client}
use Rattle.picky_cert_parts.specs.declared.extension.SshExtension.{SshExtension}
use Rattle.picky_cert_parts.specs.declared.signature.SshSignature.{SshSignature}
use Rattle.picky_cert_parts.specs.declared.signature.SshSignatureBlob.TheVariants.{Standard}
use Rattle.picky_cert.specs.declared.certificate.SshCertificate.{SshCertificate}
use Rattle.picky_cert.specs.Certificate.{bare}
use Rattle.picky_cert.specs.Spelled.{signed_of}
use Rattle.picky_cert_builder.specs.declared.builder.SshCertificateBuilder.{SshCertificateBuilder}
use Rattle.picky_cert_builder.specs.declared.error.SshCertificateGenerationError.{SshCertificateGenerationError}
use Rattle.picky_cert_builder.specs.declared.error.SshCertificateGenerationError.TheVariants as errors
use Rattle.picky_cert_builder.specs.declared.issuer.IssuerKey.{IssuerKey}
use Rattle.picky_cert_builder.specs.declared.terms.FitTerms.{FitTerms}
use Rattle.picky_cert_builder.specs.ByName.{by_name}
use Rattle.picky_cert_builder.specs.Issuer.{issuer_part}
use Rattle.picky_cert_builder.specs.Permits.{permits}
use Rattle.picky_cert_builder.specs.Request.{terms_of}
use Rattle.picky_cert_builder.specs.Terms.{judged_terms}

-- ---- defaults

abbrev pub or_zero : Option ℕ → ℕ
or_zero (Some n) = n
or_zero None = 0

abbrev pub or_empty : {A : Type 0} → Option (List A) → List A
or_empty (Some xs) = xs
or_empty None = []

-- a user's certificate without extensions has the five permits
abbrev pub or_permits : SshCertType → List SshExtension → List SshExtension
or_permits Client [] = permits
or_permits kind xs = xs

-- ---- the certificate

-- a signature whose string is this
abbrev pub signature_with : SshSignatureFormat → List ℕ → SshSignature
signature_with format bytes = record { format = format; blob = Standard bytes }

-- the certificate, its options and extensions in the order of their names' bytes, with an empty signature
abbrev pub certificate_of : SshCertificateBuilder → FitTerms → SshPublicKey → IssuerKey → (nonce : List ℕ) → SshCertificate
certificate_of b fit key issuer nonce = record {
  cert_key_type = fit.cert_key_type;
  public_key = key;
  nonce = nonce;
  serial = or_zero b.serial;
  cert_type = fit.cert_type;
  key_id = or_empty b.key_id;
  valid_principals = or_empty b.valid_principals;
  valid_after = fit.valid_after;
  valid_before = fit.valid_before;
  critical_options = by_name (λ o. option_name o.option_type) (or_empty b.critical_options);
  extensions = by_name (λ x. extension_name x.extension_type) (or_permits fit.cert_type (or_empty b.extensions));
  signature_key = bare (issuer_part issuer);
  signature = signature_with fit.format [];
  comment = or_empty b.comment;
}

-- the certificate that isn't signed yet, and the algorithm to sign it by
pub record Unsigned : Type 0 where
  pub certificate : SshCertificate
  pub algorithm : SignatureAlgorithm

abbrev pub unsigned_of : SshCertificate → SignatureAlgorithm → Unsigned
unsigned_of c algorithm = record { certificate = c; algorithm = algorithm }

-- what is signed fits a string
abbrev pub if_message_fits : SshCertificate → SignatureAlgorithm → Result Unsigned SshCertificateGenerationError
if_message_fits c algorithm = if is_short (signed_of c) then Ok (unsigned_of c algorithm) else Err errors.TooLong

-- the certificate that is asked for, or the first reason why none is made
unfoldable pub requested : SshCertificateBuilder → (nonce : List ℕ) → Result Unsigned SshCertificateGenerationError
requested b nonce =
    and_then (judged_terms (terms_of b)) (λ fit.
    and_then (ok_or b.public_key errors.MissingPublicKey) (λ key.
    and_then (ok_or b.issuer errors.MissingSignatureKey) (λ issuer.
    if_message_fits (certificate_of b fit key issuer nonce) fit.signature_algo)))

-- ---- signed

-- the same certificate with this signature
abbrev pub signed_with : SshCertificate → List ℕ → SshCertificate
signed_with c bytes = record c { signature = signature_with c.signature.format bytes }

-- the certificate has a signature, good under the issuer's key, of exactly the signed bytes
abbrev pub IsSigned : (PublicKey → SignatureAlgorithm → List ℕ → List ℕ → Type 0) → Unsigned → SshCertificate → Type 0
IsSigned signs u c =
    (bytes : List ℕ) × (c ≡ signed_with u.certificate bytes)
    × signs (public_key_of u.certificate.signature_key.inner_key) u.algorithm (signed_of u.certificate) bytes
