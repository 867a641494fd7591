-- What is asked of a certificate, field by field.
use Rattle.std.specs.Prelude.{Bool, true, false, List, [], ◌∷◌, Option, Some, None}
use Rattle.picky_keys.specs.declared.kind.KeyKind.{KeyKind}
use Rattle.picky_keys.specs.declared.key.SshPublicKey.{SshPublicKey}
use Rattle.picky_keys.specs.Key.{kind_of}
use Rattle.picky_cert_builder.specs.declared.builder.SshCertificateBuilder.{SshCertificateBuilder}
use Rattle.picky_cert_builder.specs.declared.issuer.IssuerKey.{IssuerKey}
use Rattle.picky_cert_builder.specs.declared.terms.RequestTerms.{RequestTerms}
use Rattle.picky_cert_builder.specs.Issuer.{issuer_part}

-- no field is set
abbrev pub empty : SshCertificateBuilder
empty = record {
  cert_key_type = None;
  public_key = None;
  serial = None;
  cert_type = None;
  key_id = None;
  valid_principals = None;
  valid_after = None;
  valid_before = None;
  critical_options = None;
  extensions = None;
  issuer = None;
  signature_algo = None;
  comment = None;
}

-- no field but the type of certificates
abbrev pub unset : SshCertificateBuilder → SshCertificateBuilder
unset b = record empty { cert_key_type = b.cert_key_type }

-- ---- what is judged of it

abbrev pub subject_kind_in : Option SshPublicKey → Option KeyKind
subject_kind_in (Some key) = Some (kind_of key.inner_key)
subject_kind_in None = None

abbrev pub issuer_kind_in : Option IssuerKey → Option KeyKind
issuer_kind_in (Some issuer) = Some (kind_of (issuer_part issuer))
issuer_kind_in None = None

abbrev pub has_some : {A : Type 0} → Option (List A) → Bool
has_some (Some (x ∷ xs)) = true
has_some (Some []) = false
has_some None = false

abbrev pub terms_of : SshCertificateBuilder → RequestTerms
terms_of b = record {
  cert_key_type = b.cert_key_type;
  subject = subject_kind_in b.public_key;
  cert_type = b.cert_type;
  valid_after = b.valid_after;
  valid_before = b.valid_before;
  has_extensions = has_some b.extensions;
  has_critical_options = has_some b.critical_options;
  issuer = issuer_kind_in b.issuer;
  signature_algo = b.signature_algo;
}
