-- A certificate (OpenSSH's PROTOCOL.certkeys): all that is signed, and the signature.
use Rattle.std.specs.Prelude.{List, [], ℕ, Option, Some, None, Result, Ok, Err, take}
use Rattle.picky_wire_base.specs.Grammar.{Grammar}
use Rattle.picky_wire_base.specs.Combine.{done, ◌>>=◌}
use Rattle.picky_keys.specs.declared.key.SshBasePublicKey.{SshBasePublicKey}
use Rattle.picky_keys.specs.declared.key.SshPublicKey.{SshPublicKey}
use Rattle.picky_cert_parts.specs.declared.signature.SshSignature.{SshSignature}
use Rattle.picky_cert_blob.specs.declared.part.CertPart.{CertPart}
use Rattle.picky_cert_blob.specs.Reason.{CertReason}
use Rattle.picky_cert_blob.specs.Layout.{Body, body, signature_part}
use Rattle.picky_cert.specs.declared.certificate.SshCertificate.{SshCertificate}

-- a key without a comment
abbrev pub bare : SshBasePublicKey → SshPublicKey
bare key = record { inner_key = key; comment = [] }

-- what is said, with a signature and without any comment
abbrev pub certified : Body → SshSignature → SshCertificate
certified b s = record {
  cert_key_type = b.head.cert_key_type;
  public_key = bare b.head.key;
  nonce = b.head.nonce;
  serial = b.terms.serial;
  cert_type = b.terms.cert_type;
  key_id = b.terms.key_id;
  valid_principals = b.terms.principals;
  valid_after = b.terms.after;
  valid_before = b.terms.before;
  critical_options = b.grants.options;
  extensions = b.grants.extensions;
  signature_key = bare b.grants.issuer;
  signature = s;
  comment = [];
}

-- what a certificate says before its signature: all its fields but that and the comments
abbrev pub said : SshCertificate → Body
said c = record {
  head = record { cert_key_type = c.cert_key_type; nonce = c.nonce; key = c.public_key.inner_key };
  terms = record {
    serial = c.serial;
    cert_type = c.cert_type;
    key_id = c.key_id;
    principals = c.valid_principals;
    after = c.valid_after;
    before = c.valid_before;
  };
  grants = record {
    options = c.critical_options;
    extensions = c.extensions;
    issuer = c.signature_key.inner_key;
  };
}

-- all that is signed, and the signature
unfoldable pub certificate : Grammar CertReason SshCertificate
certificate = do
  b ← body
  s ← signature_part
  done (certified b s)

-- the subject's key, and the same with the certificate's comment
abbrev pub subject_key : SshCertificate → SshBasePublicKey
subject_key c = c.public_key.inner_key

abbrev pub subject : SshCertificate → SshPublicKey
subject c = record { inner_key = subject_key c; comment = c.comment }

-- the bytes before the signature, as they were read
abbrev pub signed_in : List ℕ → List ℕ
signed_in blob = take (body.used blob) blob

-- the part that is refused
abbrev pub refused_part : {A : Type 0} → Result A CertReason → Option CertPart
refused_part (Ok found) = None
refused_part (Err reason) = Some reason.0
