-- What a request asks for a key and a comment.
use Rattle.std.specs.Prelude.{Option, Some, None}
use Rattle.picky_cert_builder.specs.declared.builder.SshCertificateBuilder.{SshCertificateBuilder}
use Rattle.picky_cert_builder.specs.declared.issuer.IssuerKey.{IssuerKey}
use Rattle.picky_cert_builder.specs.declared.issuer.IssuerKey.TheVariants as issuers
use Rattle.picky_key_text.specs.declared.meaning.Key.{Key}
use Rattle.picky_key_text.specs.declared.meaning.Key.TheVariants as keys
use Rattle.picky_key_text.specs.declared.meaning.Meaning.{Meaning}
use Rattle.picky_key_text.specs.Key.{public_key}
use Rattle.picky_issuing.specs.declared.options.CertOptions.{CertOptions}
use Rattle.picky_conversion.specs.declared.request.CertRequest.{CertRequest}

-- what a command line's options ask, of an issuer
abbrev pub request_by : CertOptions → Option Key → CertRequest
request_by options issuer = record {
  cert_key_type = options.cert_key_type;
  cert_type = options.cert_type;
  serial = options.serial;
  key_id = options.key_id;
  principals = options.principals;
  valid_after = options.valid_after;
  valid_before = options.valid_before;
  critical_options = options.critical_options;
  extensions = options.extensions;
  signature_algo = options.signature_algo;
  issuer = issuer;
}

-- a key as an issuer's
abbrev pub issuer_in : Option Key → Option IssuerKey
issuer_in (Some (keys.Private key)) = Some (issuers.Private key)
issuer_in (Some (keys.Public key)) = Some (issuers.Public key)
issuer_in None = None

-- the certificate of the key's public part, with the comment
abbrev pub builder_asked : CertRequest → Meaning → SshCertificateBuilder
builder_asked request meaning = record {
  cert_key_type = request.cert_key_type;
  public_key = Some (public_key meaning);
  serial = request.serial;
  cert_type = request.cert_type;
  key_id = request.key_id;
  valid_principals = Some request.principals;
  valid_after = request.valid_after;
  valid_before = request.valid_before;
  critical_options = Some request.critical_options;
  extensions = Some request.extensions;
  issuer = issuer_in request.issuer;
  signature_algo = request.signature_algo;
  comment = Some meaning.comment;
}
