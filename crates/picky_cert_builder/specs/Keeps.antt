-- What a request for a certificate keeps, and the certificate that is read back.
use Rattle.std.specs.Prelude.{◌<◌, ◌^◌, All}
use Rattle.std.specs.Option.{IfSome}
use Rattle.picky_keys.specs.Key.{IsKey, IsText}
use Rattle.picky_wire.specs.Principals.{IsPrincipal}
use Rattle.picky_cert_parts.specs.CriticalOption.{IsCriticalOption}
use Rattle.picky_cert_parts.specs.Extension.{IsExtension}
use Rattle.picky_cert.specs.declared.certificate.SshCertificate.{SshCertificate}
use Rattle.picky_cert.specs.Certificate.{certified, said}
use Rattle.picky_cert_builder.specs.declared.builder.SshCertificateBuilder.{SshCertificateBuilder}
use Rattle.picky_cert_builder.specs.Issuer.{issuer_part}

-- the ranges of its parts
pub record IsRequest (b : SshCertificateBuilder) : Type 0 where
  pub key : IfSome b.public_key (λ key. IsKey key.inner_key)
  pub serial : IfSome b.serial (λ n. n < 2 ^ 64)
  pub key_id : IfSome b.key_id IsText
  pub principals : IfSome b.valid_principals (All IsPrincipal)
  pub after : IfSome b.valid_after (λ t. t.0 < 2 ^ 64)
  pub before : IfSome b.valid_before (λ t. t.0 < 2 ^ 64)
  pub options : IfSome b.critical_options (All IsCriticalOption)
  pub extensions : IfSome b.extensions (All IsExtension)
  pub issuer : IfSome b.issuer (λ issuer. IsKey (issuer_part issuer))
  pub comment : IfSome b.comment IsText

-- the certificate without the comments of its keys
abbrev pub without_key_comments : SshCertificate → SshCertificate
without_key_comments c = record (certified (said c) c.signature) { comment = c.comment }
