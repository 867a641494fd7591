-- What a draft of a certificate shows, and what it keeps.
use Rattle.std.specs.Prelude.{◌≡◌}
use Rattle.picky_keys.specs.PrivateKey.{issuer_key}
use Rattle.picky_keys.specs.Key.{public_key_of}
use Rattle.picky_cert.specs.Spelled.{signed_of}
use Rattle.picky_cert_builder.specs.declared.draft.CertificateDraft.{CertificateDraft}
use Rattle.picky_cert_builder.specs.Draft.{Unsigned}

abbrev pub draft_shown : CertificateDraft → Unsigned
draft_shown d = record { certificate = d.certificate; algorithm = d.algorithm }

-- the message is what is signed of the certificate, and the issuer is the certificate's
pub record IsWholeDraft (d : CertificateDraft) : Type 0 where
  pub message : d.message ≡ signed_of d.certificate
  pub issuer : issuer_key d.issuer ≡ public_key_of d.certificate.signature_key.inner_key
