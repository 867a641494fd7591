-- What each certificate keeps, and which are well formed.
use Rattle.picky_keys.specs.Key.{IsText}
use Rattle.picky_cert_parts.specs.Signature.{IsSignature}
use Rattle.picky_cert_blob.specs.Keeps.{IsBody}
use Rattle.picky_cert_blob.specs.Keeps.{IsWellFormedBody}
use Rattle.picky_cert.specs.declared.certificate.SshCertificate.{SshCertificate}
use Rattle.picky_cert.specs.Certificate.{said}

-- the ranges of its parts
pub record IsCertificate (c : SshCertificate) : Type 0 where
  pub said : IsBody (said c)
  pub signature : IsSignature c.signature
  pub comment : IsText c.comment

-- its type is for its subject's key, and each list and the issuer's blob fit a string
abbrev pub IsWellFormed : SshCertificate → Type 0
IsWellFormed c = IsWellFormedBody (said c)
