-- What a draft of a certificate keeps once it is signed.
use Rattle.std.specs.Prelude.{◌<◌, ◌^◌, List, ℕ, length}
use Rattle.picky_keys.specs.Key.{IsString}
use Rattle.picky_cert.specs.declared.certificate.SshCertificate.{SshCertificate}
use Rattle.picky_cert.specs.Line.{IsReadBackCertificate}
use Rattle.picky_cert.specs.Spelled.{cert_line_of}
use Rattle.picky_cert_builder.specs.Draft.{signed_with}
use Rattle.picky_cert_builder.specs.Keeps.{without_key_comments}

-- with each signature its line is read back, where it is short
abbrev pub IsReadBack : SshCertificate → Type 0
IsReadBack c =
    (bytes : List ℕ) → IsString bytes → length (cert_line_of (signed_with c bytes)) < 2 ^ 32
    → IsReadBackCertificate (without_key_comments (signed_with c bytes))
