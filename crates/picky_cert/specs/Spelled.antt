-- The one spelling of a certificate that is written (OpenSSH's PROTOCOL.certkeys), and its line.
use Rattle.std.specs.Prelude.{List, [], ◌∷◌, ℕ, ◌++◌}
use Rattle.picky_text.specs.Base64.{base64_of}
use Rattle.picky_cert_parts.specs.CertNames.{cert_key_type_name}
use Rattle.picky_cert_parts.specs.Signature.{signature_of}
use Rattle.picky_cert_blob.specs.Spelled.{body_spelled}
use Rattle.picky_cert.specs.declared.certificate.SshCertificate.{SshCertificate}
use Rattle.picky_cert.specs.Certificate.{said}

-- all bytes before the signature, and all bytes
unfoldable pub signed_of : SshCertificate → List ℕ
signed_of c = body_spelled (said c)

unfoldable pub cert_blob_of : SshCertificate → List ℕ
cert_blob_of c = signed_of c ++ signature_of c.signature

-- line = name SP base64 SP comment CR LF; to sshd(8) the CR would be the comment's
unfoldable pub cert_line_of : SshCertificate → List ℕ
cert_line_of c = cert_key_type_name c.cert_key_type ++ 32 ∷ base64_of (cert_blob_of c) ++ 32 ∷ c.comment ++ 13 ∷ 10 ∷ []
