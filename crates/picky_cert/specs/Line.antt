-- A certificate's line (sshd(8), "AUTHORIZED_KEYS FILE FORMAT"; OpenSSH's PROTOCOL.certkeys): its type, its bytes in base64,
-- a comment.
use Rattle.std.specs.Prelude.{◌≡◌, ◌++◌, ◌∷◌, List, ℕ, ◌<◌, ◌^◌, length, IsUtf8, true}
use Rattle.std.specs.Str.{trim_end}
use Rattle.picky_wire_base.specs.Numbers.{IsBytes}
use Rattle.picky_wire_base.specs.Grammar.{Fits}
use Rattle.picky_text.specs.Base64.{base64_of}
use Rattle.picky_text.specs.Words.{first_word, body_word, line_in_front, after_body, comment_of}
use Rattle.picky_text.specs.Lines.{HasNo}
use Rattle.picky_cert_parts.specs.declared.cert_key_type.SshCertKeyType.{SshCertKeyType}
use Rattle.picky_cert_parts.specs.CertNames.{cert_key_type_name}
use Rattle.picky_cert_parts.specs.Signature.{blob_fits}
use Rattle.picky_cert.specs.declared.certificate.SshCertificate.{SshCertificate}
use Rattle.picky_cert.specs.Certificate.{certificate, certified, said}
use Rattle.picky_cert.specs.Keeps.{IsCertificate, IsWellFormed}
use Rattle.picky_cert.specs.Spelled.{cert_line_of}

-- line = name SP base64 [SP comment], which ends at the first CR or LF, or with the text; what follows it says nothing.
-- The name is one of the ten and says nothing more: the one inside decides. Bytes after the signature say nothing. The
-- comment goes without the white space at its end, and alone need be UTF-8.
pub record IsCertificateLine (text : List ℕ) (c : SshCertificate) : Type 0 where
  pub key_type : SshCertKeyType
  pub name : first_word text ≡ cert_key_type_name key_type
  pub blob_bytes : List ℕ
  pub are_bytes : IsBytes blob_bytes
  pub body : body_word text ≡ base64_of blob_bytes
  pub body_short : length (body_word text) < 2 ^ 32
  pub rest : List ℕ
  pub fits : Fits certificate.piece (certified (said c) c.signature) blob_bytes rest
  pub bare : c ≡ record (certified (said c) c.signature) { comment = comment_of text }
  pub comment_utf8 : IsUtf8 (line_in_front (after_body text))
  pub comment_short : length (comment_of text) < 2 ^ 32

-- a line without a comment: the name of a type, a space and the base64 of the bytes
abbrev pub bare_line : SshCertKeyType → (blob_bytes : List ℕ) → List ℕ
bare_line key_type blob_bytes = cert_key_type_name key_type ++ 32 ∷ base64_of blob_bytes

-- ---- what is written is read back

-- a certificate whose line is read back: it is written, no key of it has a comment, and its own is text with no CR, LF and
-- white space at its end
pub record IsReadBackCertificate (c : SshCertificate) : Type 0 where
  pub is : IsCertificate c
  pub formed : IsWellFormed c
  pub signed : blob_fits c.signature.format c.signature.blob ≡ true
  pub bare : c ≡ record (certified (said c) c.signature) { comment = c.comment }
  pub no_cr : HasNo 13 c.comment
  pub no_lf : HasNo 10 c.comment
  pub trimmed : trim_end c.comment ≡ c.comment
  pub utf8 : IsUtf8 c.comment
  pub short : length (cert_line_of c) < 2 ^ 32
