-- The order in which a certificate's line is refused: its type, its lengths, its body, its bytes by field; and why a
-- certificate isn't written.
use Rattle.std.specs.Prelude.{List, ℕ, Option, Result, Ok, Err, if◌then◌else◌, ◌&&◌}
use Rattle.std.specs.Option.{ok_or}
use Rattle.std.specs.Str.{is_utf8}
use Rattle.picky_wire_base.specs.Front.{read_front}
use Rattle.picky_wire_base.specs.Outcome.{and_then, map_err}
use Rattle.picky_text.specs.Base64.{decoded}
use Rattle.picky_text.specs.Words.{first_word, body_word}
use Rattle.picky_keys.specs.LineRefusal.{comment_text, is_short, is_short_text}
use Rattle.picky_cert_parts.specs.declared.cert_key_type.SshCertKeyType.{SshCertKeyType}
use Rattle.picky_cert_parts.specs.declared.error.SshCertificateError.{SshCertificateError}
use Rattle.picky_cert_parts.specs.declared.error.SshCertificateError.TheVariants as errors
use Rattle.picky_cert_parts.specs.declared.error.SshSignatureError.TheVariants as signatures
use Rattle.picky_cert_parts.specs.CertNameTables.{cert_key_types}
use Rattle.picky_cert_parts.specs.CertNamed.{of_table}
use Rattle.picky_cert_parts.specs.Signature.{blob_fits}
use Rattle.picky_cert_blob.specs.Subject.{fits_subject}
use Rattle.picky_cert.specs.declared.certificate.SshCertificate.{SshCertificate}
use Rattle.picky_cert.specs.CertRefusal.{cert_error}
use Rattle.picky_cert.specs.Certificate.{certificate}
use Rattle.picky_cert.specs.Spelled.{cert_line_of, signed_of}

-- ---- reading

-- the certificate that the bytes begin with, or the first reason why they begin with none
unfoldable pub blob_certificate : List ℕ → Result SshCertificate SshCertificateError
blob_certificate bytes = map_err cert_error (read_front certificate bytes)

-- the same of a body, in base64
unfoldable pub body_certificate : List ℕ → Result SshCertificate SshCertificateError
body_certificate body = and_then (ok_or (decoded body) errors.Base64DecodeError) blob_certificate

-- the type that a word names, which must be text
unfoldable pub word_type : List ℕ → Result SshCertKeyType SshCertificateError
word_type word =
    if is_utf8 word then of_table cert_key_types errors.InvalidCertificateKeyType errors.TooLong word else Err errors.InvalidUtf8

-- what a name, a body and a comment mean, which is none where it isn't UTF-8; or the first reason why they mean nothing
unfoldable pub cert_words_meaning : (name body : List ℕ) → Option (List ℕ) → Result SshCertificate SshCertificateError
cert_words_meaning name body comment =
    and_then (word_type name) (λ key_type.
    if is_short body && is_short_text comment
    then and_then (body_certificate body) (λ c.
    and_then (ok_or comment errors.InvalidUtf8) (λ said.
    Ok (record c { comment = said })))
    else Err errors.TooLong)

-- what a line means; its bytes need not be UTF-8
unfoldable pub cert_line_meaning : List ℕ → Result SshCertificate SshCertificateError
cert_line_meaning line = cert_words_meaning (first_word line) (body_word line) (comment_text line)

-- ---- writing

-- what is signed, or the first reason why it isn't written
unfoldable pub signed_text : SshCertificate → Result (List ℕ) SshCertificateError
signed_text c =
    if fits_subject c.cert_key_type c.public_key.inner_key
    then if is_short (signed_of c) then Ok (signed_of c) else Err errors.TooLong
    else Err errors.SubjectMismatch

-- the text of the line, or the first reason why it isn't written
unfoldable pub cert_line_text : SshCertificate → Result (List ℕ) SshCertificateError
cert_line_text c =
    if fits_subject c.cert_key_type c.public_key.inner_key
    then if blob_fits c.signature.format c.signature.blob
    then if is_short (cert_line_of c) then Ok (cert_line_of c) else Err errors.TooLong
    else Err (errors.SshSignatureError signatures.BlobMismatch)
    else Err errors.SubjectMismatch
