-- A field of a certificate (OpenSSH's PROTOCOL.certkeys) or of its line (sshd(8)), as bytes.
use Rattle.std.specs.Prelude.{◌≡◌, ◌++◌, ◌∷◌, List, [], ℕ, Option, Some, None, Result, Ok, Err, IsUtf8, codes, length}
use Rattle.std.specs.Prelude.{slice_get, if◌then◌else◌}
use Rattle.std.specs.Fmt.{decimal}
use Rattle.std.specs.List.{concat, flat_map}
use Rattle.std.specs.Option.{ok_or}
use Rattle.std.specs.Str.{is_utf8}
use Rattle.picky_wire_base.specs.Numbers.{IsBytes}
use Rattle.picky_wire_base.specs.Outcome.{and_then, map_err, map_ok}
use Rattle.picky_wire_base.specs.Wire.{string_of}
use Rattle.picky_text.specs.Base64.{base64_of, decoded}
use Rattle.picky_text.specs.Words.{body_word}
use Rattle.picky_keys.specs.Blob.{blob_of}
use Rattle.picky_keys.specs.Key.{kind_of}
use Rattle.picky_keys.specs.KeyNames.{kind_name}
use Rattle.picky_keys.specs.declared.key.SshBasePublicKey.{SshBasePublicKey}
use Rattle.picky_cert_parts.specs.CertNames.{cert_key_type_name, format_name, option_name}
use Rattle.picky_cert_parts.specs.CriticalOption.{option_of}
use Rattle.picky_cert_parts.specs.Extension.{extension_of}
use Rattle.picky_cert_parts.specs.ExtensionType.{extension_name}
use Rattle.picky_cert_parts.specs.Signature.{blob_fields}
use Rattle.picky_cert_parts.specs.declared.cert_type.SshCertType.{SshCertType}
use Rattle.picky_cert_parts.specs.declared.cert_type.SshCertType.TheVariants.{Client, Host}
use Rattle.picky_cert_parts.specs.declared.critical_option.SshCriticalOption.{SshCriticalOption}
use Rattle.picky_cert_parts.specs.declared.error.SshCertificateError.{SshCertificateError}
use Rattle.picky_cert_parts.specs.declared.error.SshCertificateError.TheVariants as certificates
use Rattle.picky_cert_parts.specs.declared.extension.SshExtension.{SshExtension}
use Rattle.picky_cert_parts.specs.declared.signature.SshSignature.{SshSignature}
use Rattle.picky_cert_parts.specs.declared.signature.SshSignatureBlob.{SshSignatureBlob}
use Rattle.picky_cert_parts.specs.declared.signature.SshSignatureBlob.TheVariants as blobs
use Rattle.picky_cert.specs.Certificate.{signed_in}
use Rattle.picky_cert.specs.Line.{IsCertificateLine}
use Rattle.picky_cert.specs.LineRefusal.{cert_line_meaning}
use Rattle.picky_cert.specs.declared.certificate.SshCertificate.{SshCertificate}
use Rattle.picky_cert_field.specs.declared.error.CertFieldError.{CertFieldError}
use Rattle.picky_cert_field.specs.declared.error.CertFieldError.TheVariants as errors
use Rattle.picky_cert_field.specs.declared.field.CertField.{CertField}
use Rattle.picky_cert_field.specs.declared.field.CertField.TheVariants as fields

-- ---- parts of a certificate, as bytes

-- a user's or a host's
abbrev pub kind_word : SshCertType → List ℕ
kind_word Client = codes "user"
kind_word Host = codes "host"

-- line = name SP base64, without a comment
unfoldable pub bare_key_line : SshBasePublicKey → List ℕ
bare_key_line key = kind_name (kind_of key) ++ 32 ∷ base64_of (blob_of key)

-- the signature's string
abbrev pub payload_of : SshSignatureBlob → List ℕ
payload_of (blobs.Standard payload) = payload
payload_of (blobs.Sk payload flags counter) = payload

-- a signature behind its total (RFC 4253, section 6.6; of a security key, PROTOCOL.u2f)
-- string name, of its format
-- string blob
-- byte flags, and uint32 counter, of a security key
unfoldable pub signature_bytes : SshSignature → List ℕ
signature_bytes s = concat (string_of (format_name s.format) ∷ blob_fields s.blob)

-- what is signed of the bytes, where there are such
abbrev pub signed_or_none : Option (List ℕ) → List ℕ
signed_or_none None = []
signed_or_none (Some blob) = signed_in blob

-- the bytes before the signature of a certificate's line, which says bytes, as they were read
unfoldable pub signed_in_line : (line : List ℕ) → List ℕ
signed_in_line line = signed_or_none (decoded (body_word line))

-- ---- a field

-- the item at a place, seen as bytes
abbrev pub item_at : {A : Type 0} → (A → List ℕ) → List A → (place : ℕ) → Result (List ℕ) CertFieldError
item_at view items place = map_ok view (ok_or (slice_get items place) errors.NoSuchPlace)

-- a field of a certificate of which these bytes were signed
abbrev pub field_of : CertField → SshCertificate → (signed : List ℕ) → (place : ℕ) → Result (List ℕ) CertFieldError
field_of fields.Type c signed place = Ok (cert_key_type_name c.cert_key_type)
field_of fields.Kind c signed place = Ok (kind_word c.cert_type)
field_of fields.Serial c signed place = Ok (decimal c.serial)
field_of fields.ValidAfter c signed place = Ok (decimal c.valid_after.0)
field_of fields.ValidBefore c signed place = Ok (decimal c.valid_before.0)
field_of fields.KeyId c signed place = Ok c.key_id
field_of fields.Comment c signed place = Ok c.comment
field_of fields.Nonce c signed place = Ok c.nonce
field_of fields.Subject c signed place = Ok (blob_of c.public_key.inner_key)
field_of fields.Issuer c signed place = Ok (blob_of c.signature_key.inner_key)
field_of fields.IssuerLine c signed place = Ok (bare_key_line c.signature_key.inner_key)
field_of fields.SignatureFormat c signed place = Ok (format_name c.signature.format)
field_of fields.SignatureBlob c signed place = Ok (payload_of c.signature.blob)
field_of fields.Signature c signed place = Ok (signature_bytes c.signature)
field_of fields.Signed c signed place = Ok signed
field_of fields.Principals c signed place = Ok (decimal (length c.valid_principals))
field_of fields.CriticalOptions c signed place = Ok (decimal (length c.critical_options))
field_of fields.Extensions c signed place = Ok (decimal (length c.extensions))
field_of fields.Principal c signed place = item_at (λ name. name) c.valid_principals place
field_of fields.CriticalOptionName c signed place =
    item_at (λ (o : SshCriticalOption). option_name o.option_type) c.critical_options place
field_of fields.CriticalOptionPayload c signed place = item_at (λ (o : SshCriticalOption). o.payload) c.critical_options place
field_of fields.ExtensionName c signed place =
    item_at (λ (x : SshExtension). extension_name x.extension_type) c.extensions place
field_of fields.ExtensionPayload c signed place = item_at (λ (x : SshExtension). x.payload) c.extensions place
field_of fields.PrincipalList c signed place = Ok (flat_map string_of c.valid_principals)
field_of fields.CriticalOptionList c signed place = Ok (flat_map option_of c.critical_options)
field_of fields.ExtensionList c signed place = Ok (flat_map extension_of c.extensions)

-- ---- the call

-- the line, where it is text
abbrev pub line_text : List ℕ → Result (List ℕ) CertFieldError
line_text line = if is_utf8 line then Ok line else Err errors.NotUtf8

-- a certificate's refusal as the call's, where want of memory is the outer want
abbrev pub certificate_refusal : SshCertificateError → CertFieldError
certificate_refusal certificates.NoMemory = errors.NoMemory
certificate_refusal e = errors.Certificate e

-- the field of the certificate that the line means, or the first reason why there is none
abbrev pub field_in : CertField → (line : List ℕ) → (place : ℕ) → Result (List ℕ) CertFieldError
field_in field line place =
    and_then (line_text line) (λ text.
    and_then (map_err certificate_refusal (cert_line_meaning text)) (λ c.
    field_of field c (signed_in_line text) place))

-- ---- and what that means

-- the line says a certificate, and these bytes in base64; the field is one of them
pub record IsFieldOfLine (field : CertField) (line : List ℕ) (place : ℕ) (bytes : List ℕ) : Type 0 where
  pub certificate : SshCertificate
  pub blob : List ℕ
  pub utf8 : IsUtf8 line
  pub says : IsCertificateLine line certificate
  pub are_bytes : IsBytes blob
  pub body : body_word line ≡ base64_of blob
  pub is : field_of field certificate (signed_in blob) place ≡ Ok bytes
