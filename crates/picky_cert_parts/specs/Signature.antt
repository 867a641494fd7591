-- A signature (RFC 4253, section 6.6; before it its length, OpenSSH's PROTOCOL.certkeys; of a security key, PROTOCOL.u2f).
use Rattle.std.specs.Prelude.{Bool, true, false, not, if◌then◌else◌, List, [], ◌∷◌, ℕ, ◌+◌, ◌<◌, ◌^◌, nat_lt, length}
use Rattle.std.specs.Prelude.{Option, Some, None}
use Rattle.std.specs.Int.{w8, w32, to_be_bytes}
use Rattle.std.specs.List.{concat}
use Rattle.picky_wire_base.specs.Grammar.{Grammar}
use Rattle.picky_wire_base.specs.Combine.{narrow, done, ◌>>=◌}
use Rattle.picky_wire_base.specs.Entry.{entry}
use Rattle.picky_wire_base.specs.Numbers.{byte}
use Rattle.picky_wire_base.specs.Wire.{uint32, string, string_of, text}
use Rattle.picky_keys.specs.Key.{IsString}
use Rattle.picky_cert_parts.specs.declared.error.SshSignatureError.{SshSignatureError}
use Rattle.picky_cert_parts.specs.declared.error.SshSignatureError.TheVariants as errors
use Rattle.picky_cert_parts.specs.declared.signature_format.SshSignatureFormat.{SshSignatureFormat}
use Rattle.picky_cert_parts.specs.CertFromWire.{signature_error}
use Rattle.picky_cert_parts.specs.CertNames.{format_name, is_sk}
use Rattle.picky_cert_parts.specs.CertNameTables.{signature_formats}
use Rattle.picky_cert_parts.specs.declared.signature.SshSignature.{SshSignature}
use Rattle.picky_cert_parts.specs.declared.signature.SshSignatureBlob.{SshSignatureBlob}
use Rattle.picky_cert_parts.specs.declared.signature.SshSignatureBlob.TheVariants as blobs
use Rattle.picky_cert_parts.specs.Field.{field}

-- uint32 total, how long what follows is; nothing is held against it
unfoldable pub signature_total : Grammar SshSignatureError ℕ
signature_total = field signature_error uint32

-- string name, of a signature format; another is refused with itself
unfoldable pub signature_format : Grammar SshSignatureError SshSignatureFormat
signature_format = narrow (field signature_error text) (entry errors.UnsupportedSignatureFormat signature_formats)

-- string blob
unfoldable pub signature_payload : Grammar SshSignatureError (List ℕ)
signature_payload = field signature_error string

-- byte flags
unfoldable pub signature_flags : Grammar SshSignatureError ℕ
signature_flags = field signature_error byte

-- uint32 counter
unfoldable pub signature_counter : Grammar SshSignatureError ℕ
signature_counter = field signature_error uint32

-- what they make
abbrev pub standard_made : SshSignatureFormat → List ℕ → SshSignature
standard_made format payload = record { format = format; blob = blobs.Standard payload }

abbrev pub sk_made : SshSignatureFormat → List ℕ → ℕ → ℕ → SshSignature
sk_made format payload flags counter = record { format = format; blob = blobs.Sk payload flags counter }

-- string blob
unfoldable pub standard_fields : SshSignatureFormat → Grammar SshSignatureError SshSignature
standard_fields format = do
  payload ← signature_payload
  done (standard_made format payload)

-- string blob
-- byte flags
-- uint32 counter
unfoldable pub sk_fields : SshSignatureFormat → Grammar SshSignatureError SshSignature
sk_fields format = do
  payload ← signature_payload
  flags ← signature_flags
  counter ← signature_counter
  done (sk_made format payload flags counter)

-- the fields, with flags and a counter or without
abbrev pub fields_when : Bool → SshSignatureFormat → Grammar SshSignatureError SshSignature
fields_when true format = sk_fields format
fields_when false format = standard_fields format

-- the fields after the name
abbrev pub signature_rest : SshSignatureFormat → Grammar SshSignatureError SshSignature
signature_rest format = fields_when (is_sk format) format

-- uint32 total
-- string name, which decides the rest
unfoldable pub signature : Grammar SshSignatureError SshSignature
signature = do
  total ← signature_total
  format ← signature_format
  signature_rest format

-- ---- the one spelling that is written

-- how many bytes the payload has, and 5 more for flags and counter
abbrev pub blob_size : SshSignatureBlob → ℕ
blob_size (blobs.Standard payload) = length payload
blob_size (blobs.Sk payload flags counter) = length payload + 5

-- how many bytes follow the total: the name, the blob and their two lengths
abbrev pub total_of : SshSignature → ℕ
total_of s = length (format_name s.format) + blob_size s.blob + 8

-- the fields of the blob
abbrev pub blob_fields : SshSignatureBlob → List (List ℕ)
blob_fields (blobs.Standard payload) = string_of payload ∷ []
blob_fields (blobs.Sk payload flags counter) = string_of payload ∷ to_be_bytes w8 flags ∷ to_be_bytes w32 counter ∷ []

-- the signature behind any total
unfoldable pub behind_total : ℕ → SshSignature → List ℕ
behind_total total s = concat (to_be_bytes w32 total ∷ string_of (format_name s.format) ∷ blob_fields s.blob)

unfoldable pub signature_of : SshSignature → List ℕ
signature_of s = behind_total (total_of s) s

-- ---- which signatures are written

-- the blob has flags and a counter exactly where its format does
abbrev pub blob_fits : SshSignatureFormat → SshSignatureBlob → Bool
blob_fits format (blobs.Standard payload) = not (is_sk format)
blob_fits format (blobs.Sk payload flags counter) = is_sk format

-- why a signature isn't written
abbrev pub signature_reason : SshSignature → Option SshSignatureError
signature_reason s =
    if blob_fits s.format s.blob then (if nat_lt (total_of s) (2 ^ 32) then None else Some errors.TooLong)
    else Some errors.BlobMismatch

-- what each blob and each signature keep
abbrev pub IsBlob : SshSignatureBlob → Type 0
IsBlob (blobs.Standard payload) = IsString payload
IsBlob (blobs.Sk payload flags counter) = IsString payload × (flags < 2 ^ 8) × (counter < 2 ^ 32)

abbrev pub IsSignature : SshSignature → Type 0
IsSignature s = IsBlob s.blob
