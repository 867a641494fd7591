-- What an element of the wire promises of its layout, for signatures.
use Rattle.std.specs.Prelude.{◌≡◌, ◌≢◌, ◌<◌, ◌^◌, Bool, true, false, not, if◌then◌else◌, nat_lt, List, ℕ}
use Rattle.std.specs.Prelude.{Option, Some, None, Err}
use Rattle.std.specs.List.{concat}
use Rattle.std.proofs.Common.{refl, sym, subst}
use Rattle.std.proofs.lemmas.Bool.{ltb-true}
use Rattle.picky_wire_base.specs.Row.{Solid}
use Rattle.picky_wire_base.proofs.Solid.{refuses_empty}
use Rattle.picky_wire_base.specs.Combine.{done, ◌>>=◌}
use Rattle.picky_wire_base.specs.Entry.{entry}
use Rattle.picky_wire_base.specs.Table.{find_entry}
use Rattle.picky_wire_base.specs.Named.{is_name}
use Rattle.picky_wire_base.proofs.Named.{named_spells}
use Rattle.picky_wire_base.specs.Numbers.{byte}
use Rattle.picky_wire_base.specs.Wire.{byte_array, uint32, string, string_of, text}
use Rattle.picky_wire_base.proofs.Numbers.{byte_spells, uint32_spells}
use Rattle.picky_wire_base.proofs.Strings.{string_spells}
use Rattle.picky_keys.specs.Key.{IsString}
use Rattle.picky_wire.specs.declared.error.WireError.TheVariants as wire
use Rattle.picky_cert_parts.specs.declared.error.SshSignatureError.{SshSignatureError}
use Rattle.picky_cert_parts.specs.declared.error.SshSignatureError.TheVariants as errors
use Rattle.picky_cert_parts.specs.declared.signature_format.SshSignatureFormat.{SshSignatureFormat}
use Rattle.picky_cert_parts.specs.declared.signature_format.SshSignatureFormat.TheVariants as formats
use Rattle.picky_cert_parts.specs.CertFromWire.{signature_error}
use Rattle.picky_cert_parts.specs.carried.CertFromWire.{signature_error_apart}
use Rattle.picky_cert_parts.specs.CertNames.{format_name, is_sk}
use Rattle.picky_cert_parts.specs.CertNameTables.{signature_formats}
use Rattle.picky_cert_parts.specs.declared.signature.SshSignature.{SshSignature}
use Rattle.picky_cert_parts.specs.declared.signature.SshSignatureBlob.{SshSignatureBlob}
use Rattle.picky_cert_parts.specs.declared.signature.SshSignatureBlob.TheVariants as blobs
use Rattle.picky_cert_parts.specs.Field.{field}
use Rattle.picky_cert_parts.specs.Signature.{signature_total, signature_format, signature_payload, signature_flags}
use Rattle.picky_cert_parts.specs.Signature.{signature_counter, standard_made, sk_made, standard_fields, sk_fields}
use Rattle.picky_cert_parts.specs.Signature.{fields_when, signature_rest, signature, total_of, blob_fields}
use Rattle.picky_cert_parts.specs.Signature.{behind_total, signature_of, blob_fits, signature_reason, IsBlob, IsSignature}
use Rattle.picky_cert_parts.specs.carried.Own.{Owns, field_owns, both_owns, narrow_owns, entry_owns}

-- ---- a signature that is written is a piece

format_name_good : (t : SshSignatureFormat) → is_name (signature_formats.key t) ≡ true
unfolding signature_formats format_name
format_name_good formats.SshRsa = refl
format_name_good formats.RsaSha256 = refl
format_name_good formats.RsaSha512 = refl
format_name_good formats.EcdsaSha2Nistp256 = refl
format_name_good formats.EcdsaSha2Nistp384 = refl
format_name_good formats.EcdsaSha2Nistp521 = refl
format_name_good formats.SshEd25519 = refl
format_name_good formats.SkEcdsaSha2NistP256 = refl
format_name_good formats.SkEd25519 = refl

-- A format's name is spelled by its string.
pub format_spells : (t : SshSignatureFormat) → signature_format.piece t (string_of (format_name t))
unfolding signature_format signature_formats
format_spells t = named_spells 0 signature_formats t (format_name_good t)

standard_spells : (format : SshSignatureFormat) (payload : List ℕ) → IsString payload
    → (standard_fields format).piece (standard_made format payload) (concat (blob_fields (blobs.Standard payload)))
unfolding standard_fields signature_payload
standard_spells format payload is = (payload, _, _, string_spells payload is.short, (refl, refl), refl)

sk_spells : (format : SshSignatureFormat) (payload : List ℕ) (flags counter : ℕ) → IsBlob (blobs.Sk payload flags counter)
    → (sk_fields format).piece (sk_made format payload flags counter) (concat (blob_fields (blobs.Sk payload flags counter)))
unfolding sk_fields signature_payload signature_flags signature_counter
sk_spells format payload flags counter is = (
  payload,
  _,
  _,
  string_spells payload is.0.short,
  (flags, _, _, byte_spells flags is.1, (counter, _, _, uint32_spells counter is.2, (refl, refl), refl), refl),
  refl,
)

no_sk : (sk : Bool) → not sk ≡ true → sk ≡ false
no_sk true is = cc is
no_sk false is = refl

-- The fields of a blob that fits are spelled by it.
pub rest_spells : (format : SshSignatureFormat) (blob : SshSignatureBlob) → IsBlob blob → blob_fits format blob ≡ true
    → (signature_rest format).piece (record { format = format; blob = blob }) (concat (blob_fields blob))
rest_spells format (blobs.Standard payload) is fits =
    subst (λ sk. (fields_when sk format).piece (standard_made format payload) (concat (blob_fields (blobs.Standard payload))))
    (sym (no_sk (is_sk format) fits)) (standard_spells format payload is)
rest_spells format (blobs.Sk payload flags counter) is fits =
    subst (λ sk. (fields_when sk format).piece (sk_made format payload flags counter)
    (concat (blob_fields (blobs.Sk payload flags counter))))
    (sym fits) (sk_spells format payload flags counter is)

-- So is the signature, behind any total.
pub behind_spells : (total : ℕ) (s : SshSignature) → total < 2 ^ 32 → IsSignature s → blob_fits s.format s.blob ≡ true
    → signature.piece s (behind_total total s)
unfolding signature signature_total behind_total
behind_spells total s small is fits = (
  total,
  _,
  _,
  uint32_spells total small,
  (s.format, _, _, format_spells s.format, rest_spells s.format s.blob is fits, refl),
  refl,
)

-- why a signature isn't written, by the two tests
abbrev reason_by : Bool → Bool → Option SshSignatureError
reason_by fits small = if fits then (if small then None else Some errors.TooLong) else Some errors.BlobMismatch

-- both tests pass
record BothPass (first second : Bool) : Type 0 where
  fits : first ≡ true
  small : second ≡ true

written_when : (fits small : Bool) → reason_by fits small ≡ None → BothPass fits small
written_when true true is = record { fits = refl; small = refl }
written_when true false is = cc is
written_when false small is = cc is

-- The one spelling that is written is a piece.
pub signature_spells : (s : SshSignature) → IsSignature s → signature_reason s ≡ None → signature.piece s (signature_of s)
unfolding signature_of
signature_spells s is written =
    let when = written_when (blob_fits s.format s.blob) (nat_lt (total_of s) (2 ^ 32)) written in
    behind_spells (total_of s) s (ltb-true (total_of s) (2 ^ 32) when.small) is when.fits

no_want : (fits small : Bool) → reason_by fits small ≡ Some errors.NoMemory → ⊥
no_want true true is = cc is
no_want true false is = cc is
no_want false small is = cc is

-- No signature is refused for want of memory when it is written.
pub reason_is_no_want : (s : SshSignature) → signature_reason s ≡ Some (signature_error wire.NoMemory) → ⊥
reason_is_no_want s is = no_want (blob_fits s.format s.blob) (nat_lt (total_of s) (2 ^ 32)) is

-- ---- what is read

-- Each piece has at least one byte.
pub signature_solid : Solid signature.piece
unfolding signature signature_total uint32 byte_array
signature_solid = refuses_empty signature (signature_error wire.UnexpectedEnd) refl

total_owns : Owns signature_error signature_total
unfolding signature_total
total_owns = field_owns signature_error uint32 signature_error_apart

format_owns : Owns signature_error signature_format
unfolding signature_format
format_owns =
    narrow_owns signature_error (field signature_error text) (entry errors.UnsupportedSignatureFormat signature_formats)
    (field_owns signature_error text signature_error_apart)
    (λ name e refused. entry_owns signature_error (find_entry signature_formats name) (errors.UnsupportedSignatureFormat name) e
    (λ is. cc is, λ is. cc is) refused)

payload_owns : Owns signature_error signature_payload
unfolding signature_payload
payload_owns = field_owns signature_error string signature_error_apart

flags_owns : Owns signature_error signature_flags
unfolding signature_flags
flags_owns = field_owns signature_error byte signature_error_apart

counter_owns : Owns signature_error signature_counter
unfolding signature_counter
counter_owns = field_owns signature_error uint32 signature_error_apart

standard_owns : (format : SshSignatureFormat) → Owns signature_error (standard_fields format)
unfolding standard_fields
standard_owns format =
    both_owns signature_error signature_payload (λ payload. done (standard_made format payload)) payload_owns
    (λ payload rest d is. cc is)

counter_owned : (format : SshSignatureFormat) (payload : List ℕ) (flags : ℕ)
    → Owns signature_error (signature_counter >>= (λ counter. done (sk_made format payload flags counter)))
counter_owned format payload flags =
    both_owns signature_error signature_counter (λ counter. done (sk_made format payload flags counter)) counter_owns
    (λ counter rest d is. cc is)

flags_owned : (format : SshSignatureFormat) (payload : List ℕ)
    → Owns signature_error (signature_flags
    >>= (λ flags. signature_counter >>= (λ counter. done (sk_made format payload flags counter))))
flags_owned format payload =
    both_owns signature_error signature_flags
    (λ flags. signature_counter >>= (λ counter. done (sk_made format payload flags counter)))
    flags_owns (counter_owned format payload)

sk_owns : (format : SshSignatureFormat) → Owns signature_error (sk_fields format)
unfolding sk_fields
sk_owns format =
    both_owns signature_error signature_payload
    (λ payload. signature_flags >>= (λ flags. signature_counter >>= (λ counter. done (sk_made format payload flags counter))))
    payload_owns (flags_owned format)

when_owns : (sk : Bool) (format : SshSignatureFormat) → Owns signature_error (fields_when sk format)
when_owns true format = sk_owns format
when_owns false format = standard_owns format

named_owns : Owns signature_error (signature_format >>= signature_rest)
named_owns =
    both_owns signature_error signature_format signature_rest format_owns (λ format. when_owns (is_sk format) format)

-- No bytes are refused for a fault or for want of memory.
pub signature_own : (bytes : List ℕ) (e : SshSignatureError) → signature.read bytes ≡ Err e
    → (e ≢ signature_error wire.ReadFault) × (e ≢ signature_error wire.NoMemory)
unfolding signature
signature_own bytes e refused =
    both_owns signature_error signature_total (λ total. signature_format >>= signature_rest) total_owns (λ total. named_owns)
    bytes e refused
