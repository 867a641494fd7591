-- Why a signature is refused, and how long it is.
use Rattle.std.specs.Prelude.{◌≡◌, ◌<◌, ◌^◌, ℕ, List, [], length, None, IsUtf8}
use Rattle.std.specs.Int.{w8, w32, to_be_bytes}
use Rattle.std.proofs.Common.{arith, refl}
use Rattle.picky_wire_base.specs.Combine.{done, ◌>>=◌}
use Rattle.picky_wire_base.specs.Entry.{entry}
use Rattle.picky_wire_base.specs.Grammar.{Grammar}
use Rattle.picky_wire_base.specs.Table.{find_entry}
use Rattle.picky_wire_base.specs.Numbers.{byte}
use Rattle.picky_wire_base.specs.Wire.{uint32, string, string_of, text}
use Rattle.picky_wire_base.proofs.Numbers.{byte_spells, uint32_spells}
use Rattle.picky_wire_base.proofs.Strings.{string_spells}
use Rattle.picky_wire.specs.Takes.{HasCause, causes_of}
use Rattle.picky_cert_parts.specs.declared.error.SshSignatureError.{SshSignatureError}
use Rattle.picky_cert_parts.specs.declared.error.SshSignatureError.TheVariants as errors
use Rattle.picky_cert_parts.specs.declared.signature_format.SshSignatureFormat.{SshSignatureFormat}
use Rattle.picky_cert_parts.specs.CertFromWire.{signature_error}
use Rattle.picky_cert_parts.specs.CertNames.{format_name}
use Rattle.picky_cert_parts.specs.CertNameTables.{signature_formats}
use Rattle.picky_cert_parts.specs.declared.signature.SshSignature.{SshSignature}
use Rattle.picky_cert_parts.specs.Field.{field}
use Rattle.picky_cert_parts.specs.Signature.{signature_total, signature_format, signature_payload, signature_flags}
use Rattle.picky_cert_parts.specs.Signature.{signature_counter, standard_made, sk_made, standard_fields, sk_fields}
use Rattle.picky_cert_parts.specs.Signature.{signature_rest, signature, behind_total}
use Rattle.picky_cert_parts.specs.carried.Signature.{format_spells}
use Rattle.picky_cert_parts.proofs.CauseLemmas.{at_first, at_second, at_field, at_name}

-- The total has four bytes, whatever it is.
pub same_len : (m n : ℕ) (s : SshSignature) → length (behind_total m s) ≡ length (behind_total n s)
unfolding behind_total
same_len m n s = refl

-- its format's name is no text
pub format_text_cause : (e : SshSignatureError) (fault : Type 0)
    → HasCause (causes_of signature_error) (field signature_error text).read fault e
    → HasCause (causes_of signature_error) signature_format.read fault e
unfolding signature_format
format_text_cause e fault cause =
    at_field (causes_of signature_error) (field signature_error text) (entry errors.UnsupportedSignatureFormat signature_formats)
    fault e cause

-- or no format's
pub format_name_cause : (name : List ℕ) (fault : Type 0) → length name < 2 ^ 32 → IsUtf8 name
    → find_entry signature_formats name ≡ None
    → HasCause (causes_of signature_error) signature_format.read fault (errors.UnsupportedSignatureFormat name)
unfolding signature_format
format_name_cause name fault short utf8 none =
    at_name (causes_of signature_error) signature_error signature_formats errors.UnsupportedSignatureFormat fault name short utf8
    none

pub ruleset format_names = (format_text_cause, format_name_cause)

-- ---- the fields behind the name are cut

pub standard_payload_cause : (format : SshSignatureFormat) (e : SshSignatureError) (fault : Type 0)
    → HasCause (causes_of signature_error) (field signature_error string).read fault e
    → HasCause (causes_of signature_error) (standard_fields format).read fault e
unfolding standard_fields signature_payload
standard_payload_cause format e fault cause =
    at_first (causes_of signature_error) signature_payload (λ payload. done (standard_made format payload)) fault e cause

pub ruleset standard_causes = (standard_payload_cause)

-- the fields of a security key's signature behind those that are read
abbrev counter_and : SshSignatureFormat → List ℕ → ℕ → Grammar SshSignatureError SshSignature
counter_and format payload flags = signature_counter >>= (λ counter. done (sk_made format payload flags counter))

abbrev flags_and : SshSignatureFormat → List ℕ → Grammar SshSignatureError SshSignature
flags_and format payload = signature_flags >>= counter_and format payload

empty_payload : signature_payload.piece [] (string_of [])
unfolding signature_payload
empty_payload = string_spells [] (omega arith)

no_flags : signature_flags.piece 0 (to_be_bytes w8 0)
unfolding signature_flags
no_flags = byte_spells 0 (omega arith)

pub sk_payload_cause : (format : SshSignatureFormat) (e : SshSignatureError) (fault : Type 0)
    → HasCause (causes_of signature_error) (field signature_error string).read fault e
    → HasCause (causes_of signature_error) (sk_fields format).read fault e
unfolding sk_fields signature_payload
sk_payload_cause format e fault cause =
    at_first (causes_of signature_error) signature_payload (flags_and format) fault e cause

pub flags_cause : (format : SshSignatureFormat) (e : SshSignatureError) (fault : Type 0)
    → HasCause (causes_of signature_error) (field signature_error byte).read fault e
    → HasCause (causes_of signature_error) (sk_fields format).read fault e
unfolding sk_fields signature_flags
flags_cause format e fault cause =
    at_second (causes_of signature_error) signature_payload (flags_and format) [] (string_of []) empty_payload fault e
    (at_first (causes_of signature_error) signature_flags (counter_and format []) fault e cause)

pub counter_cause : (format : SshSignatureFormat) (e : SshSignatureError) (fault : Type 0)
    → HasCause (causes_of signature_error) (field signature_error uint32).read fault e
    → HasCause (causes_of signature_error) (sk_fields format).read fault e
unfolding sk_fields signature_counter
counter_cause format e fault cause =
    at_second (causes_of signature_error) signature_payload (flags_and format) [] (string_of []) empty_payload fault e
    (at_second (causes_of signature_error) signature_flags (counter_and format []) 0 (to_be_bytes w8 0) no_flags fault e
    (at_first (causes_of signature_error) signature_counter (λ counter. done (sk_made format [] 0 counter)) fault e cause))

pub ruleset sk_causes = (sk_payload_cause, flags_cause, counter_cause)

-- ---- the whole signature

zero_total : signature_total.piece 0 (to_be_bytes w32 0)
unfolding signature_total
zero_total = uint32_spells 0 (omega arith)

pub total_cause : (e : SshSignatureError) (fault : Type 0)
    → HasCause (causes_of signature_error) (field signature_error uint32).read fault e
    → HasCause (causes_of signature_error) signature.read fault e
unfolding signature signature_total
total_cause e fault cause =
    at_first (causes_of signature_error) signature_total (λ total. signature_format >>= signature_rest) fault e cause

pub format_cause : (e : SshSignatureError) (fault : Type 0)
    → HasCause (causes_of signature_error) signature_format.read fault e
    → HasCause (causes_of signature_error) signature.read fault e
unfolding signature
format_cause e fault cause =
    at_second (causes_of signature_error) signature_total (λ total. signature_format >>= signature_rest) 0 (to_be_bytes w32 0)
    zero_total fault e (at_first (causes_of signature_error) signature_format signature_rest fault e cause)

pub rest_cause : (format : SshSignatureFormat) (e : SshSignatureError) (fault : Type 0)
    → HasCause (causes_of signature_error) (signature_rest format).read fault e
    → HasCause (causes_of signature_error) signature.read fault e
unfolding signature
rest_cause format e fault cause =
    at_second (causes_of signature_error) signature_total (λ total. signature_format >>= signature_rest) 0 (to_be_bytes w32 0)
    zero_total fault e
    (at_second (causes_of signature_error) signature_format signature_rest format (string_of (format_name format))
    (format_spells format) fault e cause)

pub ruleset signature_causes = (total_cause, format_cause, rest_cause)
