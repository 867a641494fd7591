-- Reading never refuses a signature for a blob that doesn't fit its format.
use Rattle.std.specs.Prelude.{◌≢◌, Bool, true, false, List, ℕ, Err}
use Rattle.std.proofs.Common.{refl}
use Rattle.picky_wire_base.specs.Flaw.{Flaw, Short, NotUtf8, Big}
use Rattle.picky_wire_base.specs.Combine.{done, ◌>>=◌}
use Rattle.picky_wire_base.specs.Entry.{entry}
use Rattle.picky_wire_base.specs.Table.{find_entry}
use Rattle.picky_wire_base.specs.Numbers.{byte}
use Rattle.picky_wire_base.specs.Wire.{uint32, string, text}
use Rattle.picky_wire.specs.Flaws.{wire_error}
use Rattle.picky_cert_parts.specs.declared.error.SshSignatureError.{SshSignatureError}
use Rattle.picky_cert_parts.specs.declared.error.SshSignatureError.TheVariants as errors
use Rattle.picky_cert_parts.specs.declared.signature_format.SshSignatureFormat.{SshSignatureFormat}
use Rattle.picky_cert_parts.specs.CertFromWire.{signature_error}
use Rattle.picky_cert_parts.specs.CertNames.{is_sk}
use Rattle.picky_cert_parts.specs.CertNameTables.{signature_formats}
use Rattle.picky_cert_parts.specs.Field.{field}
use Rattle.picky_cert_parts.specs.Signature.{signature_total, signature_format, signature_payload, signature_flags}
use Rattle.picky_cert_parts.specs.Signature.{signature_counter, standard_made, sk_made, standard_fields, sk_fields}
use Rattle.picky_cert_parts.specs.Signature.{fields_when, signature_rest, signature}
use Rattle.picky_cert_parts.proofs.RefusesLemmas.{RefusesAs, field_refuses, both_refuses, narrow_refuses, entry_refuses}

-- the error is another
abbrev IsOther : SshSignatureError → Type 0
IsOther e = e ≢ errors.BlobMismatch

flaw_is_other : (flaw : Flaw) → IsOther (signature_error (wire_error flaw))
flaw_is_other Short = λ is. cc is
flaw_is_other NotUtf8 = λ is. cc is
flaw_is_other Big = λ is. cc is

total_refuses : RefusesAs IsOther signature_total
unfolding signature_total
total_refuses = field_refuses IsOther signature_error uint32 flaw_is_other

format_refuses : RefusesAs IsOther signature_format
unfolding signature_format
format_refuses =
    narrow_refuses IsOther (field signature_error text) (entry errors.UnsupportedSignatureFormat signature_formats)
    (field_refuses IsOther signature_error text flaw_is_other)
    (λ name e refused. entry_refuses IsOther (find_entry signature_formats name) (errors.UnsupportedSignatureFormat name) e
    (λ is. cc is) refused)

payload_refuses : RefusesAs IsOther signature_payload
unfolding signature_payload
payload_refuses = field_refuses IsOther signature_error string flaw_is_other

flags_refuses : RefusesAs IsOther signature_flags
unfolding signature_flags
flags_refuses = field_refuses IsOther signature_error byte flaw_is_other

counter_refuses : RefusesAs IsOther signature_counter
unfolding signature_counter
counter_refuses = field_refuses IsOther signature_error uint32 flaw_is_other

standard_refuses : (format : SshSignatureFormat) → RefusesAs IsOther (standard_fields format)
unfolding standard_fields
standard_refuses format =
    both_refuses IsOther signature_payload (λ payload. done (standard_made format payload)) payload_refuses
    (λ payload rest e is. cc is)

sk_refuses : (format : SshSignatureFormat) → RefusesAs IsOther (sk_fields format)
unfolding sk_fields
sk_refuses format =
    both_refuses IsOther signature_payload
    (λ payload. signature_flags >>= (λ flags. signature_counter >>= (λ counter. done (sk_made format payload flags counter))))
    payload_refuses
    (λ payload. both_refuses IsOther signature_flags
    (λ flags. signature_counter >>= (λ counter. done (sk_made format payload flags counter))) flags_refuses
    (λ flags. both_refuses IsOther signature_counter (λ counter. done (sk_made format payload flags counter))
    counter_refuses (λ counter rest e is. cc is)))

when_refuses : (sk : Bool) (format : SshSignatureFormat) → RefusesAs IsOther (fields_when sk format)
when_refuses true format = sk_refuses format
when_refuses false format = standard_refuses format

named_refuses : RefusesAs IsOther (signature_format >>= signature_rest)
named_refuses =
    both_refuses IsOther signature_format signature_rest format_refuses (λ format. when_refuses (is_sk format) format)

pub no_mismatch : (bytes : List ℕ) → signature.read bytes ≢ Err errors.BlobMismatch
unfolding signature
no_mismatch bytes is =
    both_refuses IsOther signature_total (λ total. signature_format >>= signature_rest) total_refuses (λ total. named_refuses)
    bytes errors.BlobMismatch is refl
