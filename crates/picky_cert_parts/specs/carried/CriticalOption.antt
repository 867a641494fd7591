-- What an element of the wire promises of its layout, for critical options.
use Rattle.std.specs.Prelude.{◌≡◌, ◌≢◌, List, ℕ, true, Err}
use Rattle.std.proofs.Common.{refl}
use Rattle.picky_wire_base.specs.Row.{Solid}
use Rattle.picky_wire_base.proofs.Solid.{refuses_empty}
use Rattle.picky_wire_base.specs.Entry.{entry}
use Rattle.picky_wire_base.specs.Table.{find_entry}
use Rattle.picky_wire_base.specs.Named.{is_name}
use Rattle.picky_wire_base.proofs.Named.{named_spells}
use Rattle.picky_wire_base.specs.Wire.{byte_array, uint32, string, string_of, text}
use Rattle.picky_wire_base.proofs.Strings.{string_spells}
use Rattle.picky_wire.specs.declared.error.WireError.TheVariants as wire
use Rattle.picky_cert_parts.specs.declared.error.SshCriticalOptionError.{SshCriticalOptionError}
use Rattle.picky_cert_parts.specs.declared.error.SshCriticalOptionError.TheVariants as errors
use Rattle.picky_cert_parts.specs.declared.option_type.SshCriticalOptionType.{SshCriticalOptionType}
use Rattle.picky_cert_parts.specs.declared.option_type.SshCriticalOptionType.TheVariants as options
use Rattle.picky_cert_parts.specs.declared.critical_option.SshCriticalOption.{SshCriticalOption}
use Rattle.picky_cert_parts.specs.Field.{field}
use Rattle.picky_cert_parts.specs.CertFromWire.{option_error}
use Rattle.picky_cert_parts.specs.carried.CertFromWire.{option_error_apart}
use Rattle.picky_cert_parts.specs.CertNames.{option_name}
use Rattle.picky_cert_parts.specs.CertNameTables.{option_types}
use Rattle.picky_cert_parts.specs.CriticalOption.{option_type, option_payload, option_made}
use Rattle.picky_cert_parts.specs.CriticalOption.{option_rest, critical_option, option_of, IsCriticalOption}
use Rattle.picky_wire_base.specs.Combine.{done}
use Rattle.picky_cert_parts.specs.carried.Own.{Owns, field_owns, both_owns, narrow_owns, entry_owns}

option_name_good : (t : SshCriticalOptionType) → is_name (option_types.key t) ≡ true
unfolding option_types option_name
option_name_good options.ForceCommand = refl
option_name_good options.SourceAddress = refl
option_name_good options.VerifyRequired = refl

-- An option's name is spelled by its string.
pub option_type_spells : (t : SshCriticalOptionType) → option_type.piece t (string_of (option_name t))
unfolding option_type option_types
option_type_spells t = named_spells 0 option_types t (option_name_good t)

-- The one spelling that is written is a piece.
pub option_spells : (o : SshCriticalOption) → IsCriticalOption o → critical_option.piece o (option_of o)
unfolding critical_option option_payload option_of
option_spells o is = (
  o.option_type,
  _,
  _,
  option_type_spells o.option_type,
  (o.payload, _, _, string_spells o.payload is.short, (refl, refl), refl),
  refl,
)

-- Each piece has at least one byte.
pub option_solid : Solid critical_option.piece
unfolding critical_option option_type text string uint32 byte_array
option_solid = refuses_empty critical_option (option_error wire.UnexpectedEnd) refl

type_owns : Owns option_error option_type
unfolding option_type
type_owns =
    narrow_owns option_error (field option_error text) (entry errors.UnsupportedCriticalOptionType option_types)
    (field_owns option_error text option_error_apart)
    (λ name e refused. entry_owns option_error (find_entry option_types name) (errors.UnsupportedCriticalOptionType name) e
    (λ is. cc is, λ is. cc is) refused)

payload_owns : Owns option_error option_payload
unfolding option_payload
payload_owns = field_owns option_error string option_error_apart

-- No bytes are refused for a fault or for want of memory.
pub option_own : (bytes : List ℕ) (e : SshCriticalOptionError) → critical_option.read bytes ≡ Err e
    → (e ≢ option_error wire.ReadFault) × (e ≢ option_error wire.NoMemory)
unfolding critical_option
option_own bytes e refused =
    both_owns option_error option_type option_rest type_owns
    (λ t. both_owns option_error option_payload (λ payload. done (option_made t payload)) payload_owns
    (λ payload rest d is. cc is)) bytes e refused
