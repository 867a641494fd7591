-- Why a critical option is refused.
use Rattle.std.specs.Prelude.{◌≡◌, ◌<◌, ◌^◌, ℕ, List, length, None, IsUtf8}
use Rattle.picky_wire_base.specs.Combine.{done}
use Rattle.picky_wire_base.specs.Entry.{entry}
use Rattle.picky_wire_base.specs.Table.{find_entry}
use Rattle.picky_wire_base.specs.Wire.{string, string_of, text}
use Rattle.picky_wire.specs.Takes.{HasCause, causes_of}
use Rattle.picky_cert_parts.specs.declared.error.SshCriticalOptionError.{SshCriticalOptionError}
use Rattle.picky_cert_parts.specs.declared.error.SshCriticalOptionError.TheVariants as errors
use Rattle.picky_cert_parts.specs.declared.option_type.SshCriticalOptionType.TheVariants as options
use Rattle.picky_cert_parts.specs.CertFromWire.{option_error}
use Rattle.picky_cert_parts.specs.Field.{field}
use Rattle.picky_cert_parts.specs.CertNames.{option_name}
use Rattle.picky_cert_parts.specs.CertNameTables.{option_types}
use Rattle.picky_cert_parts.specs.CriticalOption.{option_type, option_payload, option_made, option_rest, critical_option}
use Rattle.picky_cert_parts.specs.carried.CriticalOption.{option_type_spells}
use Rattle.picky_cert_parts.proofs.CauseLemmas.{at_first, at_second, at_field, at_name}

-- its name is no text
pub option_text_cause : (e : SshCriticalOptionError) (fault : Type 0)
    → HasCause (causes_of option_error) (field option_error text).read fault e
    → HasCause (causes_of option_error) option_type.read fault e
unfolding option_type
option_text_cause e fault cause =
    at_field (causes_of option_error) (field option_error text) (entry errors.UnsupportedCriticalOptionType option_types) fault e
    cause

-- or no option's
pub option_name_cause : (name : List ℕ) (fault : Type 0) → length name < 2 ^ 32 → IsUtf8 name
    → find_entry option_types name ≡ None
    → HasCause (causes_of option_error) option_type.read fault (errors.UnsupportedCriticalOptionType name)
unfolding option_type
option_name_cause name fault short utf8 none =
    at_name (causes_of option_error) option_error option_types errors.UnsupportedCriticalOptionType fault name short utf8 none

pub option_type_cause : (e : SshCriticalOptionError) (fault : Type 0)
    → HasCause (causes_of option_error) option_type.read fault e
    → HasCause (causes_of option_error) critical_option.read fault e
unfolding critical_option
option_type_cause e fault cause = at_first (causes_of option_error) option_type option_rest fault e cause

-- or its payload is cut
pub option_payload_cause : (e : SshCriticalOptionError) (fault : Type 0)
    → HasCause (causes_of option_error) (field option_error string).read fault e
    → HasCause (causes_of option_error) critical_option.read fault e
unfolding critical_option option_payload
option_payload_cause e fault cause =
    at_second (causes_of option_error) option_type option_rest options.ForceCommand (string_of (option_name options.ForceCommand))
    (option_type_spells options.ForceCommand) fault e
    (at_first (causes_of option_error) option_payload (λ payload. done (option_made options.ForceCommand payload)) fault e cause)

pub ruleset option_names = (option_text_cause, option_name_cause)

pub ruleset option_causes = (option_type_cause, option_payload_cause)
