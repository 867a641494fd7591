-- A critical option (OpenSSH's PROTOCOL.certkeys, "Critical options").
use Rattle.std.specs.Prelude.{List, [], ◌∷◌, ℕ}
use Rattle.std.specs.List.{concat}
use Rattle.picky_wire_base.specs.Grammar.{Grammar}
use Rattle.picky_wire_base.specs.Combine.{narrow, done, ◌>>=◌}
use Rattle.picky_wire_base.specs.Entry.{entry}
use Rattle.picky_wire_base.specs.Wire.{string, string_of, text}
use Rattle.picky_keys.specs.Key.{IsString}
use Rattle.picky_cert_parts.specs.declared.error.SshCriticalOptionError.{SshCriticalOptionError}
use Rattle.picky_cert_parts.specs.declared.error.SshCriticalOptionError.TheVariants as errors
use Rattle.picky_cert_parts.specs.declared.option_type.SshCriticalOptionType.{SshCriticalOptionType}
use Rattle.picky_cert_parts.specs.declared.critical_option.SshCriticalOption.{SshCriticalOption}
use Rattle.picky_cert_parts.specs.CertFromWire.{option_error}
use Rattle.picky_cert_parts.specs.Field.{field}
use Rattle.picky_cert_parts.specs.CertNames.{option_name}
use Rattle.picky_cert_parts.specs.CertNameTables.{option_types}

-- string name, of a critical option; another is refused with itself
unfoldable pub option_type : Grammar SshCriticalOptionError SshCriticalOptionType
option_type = narrow (field option_error text) (entry errors.UnsupportedCriticalOptionType option_types)

-- string data
unfoldable pub option_payload : Grammar SshCriticalOptionError (List ℕ)
option_payload = field option_error string

-- what they make
abbrev pub option_made : SshCriticalOptionType → List ℕ → SshCriticalOption
option_made name payload = record { option_type = name; payload = payload }

-- the field after the name
abbrev pub option_rest : SshCriticalOptionType → Grammar SshCriticalOptionError SshCriticalOption
option_rest name = do
  payload ← option_payload
  done (option_made name payload)

-- string name
-- string data
unfoldable pub critical_option : Grammar SshCriticalOptionError SshCriticalOption
critical_option = do
  name ← option_type
  option_rest name

-- the one spelling that is written
unfoldable pub option_of : SshCriticalOption → List ℕ
option_of o = concat (string_of (option_name o.option_type) ∷ string_of o.payload ∷ [])

-- what each option keeps
abbrev pub IsCriticalOption : SshCriticalOption → Type 0
IsCriticalOption o = IsString o.payload
