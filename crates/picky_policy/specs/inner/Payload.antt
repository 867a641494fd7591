-- Words of this crate's private contracts: the payload of the one option of a type, option by option.
use Rattle.std.specs.Prelude.{ℕ, List, Option, Some, None, if◌then◌else◌}
use Rattle.picky_cert_parts.specs.declared.option_type.SshCriticalOptionType.{SshCriticalOptionType}
use Rattle.picky_cert_parts.specs.declared.critical_option.SshCriticalOption.{SshCriticalOption}
use Rattle.picky_policy.specs.Demands.{is_type}

-- a payload, where none was found before
abbrev pub first_payload : (found : Option (List ℕ)) (payload : List ℕ) → Option (Option (List ℕ))
first_payload None payload = Some (Some payload)
first_payload (Some before) payload = None

-- what was found, with one option more
abbrev pub with_payload : (wanted : SshCriticalOptionType) → (found : Option (List ℕ)) → SshCriticalOption
    → Option (Option (List ℕ))
with_payload wanted found o = if is_type wanted o.option_type then first_payload found o.payload else Some found
