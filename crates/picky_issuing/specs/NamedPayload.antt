-- Values of the form NAME or NAME=TEXT, which ask for a critical option or an extension.
use Rattle.std.specs.Prelude.{List, [], ℕ, ◌^◌, ◌==◌, Bool, nat_lt, length, Option, Some, None, if◌then◌else◌}
use Rattle.std.specs.List.{after_first, before_first, list_any}
use Rattle.picky_wire_base.specs.Table.{find_entry}
use Rattle.picky_wire_base.specs.Wire.{string_of}
use Rattle.picky_cert_parts.specs.ExtensionType.{extension_named}
use Rattle.picky_cert_parts.specs.CertNameTables.{option_types}
use Rattle.picky_cert_parts.specs.CriticalOption.{option_made}
use Rattle.picky_cert_parts.specs.Extension.{extension_made}
use Rattle.picky_cert_parts.specs.declared.critical_option.SshCriticalOption.{SshCriticalOption}
use Rattle.picky_cert_parts.specs.declared.extension.SshExtension.{SshExtension}
use Rattle.picky_issuing.specs.Steps.{some_then}

-- the equals sign
abbrev pub is_equals : ℕ → Bool
is_equals b = b == 61

-- NAME: what stands before the first equals sign, and all where none stands
unfoldable pub name_in : List ℕ → List ℕ
name_in value = before_first is_equals value

-- nothing where no equals sign stands, and else TEXT as a string, which is all that stands after the first (RFC 4251, section 5)
unfoldable pub payload_in : List ℕ → List ℕ
payload_in value = if list_any is_equals value then string_of (after_first is_equals value) else []

-- bytes whose number fits the length of a string
abbrev pub if_short : List ℕ → Option (List ℕ)
if_short bytes = if nat_lt (length bytes) (2 ^ 32) then Some bytes else None

-- the critical option with the name, and with the payload, where it is short enough
abbrev pub requested_critical_option : List ℕ → Option SshCriticalOption
requested_critical_option value =
    some_then (find_entry option_types (name_in value)) (λ t.
    some_then (if_short (payload_in value)) (λ payload. Some (option_made t payload)))

-- the same of an extension, known or not, whose name may be any but the empty one
abbrev pub requested_extension : List ℕ → Option SshExtension
requested_extension value =
    if length (name_in value) == 0 then None
    else some_then (if_short (payload_in value)) (λ payload. Some (extension_made (extension_named (name_in value)) payload))
