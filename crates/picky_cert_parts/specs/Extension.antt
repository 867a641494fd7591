-- An extension (OpenSSH's PROTOCOL.certkeys, "Extensions"). One that isn't known is kept by its name.
use Rattle.std.specs.Prelude.{List, [], ◌∷◌, ℕ}
use Rattle.std.specs.List.{concat}
use Rattle.picky_wire_base.specs.Grammar.{Grammar}
use Rattle.picky_wire_base.specs.Combine.{narrow, each, done, ◌>>=◌}
use Rattle.picky_wire_base.specs.Wire.{string, string_of, text}
use Rattle.picky_keys.specs.Key.{IsString}
use Rattle.picky_cert_parts.specs.declared.error.SshExtensionError.{SshExtensionError}
use Rattle.picky_cert_parts.specs.declared.extension_type.SshExtensionType.{SshExtensionType}
use Rattle.picky_cert_parts.specs.CertFromWire.{extension_error}
use Rattle.picky_cert_parts.specs.ExtensionType.{extension_name, extension_named, IsExtensionType}
use Rattle.picky_cert_parts.specs.declared.extension.SshExtension.{SshExtension}
use Rattle.picky_cert_parts.specs.Field.{field}

-- string name
unfoldable pub extension_type : Grammar SshExtensionError SshExtensionType
extension_type = narrow (field extension_error text) (each extension_named)

-- string data
unfoldable pub extension_payload : Grammar SshExtensionError (List ℕ)
extension_payload = field extension_error string

-- what they make
abbrev pub extension_made : SshExtensionType → List ℕ → SshExtension
extension_made name payload = record { extension_type = name; payload = payload }

-- the field after the name
abbrev pub extension_rest : SshExtensionType → Grammar SshExtensionError SshExtension
extension_rest name = do
  payload ← extension_payload
  done (extension_made name payload)

-- string name
-- string data
unfoldable pub extension : Grammar SshExtensionError SshExtension
extension = do
  name ← extension_type
  extension_rest name

-- the one spelling that is written
unfoldable pub extension_of : SshExtension → List ℕ
extension_of x = concat (string_of (extension_name x.extension_type) ∷ string_of x.payload ∷ [])

-- what each extension keeps
abbrev pub IsExtension : SshExtension → Type 0
IsExtension x = IsExtensionType x.extension_type × IsString x.payload
