-- The extensions by name (OpenSSH's PROTOCOL.certkeys, "Extensions"). One that isn't known is kept by its name.
use Rattle.std.specs.Prelude.{◌≡◌, List, ℕ, Option, Some, None}
use Rattle.picky_wire_base.specs.Table.{find_entry}
use Rattle.picky_wire.specs.Principals.{IsPrincipal}
use Rattle.picky_cert_parts.specs.declared.known_extension.KnownExtension.{KnownExtension}
use Rattle.picky_cert_parts.specs.declared.known_extension.KnownExtension.TheVariants as known
use Rattle.picky_cert_parts.specs.declared.extension_type.SshExtensionType.{SshExtensionType}
use Rattle.picky_cert_parts.specs.declared.extension_type.SshExtensionType.TheVariants as extensions
use Rattle.picky_cert_parts.specs.CertNames.{known_name}
use Rattle.picky_cert_parts.specs.CertNameTables.{known_extensions}

-- a known extension as a type
abbrev pub type_of : KnownExtension → SshExtensionType
type_of known.NoTouchRequired = extensions.NoTouchRequired
type_of known.PermitX11Forwarding = extensions.PermitX11Forwarding
type_of known.PermitAgentForwarding = extensions.PermitAgentForwarding
type_of known.PermitPortForwarding = extensions.PermitPortForwarding
type_of known.PermitPty = extensions.PermitPty
type_of known.PermitUserPc = extensions.PermitUserPc

-- the name of an extension
abbrev pub extension_name : SshExtensionType → List ℕ
extension_name extensions.NoTouchRequired = known_name known.NoTouchRequired
extension_name extensions.PermitX11Forwarding = known_name known.PermitX11Forwarding
extension_name extensions.PermitAgentForwarding = known_name known.PermitAgentForwarding
extension_name extensions.PermitPortForwarding = known_name known.PermitPortForwarding
extension_name extensions.PermitPty = known_name known.PermitPty
extension_name extensions.PermitUserPc = known_name known.PermitUserPc
extension_name (extensions.Other name) = name

-- the type for an entry of the table, or for the name that has none
abbrev pub known_or_other : List ℕ → Option KnownExtension → SshExtensionType
known_or_other name (Some row) = type_of row
known_or_other name None = extensions.Other name

-- the extension with this name
abbrev pub extension_named : List ℕ → SshExtensionType
extension_named name = known_or_other name (find_entry known_extensions name)

-- what each type keeps: a name that is kept is a text and no known one
abbrev pub IsExtensionType : SshExtensionType → Type 0
IsExtensionType (extensions.Other name) = IsPrincipal name × (find_entry known_extensions name ≡ None)
IsExtensionType t = Unit {0}
