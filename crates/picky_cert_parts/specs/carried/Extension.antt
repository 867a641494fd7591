-- What an element of the wire promises of its layout, for extensions.
use Rattle.std.specs.Prelude.{◌≡◌, ◌≢◌, List, ℕ, true, Err}
use Rattle.std.proofs.Common.{refl, sym, subst}
use Rattle.picky_wire_base.specs.Row.{Solid}
use Rattle.picky_wire_base.proofs.Solid.{refuses_empty}
use Rattle.picky_wire_base.specs.Combine.{each, done}
use Rattle.picky_wire_base.specs.Named.{is_name}
use Rattle.picky_wire_base.proofs.Named.{named_spells}
use Rattle.picky_wire_base.specs.Wire.{byte_array, uint32, string, string_of, text}
use Rattle.picky_wire_base.proofs.Strings.{string_spells, text_spells}
use Rattle.picky_wire.specs.declared.error.WireError.TheVariants as wire
use Rattle.picky_cert_parts.specs.declared.error.SshExtensionError.{SshExtensionError}
use Rattle.picky_cert_parts.specs.declared.known_extension.KnownExtension.{KnownExtension}
use Rattle.picky_cert_parts.specs.declared.known_extension.KnownExtension.TheVariants as known
use Rattle.picky_cert_parts.specs.declared.extension_type.SshExtensionType.{SshExtensionType}
use Rattle.picky_cert_parts.specs.declared.extension_type.SshExtensionType.TheVariants as extensions
use Rattle.picky_cert_parts.specs.declared.extension.SshExtension.{SshExtension}
use Rattle.picky_cert_parts.specs.Field.{field}
use Rattle.picky_cert_parts.specs.CertFromWire.{extension_error}
use Rattle.picky_cert_parts.specs.carried.CertFromWire.{extension_error_apart}
use Rattle.picky_cert_parts.specs.CertNames.{known_name}
use Rattle.picky_cert_parts.specs.carried.ExtensionNames.{name_names}
use Rattle.picky_cert_parts.specs.CertNameTables.{known_extensions}
use Rattle.picky_cert_parts.specs.ExtensionType.{extension_name, extension_named, IsExtensionType}
use Rattle.picky_cert_parts.specs.Extension.{extension_type, extension_payload, extension_made, extension_rest}
use Rattle.picky_cert_parts.specs.Extension.{extension, extension_of, IsExtension}
use Rattle.picky_cert_parts.specs.carried.Own.{Owns, field_owns, both_owns, narrow_owns}

known_name_good : (k : KnownExtension) → is_name (known_extensions.key k) ≡ true
unfolding known_extensions known_name
known_name_good known.NoTouchRequired = refl
known_name_good known.PermitX11Forwarding = refl
known_name_good known.PermitAgentForwarding = refl
known_name_good known.PermitPortForwarding = refl
known_name_good known.PermitPty = refl
known_name_good known.PermitUserPc = refl

known_text : (k : KnownExtension) → text.piece (known_name k) (string_of (known_name k))
unfolding known_extensions
known_text k =
    let spells = named_spells 0 known_extensions k (known_name_good k) in
    subst (λ v. text.piece v (string_of (known_name k))) (sym spells.2) spells.1

name_text : (t : SshExtensionType) → IsExtensionType t → text.piece (extension_name t) (string_of (extension_name t))
name_text extensions.NoTouchRequired is = known_text known.NoTouchRequired
name_text extensions.PermitX11Forwarding is = known_text known.PermitX11Forwarding
name_text extensions.PermitAgentForwarding is = known_text known.PermitAgentForwarding
name_text extensions.PermitPortForwarding is = known_text known.PermitPortForwarding
name_text extensions.PermitPty is = known_text known.PermitPty
name_text extensions.PermitUserPc is = known_text known.PermitUserPc
name_text (extensions.Other name) is = text_spells name is.0.short is.0.utf8

-- An extension's name is spelled by its string.
pub extension_type_spells : (t : SshExtensionType) → IsExtensionType t → extension_type.piece t (string_of (extension_name t))
unfolding extension_type
extension_type_spells t is = (extension_name t, name_text t is, name_names t is)

-- The one spelling that is written is a piece.
pub extension_spells : (x : SshExtension) → IsExtension x → extension.piece x (extension_of x)
unfolding extension extension_payload extension_of
extension_spells x is = (
  x.extension_type,
  _,
  _,
  extension_type_spells x.extension_type is.0,
  (x.payload, _, _, string_spells x.payload is.1.short, (refl, refl), refl),
  refl,
)

-- Each piece has at least one byte.
pub extension_solid : Solid extension.piece
unfolding extension extension_type text string uint32 byte_array
extension_solid = refuses_empty extension (extension_error wire.UnexpectedEnd) refl

type_owns : Owns extension_error extension_type
unfolding extension_type
type_owns =
    narrow_owns extension_error (field extension_error text) (each extension_named)
    (field_owns extension_error text extension_error_apart) (λ name e refused. cc refused)

payload_owns : Owns extension_error extension_payload
unfolding extension_payload
payload_owns = field_owns extension_error string extension_error_apart

-- No bytes are refused for a fault or for want of memory.
pub extension_own : (bytes : List ℕ) (e : SshExtensionError) → extension.read bytes ≡ Err e
    → (e ≢ extension_error wire.ReadFault) × (e ≢ extension_error wire.NoMemory)
unfolding extension
extension_own bytes e refused =
    both_owns extension_error extension_type extension_rest type_owns
    (λ t. both_owns extension_error extension_payload (λ payload. done (extension_made t payload)) payload_owns
    (λ payload rest d is. cc is)) bytes e refused
