-- The name of an extension stands for it.
use Rattle.std.specs.Prelude.{◌≡◌, Some}
use Rattle.std.proofs.Common.{ap}
use Rattle.picky_wire_base.specs.Table.{find_entry}
use Rattle.picky_cert_parts.specs.declared.known_extension.KnownExtension.{KnownExtension}
use Rattle.picky_cert_parts.specs.declared.known_extension.KnownExtension.TheVariants as known
use Rattle.picky_cert_parts.specs.declared.extension_type.SshExtensionType.{SshExtensionType}
use Rattle.picky_cert_parts.specs.declared.extension_type.SshExtensionType.TheVariants as extensions
use Rattle.picky_cert_parts.specs.CertNames.{known_name}
use Rattle.picky_cert_parts.specs.carried.CertNames.{own_known}
use Rattle.picky_cert_parts.specs.CertNameTables.{known_extensions}
use Rattle.picky_cert_parts.specs.ExtensionType.{type_of, known_or_other, extension_name, extension_named, IsExtensionType}

known_is_found : (k : KnownExtension) → find_entry known_extensions (known_name k) ≡ Some k
unfolding known_extensions
known_is_found k = own_known k

-- The name of a known extension stands for it.
pub known_named : (k : KnownExtension) → extension_named (known_name k) ≡ type_of k
known_named k = ap (known_or_other (known_name k)) (known_is_found k)

-- The name of an extension stands for it.
pub name_names : (t : SshExtensionType) → IsExtensionType t → extension_named (extension_name t) ≡ t
name_names extensions.NoTouchRequired is = known_named known.NoTouchRequired
name_names extensions.PermitX11Forwarding is = known_named known.PermitX11Forwarding
name_names extensions.PermitAgentForwarding is = known_named known.PermitAgentForwarding
name_names extensions.PermitPortForwarding is = known_named known.PermitPortForwarding
name_names extensions.PermitPty is = known_named known.PermitPty
name_names extensions.PermitUserPc is = known_named known.PermitUserPc
name_names (extensions.Other name) is = ap (known_or_other name) is.1
