-- What a user's certificate permits where nothing else is asked for (OpenSSH's PROTOCOL.certkeys, "Extensions").
use Rattle.std.specs.Prelude.{List, [], ◌∷◌}
use Rattle.picky_cert_parts.specs.declared.extension_type.SshExtensionType.{SshExtensionType}
use Rattle.picky_cert_parts.specs.declared.extension_type.SshExtensionType.TheVariants as extensions
use Rattle.picky_cert_parts.specs.declared.extension.SshExtension.{SshExtension}

-- an extension without data
abbrev pub permit : SshExtensionType → SshExtension
permit t = record { extension_type = t; payload = [] }

-- the five permits, in the order of their names' bytes
abbrev pub permits : List SshExtension
permits =
    permit extensions.PermitX11Forwarding ∷ permit extensions.PermitAgentForwarding
    ∷ permit extensions.PermitPortForwarding ∷ permit extensions.PermitPty ∷ permit extensions.PermitUserPc ∷ []
