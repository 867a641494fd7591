-- Why an extension is refused.
use Rattle.picky_wire_base.specs.Combine.{each, done}
use Rattle.picky_wire_base.specs.Wire.{string, string_of, text}
use Rattle.picky_wire.specs.Takes.{HasCause, causes_of}
use Rattle.picky_cert_parts.specs.declared.error.SshExtensionError.{SshExtensionError}
use Rattle.picky_cert_parts.specs.declared.extension_type.SshExtensionType.TheVariants as extensions
use Rattle.picky_cert_parts.specs.CertFromWire.{extension_error}
use Rattle.picky_cert_parts.specs.Field.{field}
use Rattle.picky_cert_parts.specs.ExtensionType.{extension_name, extension_named}
use Rattle.picky_cert_parts.specs.Extension.{extension_type, extension_payload}
use Rattle.picky_cert_parts.specs.Extension.{extension_made, extension_rest, extension}
use Rattle.picky_cert_parts.specs.carried.Extension.{extension_type_spells}
use Rattle.picky_cert_parts.proofs.CauseLemmas.{at_first, at_second, at_field}

-- its name is no text
pub extension_text_cause : (e : SshExtensionError) (fault : Type 0)
    → HasCause (causes_of extension_error) (field extension_error text).read fault e
    → HasCause (causes_of extension_error) extension_type.read fault e
unfolding extension_type
extension_text_cause e fault cause =
    at_field (causes_of extension_error) (field extension_error text) (each extension_named) fault e cause

pub extension_type_cause : (e : SshExtensionError) (fault : Type 0)
    → HasCause (causes_of extension_error) extension_type.read fault e
    → HasCause (causes_of extension_error) extension.read fault e
unfolding extension
extension_type_cause e fault cause = at_first (causes_of extension_error) extension_type extension_rest fault e cause

-- or its payload is cut
pub extension_payload_cause : (e : SshExtensionError) (fault : Type 0)
    → HasCause (causes_of extension_error) (field extension_error string).read fault e
    → HasCause (causes_of extension_error) extension.read fault e
unfolding extension extension_payload
extension_payload_cause e fault cause =
    at_second (causes_of extension_error) extension_type extension_rest extensions.PermitPty
    (string_of (extension_name extensions.PermitPty)) (extension_type_spells extensions.PermitPty (record {})) fault e
    (at_first (causes_of extension_error) extension_payload (λ payload. done (extension_made extensions.PermitPty payload))
    fault e cause)

pub ruleset extension_names = (extension_text_cause)

pub ruleset extension_causes = (extension_type_cause, extension_payload_cause)
