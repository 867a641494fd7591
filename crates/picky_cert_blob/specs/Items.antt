-- The items of a certificate's lists (OpenSSH's PROTOCOL.certkeys).
use Rattle.std.specs.Prelude.{List, ℕ}
use Rattle.picky_wire_base.specs.Grammar.{Grammar}
use Rattle.picky_wire_base.specs.Combine.{tag}
use Rattle.picky_wire_base.specs.Wire.{text}
use Rattle.picky_cert_parts.specs.declared.critical_option.SshCriticalOption.{SshCriticalOption}
use Rattle.picky_cert_parts.specs.declared.extension.SshExtension.{SshExtension}
use Rattle.picky_cert_parts.specs.CriticalOption.{critical_option}
use Rattle.picky_cert_parts.specs.Extension.{extension}
use Rattle.picky_cert_blob.specs.declared.part.CertPart.TheVariants as parts
use Rattle.picky_wire_base.specs.Combine.{at}
use Rattle.picky_cert_blob.specs.Reason.{CertReason, option_why, extension_why}

-- string principal, which is text
unfoldable pub principal_item : Grammar CertReason (List ℕ)
principal_item = at parts.Principals text

-- string name, of a critical option
-- string data
unfoldable pub option_item : Grammar CertReason SshCriticalOption
option_item = tag (λ e. (parts.Options, option_why e)) critical_option

-- string name
-- string data
unfoldable pub extension_item : Grammar CertReason SshExtension
extension_item = tag (λ e. (parts.Extensions, extension_why e)) extension
