-- Errors of the wire stay apart as errors of a certificate and its parts.
use Rattle.std.specs.Prelude.{◌≡◌}
use Rattle.std.proofs.Common.{rules}
use Rattle.picky_wire.specs.declared.error.WireError.{WireError}
use Rattle.picky_cert_parts.specs.CertFromWire.{cert_type_error, option_error, extension_error, signature_error}
use Rattle.picky_cert_parts.specs.CertFromWire.{certificate_error}

pub cert_type_error_apart : (d e : WireError) → cert_type_error d ≡ cert_type_error e → d ≡ e
cert_type_error_apart = search rules

pub option_error_apart : (d e : WireError) → option_error d ≡ option_error e → d ≡ e
option_error_apart = search rules

pub extension_error_apart : (d e : WireError) → extension_error d ≡ extension_error e → d ≡ e
extension_error_apart = search rules

pub signature_error_apart : (d e : WireError) → signature_error d ≡ signature_error e → d ≡ e
signature_error_apart = search rules

pub certificate_error_apart : (d e : WireError) → certificate_error d ≡ certificate_error e → d ≡ e
certificate_error_apart = search rules
