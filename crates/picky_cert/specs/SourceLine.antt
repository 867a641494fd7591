-- A certificate's line in front of a source's bytes: what it means, and the order of its refusals.
use Rattle.std.specs.Prelude.{List, ℕ, Result, Ok}
use Rattle.picky_wire_base.specs.Outcome.{and_then}
use Rattle.picky_keys.specs.SourceLine.{read_line}
use Rattle.picky_cert_parts.specs.declared.error.SshCertificateError.{SshCertificateError}
use Rattle.picky_cert_parts.specs.CertFromWire.{certificate_error}
use Rattle.picky_cert.specs.declared.certificate.SshCertificate.{SshCertificate}
use Rattle.picky_cert.specs.LineRefusal.{cert_line_meaning}

-- the certificate that the source's bytes begin with and what is left, or the first reason why there is none
unfoldable pub cert_source_meaning : List ℕ → Result (SshCertificate × List ℕ) SshCertificateError
cert_source_meaning bytes =
    and_then (read_line certificate_error bytes) (λ line. and_then (cert_line_meaning line.0) (λ c. Ok (c, line.1)))
