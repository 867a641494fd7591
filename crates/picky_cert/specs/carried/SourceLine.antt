-- No bytes of a source are refused for a fault or for want of memory.
use Rattle.std.specs.Prelude.{◌≡◌, ◌≢◌, List, ℕ, Err}
use Rattle.std.proofs.Common.{refl, sym, subst}
use Rattle.picky_wire.specs.declared.error.WireError.TheVariants as wire
use Rattle.picky_wire.specs.OfWire.{IsErrorOfBytes}
use Rattle.picky_keys.specs.carried.SourceLine.{line_in_front_own}
use Rattle.picky_cert_parts.specs.declared.error.SshCertificateError.{SshCertificateError}
use Rattle.picky_cert_parts.specs.CertFromWire.{certificate_error}
use Rattle.picky_cert.specs.LineRefusal.{cert_line_meaning}
use Rattle.picky_cert.specs.SourceLine.{cert_source_meaning}
use Rattle.picky_cert.specs.Want.{WantsMemory}
use Rattle.picky_cert.specs.carried.LineOwn.{IsErrorOfCertificate, line_own, own_is_no_fault, too_long}

as_line_own : (e : SshCertificateError) → IsErrorOfCertificate e → IsErrorOfBytes certificate_error e
as_line_own e own =
    (own_is_no_fault e own, λ is. own.no_want (subst WantsMemory (sym is) refl))

pub source_own : (bytes : List ℕ) (e : SshCertificateError) → cert_source_meaning bytes ≡ Err e
    → (e ≢ certificate_error wire.ReadFault) × (e ≢ certificate_error wire.NoMemory)
unfolding cert_source_meaning
source_own bytes =
    line_in_front_own certificate_error (as_line_own _ too_long) cert_line_meaning
    (λ line e refused. as_line_own e (line_own line e refused)) bytes
