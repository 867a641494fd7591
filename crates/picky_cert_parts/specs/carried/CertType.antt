-- What an element of the wire promises of its layout, for the types of certificates.
use Rattle.std.specs.Prelude.{◌≡◌, ◌≢◌, List, ℕ, Err}
use Rattle.std.proofs.Common.{refl, arith}
use Rattle.picky_wire_base.specs.Row.{Solid}
use Rattle.picky_wire_base.proofs.Solid.{refuses_empty}
use Rattle.picky_wire_base.specs.Entry.{entry}
use Rattle.picky_wire_base.specs.Table.{find_entry}
use Rattle.picky_wire_base.specs.Wire.{byte_array, uint32}
use Rattle.picky_wire_base.proofs.Numbers.{uint32_spells}
use Rattle.picky_wire.specs.declared.error.WireError.TheVariants as wire
use Rattle.picky_cert_parts.specs.declared.error.SshCertTypeError.{SshCertTypeError}
use Rattle.picky_cert_parts.specs.declared.error.SshCertTypeError.TheVariants as errors
use Rattle.picky_cert_parts.specs.declared.cert_type.SshCertType.{SshCertType}
use Rattle.picky_cert_parts.specs.declared.cert_type.SshCertType.TheVariants.{Client, Host}
use Rattle.picky_cert_parts.specs.Field.{field}
use Rattle.picky_cert_parts.specs.CertFromWire.{cert_type_error}
use Rattle.picky_cert_parts.specs.carried.CertFromWire.{cert_type_error_apart}
use Rattle.picky_cert_parts.specs.NumberTable.{cert_types}
use Rattle.picky_cert_parts.specs.CertType.{cert_type, cert_type_of}
use Rattle.picky_cert_parts.specs.carried.Own.{field_owns, narrow_owns, entry_owns}

-- A type is spelled by its four bytes.
pub cert_type_spells : (t : SshCertType) → cert_type.piece t (cert_type_of t)
unfolding cert_type cert_type_of cert_types
cert_type_spells Client = (1, uint32_spells 1 (omega arith), refl)
cert_type_spells Host = (2, uint32_spells 2 (omega arith), refl)

-- Each piece has at least one byte.
pub cert_type_solid : Solid cert_type.piece
unfolding cert_type uint32 byte_array
cert_type_solid = refuses_empty cert_type (cert_type_error wire.UnexpectedEnd) refl

-- No bytes are refused for a fault or for want of memory.
pub cert_type_own : (bytes : List ℕ) (e : SshCertTypeError) → cert_type.read bytes ≡ Err e
    → (e ≢ cert_type_error wire.ReadFault) × (e ≢ cert_type_error wire.NoMemory)
unfolding cert_type
cert_type_own bytes e refused =
    narrow_owns cert_type_error (field cert_type_error uint32) (entry errors.InvalidCertificateType cert_types)
    (field_owns cert_type_error uint32 cert_type_error_apart)
    (λ n d is. entry_owns cert_type_error (find_entry cert_types n) (errors.InvalidCertificateType n) d
    (λ same. cc same, λ same. cc same) is)
    bytes e refused
