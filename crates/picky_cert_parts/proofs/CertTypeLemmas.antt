-- Why the type of a certificate is refused.
use Rattle.std.specs.Prelude.{◌≡◌, ◌<◌, ◌^◌, ◌++◌, ℕ, List, [], Ok, Err, Option, Some, None, ok_or}
use Rattle.std.specs.Int.{w32, to_be_bytes}
use Rattle.std.proofs.Common.{ap, ◌∙◌, inr}
use Rattle.picky_wire_base.specs.Entry.{entry}
use Rattle.picky_wire_base.specs.Table.{find_entry}
use Rattle.picky_wire_base.specs.Narrowed.{meant}
use Rattle.picky_wire_base.specs.Outcome.{and_then, map_err}
use Rattle.picky_wire_base.specs.Wire.{uint32}
use Rattle.picky_wire_base.proofs.Numbers.{uint32_reads_back}
use Rattle.picky_wire.specs.Flaws.{wire_error}
use Rattle.picky_wire.specs.Takes.{HasCause, causes_of}
use Rattle.picky_cert_parts.specs.declared.error.SshCertTypeError.{SshCertTypeError}
use Rattle.picky_cert_parts.specs.declared.error.SshCertTypeError.TheVariants as errors
use Rattle.picky_cert_parts.specs.declared.cert_type.SshCertType.{SshCertType}
use Rattle.picky_cert_parts.specs.CertFromWire.{cert_type_error}
use Rattle.picky_cert_parts.specs.Field.{field}
use Rattle.picky_cert_parts.specs.NumberTable.{cert_types}
use Rattle.picky_cert_parts.specs.CertType.{cert_type}
use Rattle.picky_cert_parts.proofs.CauseLemmas.{at_field}

-- its number is cut
pub number_cause : (e : SshCertTypeError) (fault : Type 0)
    → HasCause (causes_of cert_type_error) (field cert_type_error uint32).read fault e
    → HasCause (causes_of cert_type_error) cert_type.read fault e
unfolding cert_type
number_cause e fault cause =
    at_field (causes_of cert_type_error) (field cert_type_error uint32) (entry errors.InvalidCertificateType cert_types)
    fault e cause

refused_is : (o : Option SshCertType) (unknown e : SshCertTypeError) (rest : List ℕ) → ok_or o unknown ≡ Err e
    → and_then {B = SshCertType × List ℕ} (ok_or o unknown) (λ b. Ok (b, rest)) ≡ Err e
refused_is (Some t) unknown e rest is = cc is
refused_is None unknown e rest is = ap Err (cc is)

-- or no type's
pub type_cause : (n : ℕ) (e : SshCertTypeError) (fault : Type 0) → n < 2 ^ 32
    → ok_or (find_entry cert_types n) (errors.InvalidCertificateType n) ≡ Err e
    → HasCause (causes_of cert_type_error) cert_type.read fault e
unfolding cert_type
type_cause n e fault small refused = inr (inr (
  to_be_bytes w32 n ++ [],
  ap (λ r. and_then (map_err (λ flaw. cert_type_error (wire_error flaw)) r)
      (meant (entry errors.InvalidCertificateType cert_types))) (uint32_reads_back n [] small)
      ∙ refused_is (find_entry cert_types n) (errors.InvalidCertificateType n) e [] refused,
))

pub ruleset cert_type_causes = (number_cause, type_cause)
