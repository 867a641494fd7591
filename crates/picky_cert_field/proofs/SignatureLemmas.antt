-- A signature's bytes are what it has behind its total.
use Rattle.std.specs.Prelude.{◌≡◌, ◌≤◌, ℕ, suc, drop, length}
use Rattle.std.proofs.Common.{arith, refl}
use Rattle.picky_cert_parts.specs.Signature.{behind_total}
use Rattle.picky_cert_parts.specs.declared.signature.SshSignature.{SshSignature}
use Rattle.picky_cert_field.specs.Fields.{signature_bytes}

pub bytes_behind : (total : ℕ) (s : SshSignature) → drop 4 (behind_total total s) ≡ signature_bytes s
unfolding behind_total signature_bytes
bytes_behind total s = refl

-- the total has four bytes
pub total_fits : (total : ℕ) (s : SshSignature) → 4 ≤ length (behind_total total s)
unfolding behind_total
total_fits total s =
    let len : length (behind_total total s) ≡ suc (suc (suc (suc (length (drop 4 (behind_total total s)))))) = refl in
    omega (arith, len)

pub ruleset behind_the_total = (bytes_behind, total_fits)
