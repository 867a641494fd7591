-- Errors of the wire stay apart as errors of a public key.
use Rattle.std.specs.Prelude.{◌≡◌}
use Rattle.std.proofs.Common.{rules}
use Rattle.picky_wire.specs.declared.error.WireError.{WireError}
use Rattle.picky_keys.specs.FromWire.{public_key_error}

-- The wire's errors stay apart.
pub errors_stay_apart : (d e : WireError) → public_key_error d ≡ public_key_error e → d ≡ e
errors_stay_apart = search rules
