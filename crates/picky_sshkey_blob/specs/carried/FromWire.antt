-- Errors of the wire stay apart as errors of a private key.
use Rattle.std.specs.Prelude.{◌≡◌}
use Rattle.std.proofs.Common.{rules}
use Rattle.picky_wire.specs.declared.error.WireError.{WireError}
use Rattle.picky_sshkey_blob.specs.FromWire.{private_key_error}

-- The wire's errors stay apart.
pub errors_stay_apart : (d e : WireError) → private_key_error d ≡ private_key_error e → d ≡ e
errors_stay_apart = search rules
