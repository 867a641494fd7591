-- The wire's errors as those of a public key.
use Rattle.picky_wire.specs.declared.error.WireError.{WireError}
use Rattle.picky_wire.specs.OfWire.{said_as}
use Rattle.picky_keys.specs.declared.error.SshPublicKeyError.{SshPublicKeyError}
use Rattle.picky_keys.specs.declared.error.SshPublicKeyError.TheVariants as errors

-- the error that says what the wire's error says
abbrev pub public_key_error : WireError → SshPublicKeyError
public_key_error = said_as errors.IoError errors.InvalidUtf8 errors.TooLong errors.NoMemory
