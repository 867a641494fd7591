-- The wire's errors as those of a private key.
use Rattle.picky_wire.specs.declared.error.WireError.{WireError}
use Rattle.picky_wire.specs.OfWire.{said_as}
use Rattle.picky_sshkey_blob.specs.declared.error.SshPrivateKeyError.{SshPrivateKeyError}
use Rattle.picky_sshkey_blob.specs.declared.error.SshPrivateKeyError.TheVariants as errors

-- the error that says what the wire's error says
abbrev pub private_key_error : WireError → SshPrivateKeyError
private_key_error = said_as errors.IoError errors.FromUtf8Error errors.TooLong errors.NoMemory
