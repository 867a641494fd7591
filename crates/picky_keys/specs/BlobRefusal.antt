-- What is answered for a blob: its key and what follows it, or the error of the first field that doesn't fit.
use Rattle.std.specs.Prelude.{List, ℕ, Result}
use Rattle.picky_wire_base.specs.Flaw.{Why, Reason, Flawed, Length, Magic, Name, Number}
use Rattle.picky_wire_base.specs.Outcome.{map_err}
use Rattle.picky_wire.specs.Flaws.{wire_error}
use Rattle.picky_wire.specs.declared.stop.Stop.{Stop}
use Rattle.picky_wire.specs.declared.stop.Stop.TheVariants as stops
use Rattle.picky_wire.specs.declared.error.IoKind.TheVariants as kinds
use Rattle.picky_keys.specs.declared.error.SshPublicKeyError.{SshPublicKeyError}
use Rattle.picky_keys.specs.declared.error.SshPublicKeyError.TheVariants as errors
use Rattle.picky_keys.specs.declared.key.SshBasePublicKey.{SshBasePublicKey}
use Rattle.picky_keys.specs.FromWire.{public_key_error}
use Rattle.picky_keys.specs.Blob.{blob}

-- the error for what is wrong with a field; no public key has a magic or a number
abbrev pub why_error : Why → SshPublicKeyError
why_error (Flawed flaw) = public_key_error (wire_error flaw)
why_error Length = errors.KeyError
why_error (Name name) = errors.UnknownKeyType
why_error Magic = errors.KeyError
why_error (Number n) = errors.KeyError

abbrev pub blob_error : Reason → SshPublicKeyError
blob_error reason = why_error reason.1

-- the value that the bytes begin with and what follows it, or the first error from the left
unfoldable pub read_blob : List ℕ → Result (SshBasePublicKey × List ℕ) SshPublicKeyError
read_blob bytes = map_err blob_error (blob.read bytes)

-- the error of a reader that stopped
abbrev pub stop_error : Stop → SshPublicKeyError
stop_error stops.Fault = errors.IoError kinds.ReadFault
stop_error stops.NoMemory = errors.NoMemory
stop_error stops.Short = errors.IoError kinds.UnexpectedEnd
stop_error stops.NotUtf8 = errors.InvalidUtf8
stop_error stops.TooLong = errors.TooLong
stop_error stops.Length = errors.KeyError
stop_error stops.Magic = errors.KeyError
stop_error stops.Name = errors.UnknownKeyType
stop_error stops.Number = errors.KeyError
