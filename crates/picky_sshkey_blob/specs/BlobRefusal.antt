-- What is answered for a private key's blob: its key and what follows it, or the error of the first field that doesn't fit.
use Rattle.std.specs.Prelude.{List, ℕ, Option, Some, None, ◌==◌, if◌then◌else◌, Result, Ok, Err}
use Rattle.picky_wire_base.specs.Flaw.{Reason, Flawed, Length, Magic, Name, Number}
use Rattle.picky_wire_base.specs.Outcome.{map_err}
use Rattle.picky_wire.specs.Flaws.{wire_error}
use Rattle.picky_wire.specs.declared.stop.Stop.{Stop}
use Rattle.picky_wire.specs.declared.stop.Stop.TheVariants as stops
use Rattle.picky_wire.specs.declared.error.IoKind.TheVariants as kinds
use Rattle.picky_sshkey_blob.specs.declared.error.SshPrivateKeyError.{SshPrivateKeyError}
use Rattle.picky_sshkey_blob.specs.declared.error.SshPrivateKeyError.TheVariants as errors
use Rattle.picky_sshkey_blob.specs.declared.key.SshBasePrivateKey.{SshBasePrivateKey}
use Rattle.picky_sshkey_blob.specs.FromWire.{private_key_error}
use Rattle.picky_sshkey_blob.specs.Blob.{secret}

-- the error for what is wrong with a field; of the strings of one length, field 2 has the secret, and another a
-- public key. No blob has a magic or a number
abbrev pub private_error : Reason → SshPrivateKeyError
private_error (i, Flawed flaw) = private_key_error (wire_error flaw)
private_error (i, Length) = if i == 2 then errors.InvalidKeyFormat else errors.KeyError
private_error (i, Name name) = errors.UnsupportedKeyType name
private_error (i, Magic) = errors.KeyError
private_error (i, Number n) = errors.KeyError

-- the value that the bytes begin with and what follows it, or the first error from the left
unfoldable pub read_secret : List ℕ → Result (SshBasePrivateKey × List ℕ) SshPrivateKeyError
read_secret bytes = map_err private_error (secret.read bytes)

-- the place of the field that is refused
abbrev pub refused_place : {A : Type 0} → Result A Reason → Option ℕ
refused_place (Ok value) = None
refused_place (Err reason) = Some reason.0

-- the error of a reader that stopped at a field, where it stops at Magic for the secret of Ed25519
abbrev pub private_stop_error : Stop → SshPrivateKeyError
private_stop_error stops.Fault = errors.IoError kinds.ReadFault
private_stop_error stops.NoMemory = errors.NoMemory
private_stop_error stops.Short = errors.IoError kinds.UnexpectedEnd
private_stop_error stops.NotUtf8 = errors.FromUtf8Error
private_stop_error stops.TooLong = errors.TooLong
private_stop_error stops.Length = errors.KeyError
private_stop_error stops.Magic = errors.InvalidKeyFormat
private_stop_error stops.Name = errors.KeyError
private_stop_error stops.Number = errors.KeyError
