-- The order in which the parts of a private key are refused: the public blob, the algorithm, the private bytes by field.
use Rattle.std.specs.Prelude.{List, ℕ, Result}
use Rattle.picky_wire_base.specs.Flaw.{Flaw, Short, NotUtf8, Big, Why, Reason, Flawed, Length, Magic, Name, Number}
use Rattle.picky_wire_base.specs.Front.{read_front}
use Rattle.picky_wire_base.specs.Outcome.{and_then, map_err}
use Rattle.picky_kv.specs.declared.algorithm.PpkKeyAlgorithmValue.{PpkKeyAlgorithmValue}
use Rattle.picky_keys.specs.declared.public_key.PublicKey.{PublicKey}
use Rattle.picky_wire.specs.declared.error.IoKind.TheVariants as kinds
use Rattle.picky_keys.specs.declared.key.SshBasePublicKey.{SshBasePublicKey}
use Rattle.picky_keys.specs.LineRefusal.{blob_key}
use Rattle.picky_sshkey_blob.specs.declared.key.SshBasePrivateKey.{SshBasePrivateKey}
use Rattle.picky_ppk_parts.specs.declared.error.PuttyError.{PuttyError}
use Rattle.picky_ppk_parts.specs.declared.error.PuttyError.TheVariants as errors
use Rattle.picky_ppk_parts.specs.Algorithm.{key_under}
use Rattle.picky_ppk_parts.specs.Secret.{ppk_secret_fields}

-- the error for what is wrong with a field of the private bytes, which have no text
abbrev pub parts_flaw_error : Flaw → PuttyError
parts_flaw_error Short = errors.IoError kinds.UnexpectedEnd
parts_flaw_error NotUtf8 = errors.InvalidPrivateKeyData
parts_flaw_error Big = errors.TooLong

-- and no name, no magic and no number; a length is that of an Ed25519 secret
abbrev pub parts_why_error : Why → PuttyError
parts_why_error (Flawed flaw) = parts_flaw_error flaw
parts_why_error Length = errors.InvalidPrivateKeyData
parts_why_error Magic = errors.InvalidPrivateKeyData
parts_why_error (Name name) = errors.InvalidPrivateKeyData
parts_why_error (Number n) = errors.InvalidPrivateKeyData

abbrev pub secret_error : Reason → PuttyError
secret_error reason = parts_why_error reason.1

-- the key of a public key and the secret that the private bytes begin with
unfoldable pub key_with_secret : PublicKey → List ℕ → Result SshBasePrivateKey PuttyError
key_with_secret public private = map_err secret_error (read_front (ppk_secret_fields public) private)

-- the public key in the blob
abbrev pub key_in_blob : List ℕ → Result SshBasePublicKey PuttyError
key_in_blob blob = map_err errors.SshPublicKey (blob_key blob)

-- the same, where the algorithm names it
unfoldable pub public_key_under : PpkKeyAlgorithmValue → List ℕ → Result PublicKey PuttyError
public_key_under algorithm blob = and_then (key_in_blob blob) (key_under algorithm)

-- the private key, or the first reason why there is none
unfoldable pub parts_key : PpkKeyAlgorithmValue → (blob private : List ℕ) → Result SshBasePrivateKey PuttyError
parts_key algorithm blob private =
    and_then (public_key_under algorithm blob) (λ public. key_with_secret public private)
