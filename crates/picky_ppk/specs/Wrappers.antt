-- PuTTY's keys without a file: the blob and the private bytes of a key, which aren't sealed, and OpenSSH's keys for them.
use Rattle.std.specs.Prelude.{List, ℕ, Option, Result, Ok, Err, if◌then◌else◌}
use Rattle.picky_wire_base.specs.Outcome.{and_then, map_err}
use Rattle.picky_keys.specs.declared.private_key.PrivateKey.{PrivateKey}
use Rattle.picky_keys.specs.declared.public_key.PublicKey.{PublicKey}
use Rattle.picky_keys.specs.declared.key.SshBasePublicKey.{SshBasePublicKey}
use Rattle.picky_sshkey_blob.specs.declared.key.SshBasePrivateKey.{SshBasePrivateKey}
use Rattle.picky_sshkey.specs.declared.private_key.SshPrivateKey.{SshPrivateKey}
use Rattle.picky_sshkey.specs.Made.{key_made}
use Rattle.picky_ppk_parts.specs.declared.error.PuttyError.{PuttyError}
use Rattle.picky_ppk_parts.specs.declared.key_parts.KeyParts.{KeyParts}
use Rattle.picky_ppk_parts.specs.KeyParts.{blob_within, key_parts}
use Rattle.picky_ppk_parts.specs.PartsRefusal.{parts_key, key_in_blob}
use Rattle.picky_ppk_parts.specs.Unsupported.{no_security_keys}
use Rattle.picky_ppk_file.specs.PuttyRefusal.{is_security_key, plain_key}
use Rattle.picky_ppk.specs.declared.wrappers.PuttyBasePublicKey.{PuttyBasePublicKey}
use Rattle.picky_ppk.specs.declared.wrappers.PuttyBasePrivateKey.{PuttyBasePrivateKey}
use Rattle.picky_ppk.specs.declared.wrappers.PuttyPrivateKey.{PuttyPrivateKey}
use Rattle.picky_ppk.specs.KeyOf.{made_error, plain_private}

-- ---- a public key's blob

-- of an OpenSSH key
unfoldable pub public_of_openssh : SshBasePublicKey → Result PuttyBasePublicKey PuttyError
public_of_openssh key =
    if is_security_key key then Err no_security_keys else and_then (blob_within key) (λ blob. Ok (record { blob = blob }))

-- the OpenSSH key in it
abbrev pub public_to_openssh : PuttyBasePublicKey → Result SshBasePublicKey PuttyError
public_to_openssh key = key_in_blob key.blob

-- and that key, of a kind that PuTTY has
unfoldable pub public_to_inner : PuttyBasePublicKey → Result PublicKey PuttyError
public_to_inner key = and_then (public_to_openssh key) plain_key

-- ---- an algorithm, a blob and private bytes

-- the same parts
abbrev pub base_of_parts : KeyParts → PuttyBasePrivateKey
base_of_parts parts = record {
  algorithm = parts.algorithm;
  public_key = record { blob = parts.blob };
  private_bytes = parts.private_bytes;
}

-- of an OpenSSH key
unfoldable pub base_of_openssh : SshBasePrivateKey → Result PuttyBasePrivateKey PuttyError
base_of_openssh key = and_then (key_parts key) (λ parts. Ok (base_of_parts parts))

-- the OpenSSH key that they stand for
abbrev pub base_to_openssh : PuttyBasePrivateKey → Result SshBasePrivateKey PuttyError
base_to_openssh key = parts_key key.algorithm key.public_key.blob key.private_bytes

-- and that key, without what is OpenSSH's alone
unfoldable pub base_to_inner : PuttyBasePrivateKey → Result PrivateKey PuttyError
base_to_inner key = and_then (base_to_openssh key) plain_private

-- ---- the same with a comment

-- of an OpenSSH key
unfoldable pub private_of_openssh : SshPrivateKey → Result PuttyPrivateKey PuttyError
private_of_openssh key =
    and_then (base_of_openssh key.base_key) (λ base. Ok (record { base = base; comment = key.comment }))

-- the OpenSSH key, with a passphrase or without one
unfoldable pub private_to_openssh : Option (List ℕ) → (salt : List ℕ) → PuttyPrivateKey → Result SshPrivateKey PuttyError
private_to_openssh pass salt key =
    and_then (base_to_openssh key.base) (λ base. map_err made_error (key_made base pass key.comment salt))
