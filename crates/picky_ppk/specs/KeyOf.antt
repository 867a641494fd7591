-- The keys in a file, and the order in which they are refused.
use Rattle.std.specs.Prelude.{List, ℕ, Option, Result, Ok, Err}
use Rattle.picky_wire_base.specs.Outcome.{and_then, map_err}
use Rattle.picky_keys.specs.declared.private_key.PrivateKey.{PrivateKey}
use Rattle.picky_keys.specs.declared.private_key.PrivateKey.TheVariants as plain
use Rattle.picky_keys.specs.declared.public_key.PublicKey.{PublicKey}
use Rattle.picky_sshkey_blob.specs.declared.error.SshPrivateKeyError.{SshPrivateKeyError}
use Rattle.picky_sshkey_blob.specs.declared.key.SshBasePrivateKey.{SshBasePrivateKey}
use Rattle.picky_sshkey_blob.specs.declared.key.SshBasePrivateKey.TheVariants as keys
use Rattle.picky_sshkey.specs.declared.private_key.SshPrivateKey.{SshPrivateKey}
use Rattle.picky_sshkey.specs.Made.{key_made}
use Rattle.picky_ppk_parts.specs.declared.error.PuttyError.{PuttyError}
use Rattle.picky_ppk_parts.specs.declared.error.PuttyError.TheVariants as errors
use Rattle.picky_ppk_parts.specs.PartsRefusal.{parts_key, key_in_blob}
use Rattle.picky_ppk_parts.specs.Unsupported.{no_security_keys}
use Rattle.picky_ppk_file.specs.PuttyRefusal.{plain_key}
use Rattle.picky_ppk_file.specs.declared.file.PpkFile.{PpkFile}
use Rattle.picky_ppk.specs.Changed.{open_file}

-- the private key in the file's blob and private bytes
unfoldable pub base_key_of : PpkFile → Result SshBasePrivateKey PuttyError
base_key_of f = and_then (open_file f) (λ f. parts_key f.algorithm f.public_key f.private_bytes)

-- the same with the file's comment
abbrev pub base_key_and_comment_of : PpkFile → Result (SshBasePrivateKey × List ℕ) PuttyError
base_key_and_comment_of f = and_then (base_key_of f) (λ key. Ok (key, f.comment))

-- a length that no length of the wire can say is the one thing that making OpenSSH's key refuses
abbrev pub made_error : SshPrivateKeyError → PuttyError
made_error e = errors.TooLong

-- the same with the file's comment, as OpenSSH's, with a passphrase or without one
unfoldable pub to_openssh : Option (List ℕ) → (salt : List ℕ) → PpkFile → Result SshPrivateKey PuttyError
to_openssh pass salt f =
    and_then (base_key_of f) (λ base. map_err made_error (key_made base pass f.comment salt))

-- the key without what is OpenSSH's alone; there is none whose secret a device keeps
abbrev pub plain_private : SshBasePrivateKey → Result PrivateKey PuttyError
plain_private (keys.Rsa n e d iqmp p q) = Ok (plain.Rsa n e d iqmp p q)
plain_private (keys.Ec curve point secret) = Ok (plain.Ec curve point secret)
plain_private (keys.Ed secret public) = Ok (plain.Ed secret public)
plain_private (keys.SkEcdsaSha2NistP256 point application flags handle) = Err no_security_keys
plain_private (keys.SkEd25519 key application flags handle) = Err no_security_keys

unfoldable pub private_key_of : PpkFile → Result PrivateKey PuttyError
private_key_of f = and_then (base_key_of f) plain_private

-- the public key in the file's blob
unfoldable pub ppk_public_key_of : PpkFile → Result PublicKey PuttyError
ppk_public_key_of f = and_then (key_in_blob f.public_key) plain_key
