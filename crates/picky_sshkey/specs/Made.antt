-- A private key made of its parts, and its parts as another value shows them.
use Rattle.std.specs.Prelude.{List, [], ℕ, ◌&&◌, Option, None, Some, Result, Ok, Err, if◌then◌else◌}
use Rattle.picky_keys.specs.declared.private_key.PrivateKey.{PrivateKey}
use Rattle.picky_keys.specs.declared.private_key.PrivateKey.TheVariants as plain
use Rattle.picky_keys.specs.LineRefusal.{is_short, is_short_text}
use Rattle.picky_sshkey_blob.specs.declared.error.SshPrivateKeyError.{SshPrivateKeyError}
use Rattle.picky_sshkey_blob.specs.declared.error.SshPrivateKeyError.TheVariants as errors
use Rattle.picky_sshkey_blob.specs.declared.key.SshBasePrivateKey.{SshBasePrivateKey}
use Rattle.picky_sshkey_blob.specs.declared.key.SshBasePrivateKey.TheVariants as keys
use Rattle.picky_sshkey_blob.specs.Key.{public_part}
use Rattle.picky_sshkey.specs.declared.kdf.KdfOption.{KdfOption}
use Rattle.picky_sshkey.specs.declared.private_key.SshPrivateKey.{SshPrivateKey}
use Rattle.picky_sshkey.specs.declared.private_key.PrivateKeyRef.{PrivateKeyRef}
use Rattle.picky_sshkey.specs.declared.private_key.PrivateKeyRef.TheVariants as refs
use Rattle.picky_sshkey.specs.Kdf.{no_option}
use Rattle.picky_sshkey.specs.Written.{written_cipher, written_kdf}

-- with a passphrase the salt and 16 rounds, and else nothing
abbrev pub made_option : Option (List ℕ) → List ℕ → KdfOption
made_option None salt = no_option
made_option (Some pass) salt = record { salt = salt; rounds = 16 }

-- the key of these parts, with the check number 0
abbrev pub made_of : SshBasePrivateKey → Option (List ℕ) → (comment salt : List ℕ) → SshPrivateKey
made_of base given comment salt = record {
  cipher_name = written_cipher given;
  kdf = record { name = written_kdf given; option = made_option given salt };
  base_key = base;
  public_key = record { inner_key = public_part base; comment = [] };
  check = 0;
  comment = comment;
  passphrase = given;
}

-- the same, where a length of the wire can say the passphrase's and the comment's
unfoldable pub key_made : SshBasePrivateKey → Option (List ℕ) → (comment salt : List ℕ)
    → Result SshPrivateKey SshPrivateKeyError
key_made base given comment salt =
    if is_short_text given && is_short comment then Ok (made_of base given comment salt) else Err errors.TooLong

-- a key whose secret no device keeps, as one of OpenSSH's
abbrev pub base_of : PrivateKey → SshBasePrivateKey
base_of (plain.Rsa n e d iqmp p q) = keys.Rsa n e d iqmp p q
base_of (plain.Ec curve point secret) = keys.Ec curve point secret
base_of (plain.Ed secret public) = keys.Ed secret public

-- and back; a device's key is none
abbrev pub inner_of : SshBasePrivateKey → Option PrivateKey
inner_of (keys.Rsa n e d iqmp p q) = Some (plain.Rsa n e d iqmp p q)
inner_of (keys.Ec curve point secret) = Some (plain.Ec curve point secret)
inner_of (keys.Ed secret public) = Some (plain.Ed secret public)
inner_of (keys.SkEcdsaSha2NistP256 point application flags handle) = None
inner_of (keys.SkEd25519 key application flags handle) = None

-- the key that the parts make
abbrev pub private_shown : PrivateKeyRef → PrivateKey
private_shown (refs.Rsa n e d iqmp p q) = plain.Rsa n.now e.now d.now iqmp.now p.now q.now
private_shown (refs.Ec curve point secret) = plain.Ec curve point.now secret.now
private_shown (refs.Ed secret public) = plain.Ed secret.now public.now
