-- OpenSSH's key, and PuTTY's file, plain or sealed.
use Rattle.std.specs.Prelude.{◌++◌, List, ℕ, Option, None, Some, take, drop}
use Rattle.picky_kv.specs.declared.PpkVersionKey.{PpkVersionKey}
use Rattle.picky_suite.specs.Meanings.{Meanings}
use Rattle.picky_keys.specs.Blob.{blob_of}
use Rattle.picky_keys.specs.Key.{public_key_of}
use Rattle.picky_sshkey_blob.specs.declared.key.SshBasePrivateKey.{SshBasePrivateKey}
use Rattle.picky_sshkey_blob.specs.Key.{public_part}
use Rattle.picky_sshkey.specs.declared.private_key.SshPrivateKey.{SshPrivateKey}
use Rattle.picky_sshkey.specs.Made.{made_of}
use Rattle.picky_ppk_parts.specs.declared.config.PpkEncryptionConfig.{PpkEncryptionConfig}
use Rattle.picky_ppk_parts.specs.declared.key_parts.KeyParts.{KeyParts}
use Rattle.picky_ppk_parts.specs.Algorithm.{algorithm_of}
use Rattle.picky_ppk_file.specs.declared.file.PpkFile.{PpkFile}
use Rattle.picky_ppk.specs.declared.layout.PpkLayout.{PpkLayout}
use Rattle.picky_ppk.specs.Changed.{file_of_parts}
use Rattle.picky_ppk.specs.Fresh.{salt_len}
use Rattle.picky_ppk.specs.Keyed.{keys_under}
use Rattle.picky_ppk.specs.PpkLayout.{laid_secret}
use Rattle.picky_ppk.specs.Sealed.{file_to_seal, lacking, seal_draft}
use Rattle.picky_target.specs.Output.{Output}

-- bcrypt's rounds where a caller names none
abbrev pub default_rounds : ℕ
default_rounds = 16

-- a key that says these rounds; they are written where it is sealed
abbrev pub with_rounds : (rounds : ℕ) → SshPrivateKey → SshPrivateKey
with_rounds rounds key =
    record key { kdf = record { name = key.kdf.name; option = record { salt = key.kdf.option.salt; rounds = rounds } } }

-- OpenSSH's key, with the check number 0 and, where there is a passphrase, a salt of 16 fresh bytes and the rounds
abbrev pub openssh_key : Output → (rounds : ℕ) → SshBasePrivateKey → (comment : List ℕ) → SshPrivateKey
openssh_key out rounds key comment = with_rounds rounds (made_of key out.pass comment (take 16 out.fresh))

-- ---- PuTTY's file

-- the first fresh bytes are the salt, and the next ones what lacks to whole blocks
abbrev pub salt_of : Output → PpkVersionKey → PpkEncryptionConfig → List ℕ
salt_of out version config = take (salt_len version config) out.fresh

abbrev pub key_padding_len : PpkLayout → SshBasePrivateKey → ℕ
key_padding_len layout key = lacking (laid_secret layout key)

abbrev pub padding_of : Output → PpkVersionKey → PpkEncryptionConfig → PpkLayout → SshBasePrivateKey → List ℕ
padding_of out version config layout key = take (key_padding_len layout key) (drop (salt_len version config) out.fresh)

-- the private bytes, with their padding where they are to be sealed
abbrev pub padded : Option (List ℕ) → (secret padding : List ℕ) → List ℕ
padded None secret padding = secret
padded (Some pass) secret padding = secret ++ padding

abbrev pub private_bytes : Output → PpkVersionKey → PpkEncryptionConfig → PpkLayout → SshBasePrivateKey → List ℕ
private_bytes out version config layout key = padded out.pass (laid_secret layout key) (padding_of out version config layout key)

-- the parts of a key in a layout; a key whose secret a device keeps has no secret bytes, and no place in PuTTY's file
abbrev pub key_parts_of : PpkLayout → SshBasePrivateKey → KeyParts
key_parts_of layout key = record {
  algorithm = algorithm_of (public_key_of (public_part key));
  blob = blob_of (public_part key);
  private_bytes = laid_secret layout key;
}

-- the file that isn't sealed, with its MAC
abbrev pub plain_file : Meanings → PpkVersionKey → PpkLayout → SshBasePrivateKey → (comment : List ℕ) → PpkFile
plain_file m version layout key comment = file_of_parts m version comment (key_parts_of layout key)

-- the file, sealed where there is a passphrase
abbrev pub sealed_file : Meanings → Output → PpkVersionKey → PpkEncryptionConfig → PpkLayout → (pass : List ℕ) → PpkFile
    → SshBasePrivateKey → PpkFile
sealed_file m out version config layout pass plain key =
    let draft = file_to_seal config (salt_of out version config) (padding_of out version config layout key) plain in
    seal_draft m (keys_under m draft.sealing pass) draft

abbrev pub file_under : Meanings → Output → PpkVersionKey → PpkEncryptionConfig → PpkLayout → Option (List ℕ)
    → SshBasePrivateKey → (comment : List ℕ) → PpkFile
file_under m out version config layout None key comment = plain_file m version layout key comment
file_under m out version config layout (Some pass) key comment =
    sealed_file m out version config layout pass (plain_file m version layout key comment) key

abbrev pub ppk_file : Meanings → Output → PpkVersionKey → PpkEncryptionConfig → PpkLayout → SshBasePrivateKey
    → (comment : List ℕ) → PpkFile
ppk_file m out version config layout key comment = file_under m out version config layout out.pass key comment
