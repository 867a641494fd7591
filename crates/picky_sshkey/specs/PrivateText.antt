-- What an OpenSSH private key's text says under a passphrase (OpenSSH's PROTOCOL.key).
use Rattle.std.specs.Prelude.{◌≡◌, ◌⊎◌, ◌<◌, ◌^◌, List, [], ℕ, true, Option, None, Some, length}
use Rattle.std.specs.Str.{trim_end}
use Rattle.picky_wire_base.specs.Grammar.{Fits}
use Rattle.picky_sshkey_blob.specs.Pem.{IsPem}
use Rattle.picky_suite.specs.Meanings.{Meanings}
use Rattle.picky_suite.specs.Ranges.{BcryptOk, IsWhole}
use Rattle.picky_keys.specs.Blob.{blob}
use Rattle.picky_sshkey_blob.specs.declared.key.SshBasePrivateKey.{SshBasePrivateKey}
use Rattle.picky_sshkey_blob.specs.Key.{public_part}
use Rattle.picky_sshkey.specs.declared.private_key.SshPrivateKey.{SshPrivateKey}
use Rattle.picky_sshkey.specs.Cipher.{is_cbc}
use Rattle.picky_sshkey.specs.CipherNames.{cipher_name}
use Rattle.picky_sshkey.specs.Envelope.{Envelope, envelope as layout}
use Rattle.picky_sshkey.specs.PrivateBlock.{PrivateBlock, private_block}
use Rattle.picky_sshkey.specs.Kdf.{none, bcrypt}
use Rattle.picky_sshkey.specs.Opened.{Lock, opened}

-- the envelope's block is sealed under this lock: its names are known, and a passphrase is given that may be derived from
pub record IsLocked (given : Option (List ℕ)) (envelope : Envelope) (lock : Lock) : Type 0 where
  pub cipher : envelope.cipher ≡ cipher_name lock.cipher
  pub kdf : envelope.kdf ≡ bcrypt
  pub pass : given ≡ Some lock.pass
  pub range : BcryptOk (length lock.pass) (length envelope.option.salt) envelope.option.rounds
  pub whole : is_cbc lock.cipher ≡ true → IsWhole envelope.block

-- the block as it was before it was sealed; with no derivation it stands there, whatever the cipher's name
abbrev pub IsOpened : Meanings → Option (List ℕ) → Envelope → List ℕ → Type 0
IsOpened m given envelope plain =
    ((envelope.kdf ≡ none) × (plain ≡ envelope.block))
    ⊎ ((lock : Lock) × IsLocked given envelope lock × (plain ≡ opened m lock envelope.option envelope.block))

-- the key of an envelope and its opened block; it keeps the passphrase that was given, whether or not one was needed
abbrev pub key_in : Option (List ℕ) → Envelope → PrivateBlock → SshPrivateKey
key_in given envelope block = record {
  cipher_name = envelope.cipher;
  kdf = record { name = envelope.kdf; option = envelope.option };
  base_key = block.key;
  public_key = record { inner_key = public_part block.key; comment = [] };
  check = block.check;
  comment = trim_end block.comment;
  passphrase = given;
}

-- the key and its comment alone
abbrev pub base_and_comment : SshPrivateKey → SshBasePrivateKey × List ℕ
base_and_comment key = (key.base_key, key.comment)

-- the content is an envelope, its block opens and has a key, and the envelope's public key is that key's
pub record IsPrivateContent (m : Meanings) (given : Option (List ℕ)) (content : List ℕ) (key : SshPrivateKey)
    : Type 0 where
  pub envelope : Envelope
  pub rest : List ℕ
  pub fits : Fits layout.piece envelope content rest
  pub plain : List ℕ
  pub opened : IsOpened m given envelope plain
  pub block : PrivateBlock
  pub padding : List ℕ
  pub block_fits : Fits private_block.piece block plain padding
  pub outer_rest : List ℕ
  pub outer_fits : Fits blob.piece (public_part block.key) envelope.outer outer_rest
  pub key_is : key ≡ key_in given envelope block

-- a passphrase that a length of the wire can say, where one is given
abbrev pub IsShortPass : Option (List ℕ) → Type 0
IsShortPass None = Unit {0}
IsShortPass (Some pass) = length pass < 2 ^ 32

-- so does the text
pub record IsPrivateText (m : Meanings) (given : Option (List ℕ)) (text : List ℕ) (key : SshPrivateKey) : Type 0 where
  pub short : IsShortPass given
  pub content : List ℕ
  pub pem : IsPem text content
  pub says : IsPrivateContent m given content key
