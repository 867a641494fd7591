-- How a private key is sealed and opened under a passphrase (PROTOCOL.key, section 3), by what a suite's calls mean.
use Rattle.std.specs.Prelude.{ℕ, ◌+◌, List, take, drop, if◌then◌else◌}
use Rattle.picky_suite.specs.Meanings.{Meanings}
use Rattle.picky_sshkey.specs.declared.cipher.Cipher.{Cipher}
use Rattle.picky_sshkey.specs.declared.kdf.KdfOption.{KdfOption}
use Rattle.picky_sshkey.specs.Cipher.{key_len, is_cbc}

-- a cipher, and the passphrase that its key is derived from
pub record Lock : Type 0 where
  pub cipher : Cipher
  pub pass : List ℕ

-- bcrypt gives the cipher's key, and after it an iv of 16 bytes
abbrev pub derived : Meanings → Lock → KdfOption → List ℕ
derived m lock option = m.bcrypt lock.pass option.salt option.rounds (key_len lock.cipher + 16)

abbrev pub cipher_key : Meanings → Lock → KdfOption → List ℕ
cipher_key m lock option = take (key_len lock.cipher) (derived m lock option)

abbrev pub cipher_iv : Meanings → Lock → KdfOption → List ℕ
cipher_iv m lock option = drop (key_len lock.cipher) (derived m lock option)

-- the block that was sealed; the counter mode seals as it opens
unfoldable pub opened : Meanings → Lock → KdfOption → List ℕ → List ℕ
opened m lock option block =
    if is_cbc lock.cipher then m.cbc_open (cipher_key m lock option) (cipher_iv m lock option) block
    else m.ctr (cipher_key m lock option) (cipher_iv m lock option) block
