-- The ciphers of a sealed private key, by OpenSSH's names for them (RFC 4344, section 4; RFC 4253, section 6.3).
use Rattle.std.specs.Prelude.{List, ℕ, Bool, true, false}
use Rattle.picky_wire_base.specs.Table.{Table}
use Rattle.picky_wire_base.specs.Named.{names}
use Rattle.picky_sshkey.specs.declared.cipher.Cipher.{Cipher}
use Rattle.picky_sshkey.specs.declared.cipher.Cipher.TheVariants.{Aes128Cbc, Aes256Cbc, Aes128Ctr, Aes256Ctr}
use Rattle.picky_sshkey.specs.CipherNames.{cipher_name, ciphers_in_order}
use Rattle.picky_sshkey.specs.carried.Cipher.{own_cipher}

-- the table of ciphers
unfoldable pub ciphers : Table (List ℕ) Cipher
ciphers = names ciphers_in_order cipher_name own_cipher

-- how many bytes a key has
abbrev pub key_len : Cipher → ℕ
key_len Aes128Cbc = 16
key_len Aes256Cbc = 32
key_len Aes128Ctr = 16
key_len Aes256Ctr = 32

-- the cipher chains whole blocks
abbrev pub is_cbc : Cipher → Bool
is_cbc Aes128Cbc = true
is_cbc Aes256Cbc = true
is_cbc Aes128Ctr = false
is_cbc Aes256Ctr = false
