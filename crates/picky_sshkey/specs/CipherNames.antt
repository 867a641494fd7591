-- OpenSSH's names of the ciphers of a sealed private key (RFC 4344, section 4; RFC 4253, section 6.3).
use Rattle.std.specs.Prelude.{List, [], ◌∷◌, ℕ, codes}
use Rattle.picky_sshkey.specs.declared.cipher.Cipher.{Cipher}
use Rattle.picky_sshkey.specs.declared.cipher.Cipher.TheVariants.{Aes128Cbc, Aes256Cbc, Aes128Ctr, Aes256Ctr}

unfoldable pub cipher_name : Cipher → List ℕ
cipher_name Aes128Cbc = codes "aes128-cbc"
cipher_name Aes256Cbc = codes "aes256-cbc"
cipher_name Aes128Ctr = codes "aes128-ctr"
cipher_name Aes256Ctr = codes "aes256-ctr"

-- the ciphers, in the order in which their names are tried
abbrev pub ciphers_in_order : List Cipher
ciphers_in_order = Aes128Cbc ∷ Aes256Cbc ∷ Aes128Ctr ∷ Aes256Ctr ∷ []
