-- No two ciphers have one name.
use Rattle.std.specs.Prelude.{◌≡◌, Some, find, bytes_eq}
use Rattle.std.proofs.Common.{refl}
use Rattle.picky_sshkey.specs.declared.cipher.Cipher.{Cipher}
use Rattle.picky_sshkey.specs.declared.cipher.Cipher.TheVariants.{Aes128Cbc, Aes256Cbc, Aes128Ctr, Aes256Ctr}
use Rattle.picky_sshkey.specs.CipherNames.{cipher_name, ciphers_in_order}

-- No two ciphers have one name.
pub own_cipher : (cipher : Cipher)
    → find (λ other. bytes_eq (cipher_name cipher) (cipher_name other)) ciphers_in_order ≡ Some cipher
unfolding cipher_name
own_cipher Aes128Cbc = refl
own_cipher Aes256Cbc = refl
own_cipher Aes128Ctr = refl
own_cipher Aes256Ctr = refl
