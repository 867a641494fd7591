-- The names that are written in an envelope are text, bytes and short.
use Rattle.std.specs.Prelude.{◌≡◌, ◌<◌, ◌^◌, true, List, ℕ, Option, None, Some, IsUtf8, length, nat_lt, codes}
use Rattle.std.specs.List.{list_all}
use Rattle.std.proofs.Common.{arith, refl}
use Rattle.std.proofs.lemmas.Bool.{ltb-true}
use Rattle.std.proofs.lemmas.List.Sums.{AllPass-from_list_all}
use Rattle.std.proofs.lemmas.Str.{IsUtf8-from_ascii}
use Rattle.std.proofs.lemmas.Str.Ascii.{IsAscii-from_all}
use Rattle.picky_wire_base.specs.Numbers.{IsBytes}
use Rattle.picky_keys.proofs.ByteLaws.{bytes_by_test}
use Rattle.picky_sshkey.specs.declared.cipher.Cipher.TheVariants.{Aes256Ctr}
use Rattle.picky_sshkey.specs.CipherNames.{cipher_name}
use Rattle.picky_sshkey.specs.Kdf.{bcrypt, none}
use Rattle.picky_sshkey.specs.Written.{written_cipher, written_kdf}

-- a name: text, bytes and short
pub record IsName (name : List ℕ) : Type 0 where
  pub bytes : IsBytes name
  pub utf8 : IsUtf8 name
  pub short : length name < 2 ^ 32

-- Bytes below 128 are text, by a test.
utf8_by_test : (bytes : List ℕ) → list_all (λ b. nat_lt b 128) bytes ≡ true → IsUtf8 bytes
utf8_by_test bytes all =
    IsUtf8-from_ascii bytes
    (IsAscii-from_all bytes (λ k d inside. ltb-true _ 128 (AllPass-from_list_all (λ b. nat_lt b 128) bytes all k d inside)))

-- The name of no cipher is one.
none_is_name : IsName none
unfolding none
none_is_name = record { bytes = bytes_by_test (codes "none") refl; utf8 = utf8_by_test (codes "none") refl; short = omega arith }

-- So is the one of bcrypt.
bcrypt_is_name : IsName bcrypt
unfolding bcrypt
bcrypt_is_name = record { bytes = bytes_by_test (codes "bcrypt") refl; utf8 = utf8_by_test (codes "bcrypt") refl; short = omega arith }

-- And so is the one of the cipher that is written.
ctr_is_name : IsName (cipher_name Aes256Ctr)
unfolding cipher_name
ctr_is_name = record { bytes = bytes_by_test (codes "aes256-ctr") refl; utf8 = utf8_by_test (codes "aes256-ctr") refl; short = omega arith }

-- The name of the cipher that is written is one.
pub cipher_is_name : (given : Option (List ℕ)) → IsName (written_cipher given)
cipher_is_name None = none_is_name
cipher_is_name (Some pass) = ctr_is_name

-- So is the derivation's.
pub kdf_is_name : (given : Option (List ℕ)) → IsName (written_kdf given)
kdf_is_name None = none_is_name
kdf_is_name (Some pass) = bcrypt_is_name
