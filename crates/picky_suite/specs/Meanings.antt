-- What the calls of a suite mean, as functions of their arguments. A suite's MACs are its own, of the right size; those of
-- this crate's suites are RFC 2104's.
use Rattle.std.specs.Prelude.{◌≡◌, ℕ, List, length, refl}
use Rattle.sha1.specs.Sha1.{sha1}
use Rattle.sha2.specs.Sha256.{sha256}
use Rattle.picky_wire_base.specs.Numbers.{IsBytes}
use Rattle.picky_suite.specs.declared.flavour.Flavour.{Flavour}
use Rattle.picky_suite.specs.Hmac.{hmac}
use Rattle.picky_suite.specs.Mac.{IsMac}
use Rattle.picky_suite.specs.Ranges.{IsBcryptLen, IsWhole}
use Rattle.picky_suite.specs.Zeros.{zeros}
use Rattle.picky_suite.specs.carried.Meanings.{sha1_is_mac, sha256_is_mac}
use Rattle.picky_suite.specs.carried.Zeros.{length-zeros, zeros_bytes}

-- one function for each call, of its arguments in their order, and what every such function keeps
pub record Meanings : Type 0 where
  -- key, message
  pub hmac_sha1 : List ℕ → List ℕ → List ℕ
  pub hmac_sha256 : List ℕ → List ℕ → List ℕ
  -- passphrase, salt, rounds, and how many bytes are derived
  pub bcrypt : List ℕ → List ℕ → ℕ → ℕ → List ℕ
  -- flavour, memory, passes, parallelism, passphrase, salt
  pub argon2 : Flavour → ℕ → ℕ → ℕ → List ℕ → List ℕ → List ℕ
  -- key, iv, text
  pub cbc_seal : List ℕ → List ℕ → List ℕ → List ℕ
  pub cbc_open : List ℕ → List ℕ → List ℕ → List ℕ
  pub ctr : List ℕ → List ℕ → List ℕ → List ℕ
  -- a MAC has the size of its digest
  pub sha1_is_mac : (key message : List ℕ) → IsMac 20 (hmac_sha1 key message)
  pub sha256_is_mac : (key message : List ℕ) → IsMac 32 (hmac_sha256 key message)
  -- what is sealed is opened, and the counter cipher undoes itself
  pub opens : (key iv text : List ℕ) → IsWhole text → cbc_open key iv (cbc_seal key iv text) ≡ text
  pub twice : (key iv text : List ℕ) → ctr key iv (ctr key iv text) ≡ text
  -- lengths stay, and what is derived has its length
  pub seal_len : (key iv text : List ℕ) → length (cbc_seal key iv text) ≡ length text
  pub open_len : (key iv text : List ℕ) → length (cbc_open key iv text) ≡ length text
  pub ctr_len : (key iv text : List ℕ) → length (ctr key iv text) ≡ length text
  pub bcrypt_len : (pass salt : List ℕ) (rounds n : ℕ) → IsBcryptLen n → length (bcrypt pass salt rounds n) ≡ n
  pub argon2_len : (flavour : Flavour) (memory passes parallelism : ℕ) (pass salt : List ℕ)
      → length (argon2 flavour memory passes parallelism pass salt) ≡ 80
  -- what is made of bytes is bytes
  pub seal_bytes : (key iv text : List ℕ) → IsBytes key → IsBytes iv → IsBytes text → IsBytes (cbc_seal key iv text)
  pub open_bytes : (key iv text : List ℕ) → IsBytes key → IsBytes iv → IsBytes text → IsBytes (cbc_open key iv text)
  pub ctr_bytes : (key iv text : List ℕ) → IsBytes key → IsBytes iv → IsBytes text → IsBytes (ctr key iv text)
  pub bcrypt_bytes : (pass salt : List ℕ) (rounds n : ℕ) → IsBytes pass → IsBytes salt
      → IsBytes (bcrypt pass salt rounds n)
  pub argon2_bytes : (flavour : Flavour) (memory passes parallelism : ℕ) (pass salt : List ℕ)
      → IsBytes pass → IsBytes salt → IsBytes (argon2 flavour memory passes parallelism pass salt)

-- the meanings of `PlainSuite`: HMAC over SHA-1 and over SHA-256. Its other calls always fail, so what they would
-- mean shows nowhere: zero bytes, and the text itself.
abbrev pub plain : Meanings
plain = record {
  hmac_sha1 = hmac sha1;
  hmac_sha256 = hmac sha256;
  bcrypt = λ pass salt rounds n. zeros n;
  argon2 = λ flavour memory passes parallelism pass salt. zeros 80;
  cbc_seal = λ key iv text. text;
  cbc_open = λ key iv text. text;
  ctr = λ key iv text. text;
  sha1_is_mac = sha1_is_mac;
  sha256_is_mac = sha256_is_mac;
  opens = λ key iv text whole. refl;
  twice = λ key iv text. refl;
  seal_len = λ key iv text. refl;
  open_len = λ key iv text. refl;
  ctr_len = λ key iv text. refl;
  bcrypt_len = λ pass salt rounds n sized. length-zeros n;
  argon2_len = λ flavour memory passes parallelism pass salt. length-zeros 80;
  seal_bytes = λ key iv text key_bytes iv_bytes text_bytes. text_bytes;
  open_bytes = λ key iv text key_bytes iv_bytes text_bytes. text_bytes;
  ctr_bytes = λ key iv text key_bytes iv_bytes text_bytes. text_bytes;
  bcrypt_bytes = λ pass salt rounds n pass_bytes salt_bytes. zeros_bytes n;
  argon2_bytes = λ flavour memory passes parallelism pass salt pass_bytes salt_bytes. zeros_bytes 80;
}
