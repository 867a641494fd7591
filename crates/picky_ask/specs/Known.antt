-- What a suite of answers means: what its caller's cryptography means, where that gives each answer of the table.
use Rattle.std.specs.Prelude.{◌≡◌, Bool, true, List, ℕ, if◌then◌else◌}
use Rattle.std.specs.List.{list_all, AllByRecursion}
use Rattle.std.specs.Str.{bytes_eq}
use Rattle.sha1.specs.Sha1.{sha1}
use Rattle.sha2.specs.Sha256.{sha256}
use Rattle.picky_suite.specs.Hmac.{hmac}
use Rattle.picky_suite.specs.Meanings.{Meanings}
use Rattle.picky_suite.specs.carried.Meanings.{sha1_is_mac, sha256_is_mac}
use Rattle.picky_ask.specs.declared.question.Head.{Head}
use Rattle.picky_ask.specs.declared.question.Head.TheVariants as heads
use Rattle.picky_ask.specs.declared.question.Entry.{Entry}
use Rattle.picky_ask.specs.Answered.{answered}

-- the answer is what the meanings give; of a signature they say nothing
abbrev pub Gives : Meanings → Head → (text answer : List ℕ) → Type 0
Gives m (heads.Bcrypt len rounds salt) text answer = answer ≡ m.bcrypt text salt rounds len
Gives m (heads.Argon2 kind memory passes parallelism salt) text answer =
    answer ≡ m.argon2 kind memory passes parallelism text salt
Gives m (heads.CbcSeal key iv) text answer = answer ≡ m.cbc_seal key iv text
Gives m (heads.CbcOpen key iv) text answer = answer ≡ m.cbc_open key iv text
Gives m (heads.Ctr key iv) text answer = answer ≡ m.ctr key iv text
Gives m (heads.Sign by key) text answer = Unit {0}
Gives m (heads.Verify key signature) text answer = Unit {0}

-- each answer of the table is what the meanings give
abbrev pub Agrees : Meanings → List Entry → Type 0
Agrees m entries = AllByRecursion (λ e. Gives m e.question.head e.question.text e.answer) entries

-- the same as a test
abbrev pub gives : Meanings → Head → (text answer : List ℕ) → Bool
gives m (heads.Bcrypt len rounds salt) text answer = bytes_eq answer (m.bcrypt text salt rounds len)
gives m (heads.Argon2 kind memory passes parallelism salt) text answer =
    bytes_eq answer (m.argon2 kind memory passes parallelism text salt)
gives m (heads.CbcSeal key iv) text answer = bytes_eq answer (m.cbc_seal key iv text)
gives m (heads.CbcOpen key iv) text answer = bytes_eq answer (m.cbc_open key iv text)
gives m (heads.Ctr key iv) text answer = bytes_eq answer (m.ctr key iv text)
gives m (heads.Sign by key) text answer = true
gives m (heads.Verify key signature) text answer = true

unfoldable pub agrees : Meanings → List Entry → Bool
agrees m entries = list_all (λ e. gives m e.question.head e.question.text e.answer) entries

-- the same ciphers and derivations, with the MACs of this library
abbrev pub with_hmac : Meanings → Meanings
with_hmac m = record {
  hmac_sha1 = hmac sha1;
  hmac_sha256 = hmac sha256;
  bcrypt = m.bcrypt;
  argon2 = m.argon2;
  cbc_seal = m.cbc_seal;
  cbc_open = m.cbc_open;
  ctr = m.ctr;
  sha1_is_mac = sha1_is_mac;
  sha256_is_mac = sha256_is_mac;
  opens = m.opens;
  twice = m.twice;
  seal_len = m.seal_len;
  open_len = m.open_len;
  ctr_len = m.ctr_len;
  bcrypt_len = m.bcrypt_len;
  argon2_len = m.argon2_len;
  seal_bytes = m.seal_bytes;
  open_bytes = m.open_bytes;
  ctr_bytes = m.ctr_bytes;
  bcrypt_bytes = m.bcrypt_bytes;
  argon2_bytes = m.argon2_bytes;
}

-- what a suite means whose caller knows m: m itself under a table that agrees with it, and else the table's completion
unfoldable pub meant : Meanings → List Entry → Meanings
meant m entries = if agrees m entries then with_hmac m else answered entries
