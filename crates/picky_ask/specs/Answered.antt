-- A table's completion: meanings of a lawful suite, whatever the table says. Where the table doesn't answer, a call fails, so
-- what the completion has there shows nowhere.
use Rattle.std.specs.Prelude.{List}
use Rattle.sha1.specs.Sha1.{sha1}
use Rattle.sha2.specs.Sha256.{sha256}
use Rattle.picky_suite.specs.Hmac.{hmac}
use Rattle.picky_suite.specs.Meanings.{Meanings}
use Rattle.picky_suite.specs.carried.Meanings.{sha1_is_mac, sha256_is_mac}
use Rattle.picky_ask.specs.declared.lookup.Mode.TheVariants.{Cbc, Ctr}
use Rattle.picky_ask.specs.declared.question.Head.TheVariants as heads
use Rattle.picky_ask.specs.declared.question.Entry.{Entry}
use Rattle.picky_ask.specs.Completion.{derived, exchanged}
use Rattle.picky_ask.specs.Lookup.{answer_to, question}
use Rattle.picky_ask.specs.carried.Completion.{derived_len, derived_bytes, exchanged_twice, exchanged_len, exchanged_bytes}

abbrev pub answered : List Entry → Meanings
answered entries = record {
  hmac_sha1 = hmac sha1;
  hmac_sha256 = hmac sha256;
  bcrypt = λ pass salt rounds n. derived n (answer_to (question (heads.Bcrypt n rounds salt) pass) entries);
  argon2 = λ kind memory passes parallelism pass salt.
      derived 80 (answer_to (question (heads.Argon2 kind memory passes parallelism salt) pass) entries);
  cbc_seal = λ key iv text. exchanged Cbc key iv entries text;
  cbc_open = λ key iv text. exchanged Cbc key iv entries text;
  ctr = λ key iv text. exchanged Ctr key iv entries text;
  sha1_is_mac = sha1_is_mac;
  sha256_is_mac = sha256_is_mac;
  opens = λ key iv text whole. exchanged_twice Cbc key iv entries text;
  twice = λ key iv text. exchanged_twice Ctr key iv entries text;
  seal_len = λ key iv text. exchanged_len Cbc key iv entries text;
  open_len = λ key iv text. exchanged_len Cbc key iv entries text;
  ctr_len = λ key iv text. exchanged_len Ctr key iv entries text;
  bcrypt_len = λ pass salt rounds n sized. derived_len n (answer_to (question (heads.Bcrypt n rounds salt) pass) entries);
  argon2_len = λ kind memory passes parallelism pass salt.
      derived_len 80 (answer_to (question (heads.Argon2 kind memory passes parallelism salt) pass) entries);
  seal_bytes = λ key iv text key_bytes iv_bytes each. exchanged_bytes Cbc key iv entries text each;
  open_bytes = λ key iv text key_bytes iv_bytes each. exchanged_bytes Cbc key iv entries text each;
  ctr_bytes = λ key iv text key_bytes iv_bytes each. exchanged_bytes Ctr key iv entries text each;
  bcrypt_bytes = λ pass salt rounds n pass_bytes salt_bytes.
      derived_bytes n (answer_to (question (heads.Bcrypt n rounds salt) pass) entries);
  argon2_bytes = λ kind memory passes parallelism pass salt pass_bytes salt_bytes.
      derived_bytes 80 (answer_to (question (heads.Argon2 kind memory passes parallelism salt) pass) entries);
}
