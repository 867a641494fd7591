-- What the calls of `MemorySuite` mean: its MACs are RFC 2104's, its cipher and derivation are for tests alone.
use Rattle.sha1.specs.Sha1.{sha1}
use Rattle.sha2.specs.Sha256.{sha256}
use Rattle.picky_suite.specs.Hmac.{hmac}
use Rattle.picky_suite.specs.Meanings.{Meanings}
use Rattle.picky_suite.specs.Toy.{toy_seal, toy_open, toy_ctr, toy_bcrypt, toy_argon2}
use Rattle.picky_suite.specs.carried.Meanings.{sha1_is_mac, sha256_is_mac}
use Rattle.picky_suite.specs.carried.ToyCipher as cipher
use Rattle.picky_suite.specs.carried.ToyDerivation as derivation

abbrev pub toy : Meanings
toy = record {
  hmac_sha1 = hmac sha1;
  hmac_sha256 = hmac sha256;
  bcrypt = toy_bcrypt;
  argon2 = toy_argon2;
  cbc_seal = toy_seal;
  cbc_open = toy_open;
  ctr = toy_ctr;
  sha1_is_mac = sha1_is_mac;
  sha256_is_mac = sha256_is_mac;
  opens = cipher.opens;
  twice = cipher.twice;
  seal_len = cipher.seal_len;
  open_len = cipher.open_len;
  ctr_len = cipher.ctr_len;
  bcrypt_len = derivation.bcrypt_len;
  argon2_len = derivation.argon2_len;
  seal_bytes = cipher.seal_bytes;
  open_bytes = cipher.open_bytes;
  ctr_bytes = cipher.ctr_bytes;
  bcrypt_bytes = derivation.bcrypt_bytes;
  argon2_bytes = derivation.argon2_bytes;
}
