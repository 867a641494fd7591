-- A digest is of so many bytes, and so is a MAC, which is a digest.
use Rattle.std.proofs.Common.{◌≡◌, ◌*◌, ◌<◌, ℕ, zero, suc, List, []}
use Rattle.std.proofs.Common.{◌∷◌, ◌++◌, length, length-append, refl, arith}
use Rattle.std.specs.Prelude.{slice_index}
use Rattle.std.specs.List.{AllByRecursion}
use Rattle.std.specs.Int.{to_be_bytes, w32}
use Rattle.sha1.specs.Sha1.{sha1}
use Rattle.sha1.specs.Sha1.{digest_bytes as sha1_bytes}
use Rattle.sha2.specs.Sha256.{sha256}
use Rattle.sha2.specs.Sha256.{digest_bytes as sha256_bytes}
use Rattle.picky_suite.specs.Hmac.{hmac}
use Rattle.picky_suite.specs.Mac.{IsMac}

each_joined : (x y : List ℕ) → AllByRecursion (λ b. b < 256) x → AllByRecursion (λ b. b < 256) y
    → AllByRecursion (λ b. b < 256) (x ++ y)
each_joined [] y front back = back
each_joined (b ∷ x) y front back = (front.0, each_joined x y front.1 back)

word_bytes : (n : ℕ) → AllByRecursion (λ b. b < 256) (to_be_bytes w32 n)
word_bytes n = (omega arith, (omega arith, (omega arith, (omega arith, tt))))

sha1_word : (h : List ℕ) (n : ℕ) → IsMac (n * 4) (sha1_bytes h n)
unfolding sha1_bytes
sha1_word h zero = record { len = refl; each = tt }
sha1_word h (suc n) =
    let before = sha1_word h n in
    let word : List ℕ = to_be_bytes w32 (slice_index h n) in
    let last : length word ≡ 4 = refl in
    record {
      len = omega (arith, before.len, last, length-append (sha1_bytes h n) word);
      each = each_joined _ word before.each (word_bytes (slice_index h n));
    }

sha256_word : (h : List ℕ) (n : ℕ) → IsMac (n * 4) (sha256_bytes h n)
unfolding sha256_bytes
sha256_word h zero = record { len = refl; each = tt }
sha256_word h (suc n) =
    let before = sha256_word h n in
    let word : List ℕ = to_be_bytes w32 (slice_index h n) in
    let last : length word ≡ 4 = refl in
    record {
      len = omega (arith, before.len, last, length-append (sha256_bytes h n) word);
      each = each_joined _ word before.each (word_bytes (slice_index h n));
    }

pub sha1_is_mac : (key message : List ℕ) → IsMac 20 (hmac sha1 key message)
unfolding sha1
sha1_is_mac key message = sha1_word _ 5

pub sha256_is_mac : (key message : List ℕ) → IsMac 32 (hmac sha256 key message)
unfolding sha256
sha256_is_mac key message = sha256_word _ 8
