-- Lists of bytes, and a digest of SHA-512 as one.
use Rattle.std.proofs.Common.{◌≡◌, ◌<◌, ℕ, zero, suc, List, [], ◌∷◌, ◌++◌, length, arith}
use Rattle.std.specs.Prelude.{slice_index}
use Rattle.std.specs.Int.{to_be_bytes, w64}
use Rattle.std.specs.List.{AllByRecursion}
use Rattle.sha2.specs.Sha512.{sha512}
use Rattle.sha2.specs.Sha512.{digest_bytes as words_bytes}
use Rattle.sha2.proofs.Facts512.{length-sha512}
use Rattle.picky_wire_base.specs.Numbers.{IsBytes}

pub joined_bytes : (x y : List ℕ) → IsBytes x → IsBytes y → IsBytes (x ++ y)
joined_bytes [] y front back i = back i
joined_bytes (b ∷ x) y front back zero = front zero
joined_bytes (b ∷ x) y front back (suc i) = joined_bytes x y (λ k. front (suc k)) back i

pub no_bytes : IsBytes []
no_bytes i = omega arith

by_recursion : (x : List ℕ) → AllByRecursion (λ b. b < 256) x → IsBytes x
by_recursion [] each i = omega arith
by_recursion (b ∷ x) each zero = each.0
by_recursion (b ∷ x) each (suc i) = by_recursion x each.1 i

word_bytes : (n : ℕ) → IsBytes (to_be_bytes w64 n)
word_bytes n = by_recursion (to_be_bytes w64 n) (
  omega arith,
  (
    omega arith,
    (
      omega arith,
      (
        omega arith,
        (omega arith, (omega arith, (omega arith, (omega arith, tt)))),
      ),
    ),
  ),
)

words_are_bytes : (h : List ℕ) (n : ℕ) → IsBytes (words_bytes h n)
unfolding words_bytes
words_are_bytes h zero = no_bytes
words_are_bytes h (suc n) =
    joined_bytes (words_bytes h n) (to_be_bytes w64 (slice_index h n)) (words_are_bytes h n)
    (word_bytes (slice_index h n))

pub digest_len : (message : List ℕ) → length (sha512 message) ≡ 64
digest_len message = length-sha512 message

pub digest_bytes : (message : List ℕ) → IsBytes (sha512 message)
unfolding sha512
digest_bytes message = words_are_bytes _ 8
