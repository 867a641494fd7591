-- What is derived for tests has its length, and is bytes.
use Rattle.std.proofs.Common.{◌≡◌, ◌≤◌, ℕ, List, [], ◌∷◌, ◌++◌, length, inl, inr, arith, length-append}
use Rattle.std.proofs.lemmas.List.{length-take-le}
use Rattle.picky_wire_base.specs.Numbers.{IsBytes}
use Rattle.picky_wire_base.proofs.Numbers.{front_bytes}
use Rattle.picky_suite.specs.declared.flavour.Flavour.{Flavour}
use Rattle.picky_suite.specs.Ranges.{IsBcryptLen}
use Rattle.picky_suite.specs.Toy.{derived_block, toy_derived, toy_bcrypt, toy_argon2}
use Rattle.picky_suite.specs.carried.Bytes.{joined_bytes, digest_len, digest_bytes}

block_len : (pass salt numbers : List ℕ) (i : ℕ) → length (derived_block pass salt numbers i) ≡ 64
unfolding derived_block
block_len pass salt numbers i = digest_len _

block_bytes : (pass salt numbers : List ℕ) (i : ℕ) → IsBytes (derived_block pass salt numbers i)
unfolding derived_block
block_bytes pass salt numbers i = digest_bytes _

derived_len : (n : ℕ) (pass salt numbers : List ℕ) → n ≤ 128 → length (toy_derived n pass salt numbers) ≡ n
unfolding toy_derived
derived_len n pass salt numbers fits =
    let zeroth = derived_block pass salt numbers 0 in
    let first = derived_block pass salt numbers 1 in
    let joined : n ≤ length (zeroth ++ first) = omega (
      arith,
      length-append zeroth first,
      block_len pass salt numbers 0,
      block_len pass salt numbers 1,
    ) in
    length-take-le n (zeroth ++ first) joined

derived_bytes : (n : ℕ) (pass salt numbers : List ℕ) → IsBytes (toy_derived n pass salt numbers)
unfolding toy_derived
derived_bytes n pass salt numbers =
    front_bytes n _ (joined_bytes _ _ (block_bytes pass salt numbers 0) (block_bytes pass salt numbers 1))

pub bcrypt_len : (pass salt : List ℕ) (rounds n : ℕ) → IsBcryptLen n → length (toy_bcrypt pass salt rounds n) ≡ n
bcrypt_len pass salt rounds n (inl is32) = derived_len n pass salt (rounds ∷ []) (omega arith)
bcrypt_len pass salt rounds n (inr is48) = derived_len n pass salt (rounds ∷ []) (omega arith)

pub argon2_len : (flavour : Flavour) (memory passes parallelism : ℕ) (pass salt : List ℕ)
    → length (toy_argon2 flavour memory passes parallelism pass salt) ≡ 80
argon2_len flavour memory passes parallelism pass salt = derived_len 80 pass salt _ (omega arith)

pub bcrypt_bytes : (pass salt : List ℕ) (rounds n : ℕ) → IsBytes pass → IsBytes salt
    → IsBytes (toy_bcrypt pass salt rounds n)
bcrypt_bytes pass salt rounds n pass_bytes salt_bytes = derived_bytes n pass salt (rounds ∷ [])

pub argon2_bytes : (flavour : Flavour) (memory passes parallelism : ℕ) (pass salt : List ℕ)
    → IsBytes pass → IsBytes salt → IsBytes (toy_argon2 flavour memory passes parallelism pass salt)
argon2_bytes flavour memory passes parallelism pass salt pass_bytes salt_bytes = derived_bytes 80 pass salt _
