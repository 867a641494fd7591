-- That each operation, and each number of an argument, is its own in its table.
use Rattle.std.specs.Prelude.{◌≡◌, ◌==◌, Some, find, refl}
use Rattle.picky_suite.specs.declared.flavour.Flavour.{Flavour}
use Rattle.picky_suite.specs.declared.flavour.Flavour.TheVariants as flavours
use Rattle.picky_keys.specs.declared.algorithm.HashAlgorithm.{HashAlgorithm}
use Rattle.picky_keys.specs.declared.algorithm.HashAlgorithm.TheVariants as hashes
use Rattle.picky_ask.specs.declared.operation.Operation.{Operation}
use Rattle.picky_ask.specs.declared.operation.Operation.TheVariants as operations
use Rattle.picky_ask.specs.declared.operation.AlgorithmKind.{AlgorithmKind}
use Rattle.picky_ask.specs.declared.operation.AlgorithmKind.TheVariants as kinds
use Rattle.picky_ask.specs.OperationNumber.{operation_number, operations_in_order, flavour_number, flavours_in_order}
use Rattle.picky_ask.specs.AlgorithmNumber.{kind_number, kinds_in_order, hash_number, hashes_in_order}

pub own_operation : (a : Operation) → find (λ b. operation_number a == operation_number b) operations_in_order ≡ Some a
own_operation operations.Bcrypt = refl
own_operation operations.Argon2 = refl
own_operation operations.CbcSeal = refl
own_operation operations.CbcOpen = refl
own_operation operations.Ctr = refl
own_operation operations.Sign = refl
own_operation operations.Verify = refl

pub own_flavour : (a : Flavour) → find (λ b. flavour_number a == flavour_number b) flavours_in_order ≡ Some a
own_flavour flavours.Argon2d = refl
own_flavour flavours.Argon2i = refl
own_flavour flavours.Argon2id = refl

pub own_kind : (a : AlgorithmKind) → find (λ b. kind_number a == kind_number b) kinds_in_order ≡ Some a
own_kind kinds.Rsa = refl
own_kind kinds.Ecdsa = refl
own_kind kinds.Ed25519 = refl

pub own_hash : (a : HashAlgorithm) → find (λ b. hash_number a == hash_number b) hashes_in_order ≡ Some a
own_hash hashes.MD5 = refl
own_hash hashes.SHA1 = refl
own_hash hashes.SHA2_224 = refl
own_hash hashes.SHA2_256 = refl
own_hash hashes.SHA2_384 = refl
own_hash hashes.SHA2_512 = refl
