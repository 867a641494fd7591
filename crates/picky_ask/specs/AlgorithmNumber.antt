-- A signature algorithm as two numbers: its kind's, and its digest's.
use Rattle.std.specs.Prelude.{List, [], ◌∷◌, ℕ}
use Rattle.picky_keys.specs.declared.algorithm.HashAlgorithm.{HashAlgorithm}
use Rattle.picky_keys.specs.declared.algorithm.HashAlgorithm.TheVariants as hashes
use Rattle.picky_keys.specs.declared.algorithm.SignatureAlgorithm.{SignatureAlgorithm}
use Rattle.picky_keys.specs.declared.algorithm.SignatureAlgorithm.TheVariants as algorithms
use Rattle.picky_ask.specs.declared.operation.AlgorithmKind.{AlgorithmKind}
use Rattle.picky_ask.specs.declared.operation.AlgorithmKind.TheVariants as kinds

abbrev pub kind_number : AlgorithmKind → ℕ
kind_number kinds.Rsa = 1
kind_number kinds.Ecdsa = 2
kind_number kinds.Ed25519 = 3

-- in the order in which their numbers are tried
abbrev pub kinds_in_order : List AlgorithmKind
kinds_in_order = kinds.Rsa ∷ kinds.Ecdsa ∷ kinds.Ed25519 ∷ []

abbrev pub hash_number : HashAlgorithm → ℕ
hash_number hashes.MD5 = 1
hash_number hashes.SHA1 = 2
hash_number hashes.SHA2_224 = 3
hash_number hashes.SHA2_256 = 4
hash_number hashes.SHA2_384 = 5
hash_number hashes.SHA2_512 = 6

abbrev pub hashes_in_order : List HashAlgorithm
hashes_in_order = hashes.MD5 ∷ hashes.SHA1 ∷ hashes.SHA2_224 ∷ hashes.SHA2_256 ∷ hashes.SHA2_384 ∷ hashes.SHA2_512 ∷ []

abbrev pub algorithm_kind : SignatureAlgorithm → AlgorithmKind
algorithm_kind (algorithms.RsaPkcs1v15 hash) = kinds.Rsa
algorithm_kind (algorithms.Ecdsa hash) = kinds.Ecdsa
algorithm_kind algorithms.Ed25519 = kinds.Ed25519

-- the digest's number; 0 of Ed25519's, which is fixed
abbrev pub algorithm_hash : SignatureAlgorithm → ℕ
algorithm_hash (algorithms.RsaPkcs1v15 hash) = hash_number hash
algorithm_hash (algorithms.Ecdsa hash) = hash_number hash
algorithm_hash algorithms.Ed25519 = 0
