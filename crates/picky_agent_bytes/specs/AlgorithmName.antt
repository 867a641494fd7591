-- The names of signature algorithms in a question: the kind and the digest.
use Rattle.std.specs.Prelude.{ℕ, List, codes}
use Rattle.picky_keys.specs.declared.algorithm.HashAlgorithm.TheVariants as hashes
use Rattle.picky_keys.specs.declared.algorithm.SignatureAlgorithm.{SignatureAlgorithm}
use Rattle.picky_keys.specs.declared.algorithm.SignatureAlgorithm.TheVariants as algorithms

unfoldable pub algorithm_name : SignatureAlgorithm → List ℕ
algorithm_name (algorithms.RsaPkcs1v15 hashes.MD5) = codes "rsa-md5"
algorithm_name (algorithms.RsaPkcs1v15 hashes.SHA1) = codes "rsa-sha1"
algorithm_name (algorithms.RsaPkcs1v15 hashes.SHA2_224) = codes "rsa-sha2-224"
algorithm_name (algorithms.RsaPkcs1v15 hashes.SHA2_256) = codes "rsa-sha2-256"
algorithm_name (algorithms.RsaPkcs1v15 hashes.SHA2_384) = codes "rsa-sha2-384"
algorithm_name (algorithms.RsaPkcs1v15 hashes.SHA2_512) = codes "rsa-sha2-512"
algorithm_name (algorithms.Ecdsa hashes.MD5) = codes "ecdsa-md5"
algorithm_name (algorithms.Ecdsa hashes.SHA1) = codes "ecdsa-sha1"
algorithm_name (algorithms.Ecdsa hashes.SHA2_224) = codes "ecdsa-sha2-224"
algorithm_name (algorithms.Ecdsa hashes.SHA2_256) = codes "ecdsa-sha2-256"
algorithm_name (algorithms.Ecdsa hashes.SHA2_384) = codes "ecdsa-sha2-384"
algorithm_name (algorithms.Ecdsa hashes.SHA2_512) = codes "ecdsa-sha2-512"
algorithm_name algorithms.Ed25519 = codes "ed25519"
