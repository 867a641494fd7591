-- The values of options: algorithms, kinds of certificates and numbers.
use Rattle.std.specs.Prelude.{List, ℕ, ◌^◌, ◌&&◌, nat_lt, codes, Option, Some, None, if◌then◌else◌}
use Rattle.std.specs.Fmt.{decimal}
use Rattle.std.specs.Str.{bytes_eq}
use Rattle.std.specs.Str.Parse.{digits_value}
use Rattle.picky_keys.specs.declared.algorithm.HashAlgorithm.TheVariants as hashes
use Rattle.picky_keys.specs.declared.algorithm.SignatureAlgorithm.{SignatureAlgorithm}
use Rattle.picky_keys.specs.declared.algorithm.SignatureAlgorithm.TheVariants as algorithms
use Rattle.picky_cert_parts.specs.declared.cert_type.SshCertType.{SshCertType}
use Rattle.picky_cert_parts.specs.declared.cert_type.SshCertType.TheVariants.{Client, Host}

-- ---- algorithms

unfoldable pub rsa_sha1 : List ℕ
rsa_sha1 = codes "rsa-sha1"

unfoldable pub rsa_sha2_256 : List ℕ
rsa_sha2_256 = codes "rsa-sha2-256"

unfoldable pub rsa_sha2_512 : List ℕ
rsa_sha2_512 = codes "rsa-sha2-512"

unfoldable pub ecdsa_sha2_256 : List ℕ
ecdsa_sha2_256 = codes "ecdsa-sha2-256"

unfoldable pub ecdsa_sha2_384 : List ℕ
ecdsa_sha2_384 = codes "ecdsa-sha2-384"

unfoldable pub ecdsa_sha2_512 : List ℕ
ecdsa_sha2_512 = codes "ecdsa-sha2-512"

unfoldable pub ed25519 : List ℕ
ed25519 = codes "ed25519"

-- the algorithm with this name
abbrev pub algorithm_named : List ℕ → Option SignatureAlgorithm
algorithm_named name =
    if bytes_eq name rsa_sha1 then Some (algorithms.RsaPkcs1v15 hashes.SHA1)
    else if bytes_eq name rsa_sha2_256 then Some (algorithms.RsaPkcs1v15 hashes.SHA2_256)
    else if bytes_eq name rsa_sha2_512 then Some (algorithms.RsaPkcs1v15 hashes.SHA2_512)
    else if bytes_eq name ecdsa_sha2_256 then Some (algorithms.Ecdsa hashes.SHA2_256)
    else if bytes_eq name ecdsa_sha2_384 then Some (algorithms.Ecdsa hashes.SHA2_384)
    else if bytes_eq name ecdsa_sha2_512 then Some (algorithms.Ecdsa hashes.SHA2_512)
    else if bytes_eq name ed25519 then Some algorithms.Ed25519
    else None

-- ---- kinds of certificates

unfoldable pub client : List ℕ
client = codes "client"

unfoldable pub host : List ℕ
host = codes "host"

-- a user's or a host's
abbrev pub cert_type_named : List ℕ → Option SshCertType
cert_type_named name =
    if bytes_eq name client then Some Client
    else if bytes_eq name host then Some Host
    else None

-- ---- numbers

-- the number below 2^64 whose decimal the text is: 0, or digits of which the first isn't a zero
unfoldable pub number_named : List ℕ → Option ℕ
number_named text =
    let n = digits_value 10 text in
    if nat_lt n (2 ^ 64) && bytes_eq text (decimal n) then Some n else None
