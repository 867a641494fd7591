-- By which algorithm a kind of key signs, and in which format (draft-miller-ssh-agent-04, "Signature flags"; RFC 8332, section 3).
use Rattle.std.specs.Prelude.{ℕ, Bool, not, ◌==◌, if◌then◌else◌, bit_and, Option, Some, None, option_map}
use Rattle.std.specs.Option.{option_and_then}
use Rattle.picky_keys.specs.declared.algorithm.HashAlgorithm.{HashAlgorithm}
use Rattle.picky_keys.specs.declared.algorithm.HashAlgorithm.TheVariants as hashes
use Rattle.picky_keys.specs.declared.algorithm.SignatureAlgorithm.{SignatureAlgorithm}
use Rattle.picky_keys.specs.declared.algorithm.SignatureAlgorithm.TheVariants as algorithms
use Rattle.picky_keys.specs.declared.curve.EcCurve.TheVariants.{NistP256, NistP384, NistP521}
use Rattle.picky_keys.specs.declared.kind.KeyKind.{KeyKind}
use Rattle.picky_keys.specs.declared.kind.KeyKind.TheVariants as kinds
use Rattle.picky_cert_parts.specs.declared.signature_format.SshSignatureFormat.{SshSignatureFormat}
use Rattle.picky_cert_builder.specs.Algorithm.{format_of}

abbrev pub is_set : (flags flag : ℕ) → Bool
is_set flags flag = not (bit_and flags flag == 0)

-- SSH_AGENT_RSA_SHA2_256, and else SSH_AGENT_RSA_SHA2_512
abbrev pub rsa_hash : (flags : ℕ) → HashAlgorithm
rsa_hash flags =
    if is_set flags 2 then hashes.SHA2_256
    else if is_set flags 4 then hashes.SHA2_512
    else hashes.SHA1

-- a security key signs nothing here
abbrev pub algorithm_for : KeyKind → (flags : ℕ) → Option SignatureAlgorithm
algorithm_for kinds.Rsa flags = Some (algorithms.RsaPkcs1v15 (rsa_hash flags))
algorithm_for (kinds.Ec NistP256) flags = Some (algorithms.Ecdsa hashes.SHA2_256)
algorithm_for (kinds.Ec NistP384) flags = Some (algorithms.Ecdsa hashes.SHA2_384)
algorithm_for (kinds.Ec NistP521) flags = Some (algorithms.Ecdsa hashes.SHA2_512)
algorithm_for (kinds.Ed algorithm) flags = Some algorithms.Ed25519
algorithm_for kinds.SkEcdsaSha2NistP256 flags = None
algorithm_for kinds.SkEd25519 flags = None

-- the algorithm, and the format of its signatures
abbrev pub SigningWay : Type 0
SigningWay = SignatureAlgorithm × SshSignatureFormat

abbrev pub with_format : KeyKind → SignatureAlgorithm → Option SigningWay
with_format kind algorithm = option_map (λ format. (algorithm, format)) (format_of kind algorithm)

abbrev pub way_for : KeyKind → (flags : ℕ) → Option SigningWay
way_for kind flags = option_and_then (with_format kind) (algorithm_for kind flags)
