-- The parts of a PuTTY private key file that an OpenSSH private key makes.
use Rattle.std.specs.Prelude.{List, ℕ, Result, Ok, Err, if◌then◌else◌}
use Rattle.picky_kv.specs.declared.algorithm.PpkKeyAlgorithmValue.{PpkKeyAlgorithmValue}
use Rattle.picky_wire_base.specs.Outcome.{and_then}
use Rattle.picky_kv.specs.declared.algorithm.PpkKeyAlgorithmValue.TheVariants as algorithms
use Rattle.picky_keys.specs.declared.key.SshBasePublicKey.{SshBasePublicKey}
use Rattle.picky_keys.specs.Blob.{blob_of}
use Rattle.picky_keys.specs.LineRefusal.{is_short}
use Rattle.picky_sshkey_blob.specs.declared.key.SshBasePrivateKey.{SshBasePrivateKey}
use Rattle.picky_sshkey_blob.specs.declared.key.SshBasePrivateKey.TheVariants as keys
use Rattle.picky_sshkey_blob.specs.Key.{public_part}
use Rattle.picky_ppk_parts.specs.declared.error.PuttyError.{PuttyError}
use Rattle.picky_ppk_parts.specs.declared.error.PuttyError.TheVariants as errors
use Rattle.picky_ppk_parts.specs.declared.key_parts.KeyParts.{KeyParts}
use Rattle.picky_ppk_parts.specs.Algorithm.{curve_algorithm}
use Rattle.picky_ppk_parts.specs.Secret.{secret_bytes}
use Rattle.picky_ppk_parts.specs.Unsupported.{no_security_keys}

-- the algorithm that names the key; PuTTY has none whose secret a device keeps
abbrev pub private_algorithm : SshBasePrivateKey → Result PpkKeyAlgorithmValue PuttyError
private_algorithm (keys.Rsa n e d iqmp p q) = Ok algorithms.Rsa
private_algorithm (keys.Ec curve point secret) = Ok (curve_algorithm curve)
private_algorithm (keys.Ed secret public) = Ok algorithms.Ed25519
private_algorithm (keys.SkEcdsaSha2NistP256 point application flags handle) = Err no_security_keys
private_algorithm (keys.SkEd25519 key application flags handle) = Err no_security_keys

-- the one blob of a public key, where a length of the wire can say its length
abbrev pub blob_within : SshBasePublicKey → Result (List ℕ) PuttyError
blob_within public = if is_short (blob_of public) then Ok (blob_of public) else Err errors.TooLong

-- the public key's blob and the one spelling of the secret, where a length of the wire can say the length of each
abbrev pub parts_under : SshBasePrivateKey → PpkKeyAlgorithmValue → Result KeyParts PuttyError
parts_under key algorithm =
    and_then (blob_within (public_part key)) (λ blob.
    if is_short (secret_bytes key)
    then Ok (record { algorithm = algorithm; blob = blob; private_bytes = secret_bytes key }) else Err errors.TooLong)

unfoldable pub key_parts : SshBasePrivateKey → Result KeyParts PuttyError
key_parts key = and_then (private_algorithm key) (parts_under key)
