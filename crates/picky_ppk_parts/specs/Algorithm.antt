-- Which algorithm of a PuTTY file names which public keys.
use Rattle.std.specs.Prelude.{Bool, true, false, Result, Ok, Err, if◌then◌else◌}
use Rattle.picky_kv.specs.declared.algorithm.PpkKeyAlgorithmValue.{PpkKeyAlgorithmValue}
use Rattle.picky_kv.specs.declared.algorithm.PpkKeyAlgorithmValue.TheVariants as algorithms
use Rattle.picky_keys.specs.declared.curve.EcCurve.{EcCurve}
use Rattle.picky_keys.specs.declared.curve.EcCurve.TheVariants.{NistP256, NistP384, NistP521}
use Rattle.picky_keys.specs.declared.public_key.PublicKey.{PublicKey}
use Rattle.picky_keys.specs.declared.public_key.PublicKey.TheVariants as plain
use Rattle.picky_keys.specs.declared.key.SshBasePublicKey.{SshBasePublicKey}
use Rattle.picky_keys.specs.declared.key.SshBasePublicKey.TheVariants as public_keys
use Rattle.picky_ppk_parts.specs.declared.error.PuttyError.{PuttyError}
use Rattle.picky_ppk_parts.specs.declared.error.PuttyError.TheVariants as errors
use Rattle.picky_ppk_parts.specs.Unsupported.{no_such_algorithm}

-- ---- the algorithm of a key

abbrev pub curve_algorithm : EcCurve → PpkKeyAlgorithmValue
curve_algorithm NistP256 = algorithms.EcdsaSha2Nistp256
curve_algorithm NistP384 = algorithms.EcdsaSha2Nistp384
curve_algorithm NistP521 = algorithms.EcdsaSha2Nistp521

abbrev pub algorithm_of : PublicKey → PpkKeyAlgorithmValue
algorithm_of (plain.Rsa e n) = algorithms.Rsa
algorithm_of (plain.Ec curve point) = curve_algorithm curve
algorithm_of (plain.Ed key) = algorithms.Ed25519

-- the key as OpenSSH has it
abbrev pub ssh_key_of : PublicKey → SshBasePublicKey
ssh_key_of (plain.Rsa e n) = public_keys.Rsa e n
ssh_key_of (plain.Ec curve point) = public_keys.Ec curve point
ssh_key_of (plain.Ed key) = public_keys.Ed key

-- ---- the key of an algorithm, or the reason why the algorithm isn't its

abbrev pub same_curve : EcCurve → EcCurve → Bool
same_curve NistP256 NistP256 = true
same_curve NistP384 NistP384 = true
same_curve NistP521 NistP521 = true
same_curve curve other = false

abbrev pub rsa_of : SshBasePublicKey → Result PublicKey PuttyError
rsa_of (public_keys.Rsa e n) = Ok (plain.Rsa e n)
rsa_of other = Err errors.PublicAndPrivateKeyMismatch

abbrev pub ec_of : EcCurve → SshBasePublicKey → Result PublicKey PuttyError
ec_of curve (public_keys.Ec other point) =
    if same_curve curve other then Ok (plain.Ec curve point) else Err errors.PublicAndPrivateKeyMismatch
ec_of curve other = Err errors.PublicAndPrivateKeyMismatch

abbrev pub ed_of : SshBasePublicKey → Result PublicKey PuttyError
ed_of (public_keys.Ed key) = Ok (plain.Ed key)
ed_of other = Err errors.PublicAndPrivateKeyMismatch

abbrev pub key_under : PpkKeyAlgorithmValue → SshBasePublicKey → Result PublicKey PuttyError
key_under algorithms.Rsa key = rsa_of key
key_under algorithms.Dss key = Err no_such_algorithm
key_under algorithms.EcdsaSha2Nistp256 key = ec_of NistP256 key
key_under algorithms.EcdsaSha2Nistp384 key = ec_of NistP384 key
key_under algorithms.EcdsaSha2Nistp521 key = ec_of NistP521 key
key_under algorithms.Ed25519 key = ed_of key
key_under algorithms.Ed448 key = Err no_such_algorithm
