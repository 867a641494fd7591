-- Which keys an algorithm names.
use Rattle.std.specs.Prelude.{◌≡◌, List, ℕ, Ok, Err, if◌then◌else◌}
use Rattle.std.proofs.Common.{refl, ap}
use Rattle.picky_kv.specs.declared.algorithm.PpkKeyAlgorithmValue.{PpkKeyAlgorithmValue}
use Rattle.picky_kv.specs.declared.algorithm.PpkKeyAlgorithmValue.TheVariants as algorithms
use Rattle.picky_keys.specs.declared.curve.EcCurve.{EcCurve}
use Rattle.picky_keys.specs.declared.curve.EcCurve.TheVariants.{NistP256, NistP384, NistP521}
use Rattle.picky_keys.specs.declared.public_key.PublicKey.{PublicKey}
use Rattle.picky_keys.specs.declared.public_key.PublicKey.TheVariants as plain
use Rattle.picky_keys.specs.declared.key.SshBasePublicKey.{SshBasePublicKey}
use Rattle.picky_keys.specs.declared.key.SshBasePublicKey.TheVariants as public_keys
use Rattle.picky_ppk_parts.specs.declared.error.PuttyError.TheVariants as errors
use Rattle.picky_ppk_parts.specs.Algorithm.{curve_algorithm, algorithm_of, ssh_key_of, same_curve}
use Rattle.picky_ppk_parts.specs.Algorithm.{rsa_of, ec_of, ed_of, key_under}

-- the algorithm names the key, which is OpenSSH's
pub record Names (algorithm : PpkKeyAlgorithmValue) (key : SshBasePublicKey) (public : PublicKey) : Type 0 where
  pub named : algorithm ≡ algorithm_of public
  pub same : key ≡ ssh_key_of public

names : (a b : PublicKey) → a ≡ b → Names (algorithm_of a) (ssh_key_of a) b
names a b same = record { named = ap algorithm_of same; same = ap ssh_key_of same }

rsa_names : (key : SshBasePublicKey) (public : PublicKey) → rsa_of key ≡ Ok public → Names algorithms.Rsa key public
rsa_names (public_keys.Rsa e n) public is = names (plain.Rsa e n) public (cc is)
rsa_names (public_keys.Ec curve point) public is = cc is
rsa_names (public_keys.Ed key) public is = cc is
rsa_names (public_keys.SkEcdsaSha2NistP256 point application) public is = cc is
rsa_names (public_keys.SkEd25519 key application) public is = cc is

curve_names : (curve other : EcCurve) (point : List ℕ) (public : PublicKey)
    → (if same_curve curve other then Ok (plain.Ec curve point) else Err errors.PublicAndPrivateKeyMismatch) ≡ Ok public
    → Names (curve_algorithm curve) (public_keys.Ec other point) public
curve_names NistP256 NistP256 point public is = names (plain.Ec NistP256 point) public (cc is)
curve_names NistP256 NistP384 point public is = cc is
curve_names NistP256 NistP521 point public is = cc is
curve_names NistP384 NistP256 point public is = cc is
curve_names NistP384 NistP384 point public is = names (plain.Ec NistP384 point) public (cc is)
curve_names NistP384 NistP521 point public is = cc is
curve_names NistP521 NistP256 point public is = cc is
curve_names NistP521 NistP384 point public is = cc is
curve_names NistP521 NistP521 point public is = names (plain.Ec NistP521 point) public (cc is)

ec_names : (curve : EcCurve) (key : SshBasePublicKey) (public : PublicKey) → ec_of curve key ≡ Ok public
    → Names (curve_algorithm curve) key public
ec_names curve (public_keys.Ec other point) public is = curve_names curve other point public is
ec_names curve (public_keys.Rsa e n) public is = cc is
ec_names curve (public_keys.Ed key) public is = cc is
ec_names curve (public_keys.SkEcdsaSha2NistP256 point application) public is = cc is
ec_names curve (public_keys.SkEd25519 key application) public is = cc is

ed_names : (key : SshBasePublicKey) (public : PublicKey) → ed_of key ≡ Ok public → Names algorithms.Ed25519 key public
ed_names (public_keys.Ed key) public is = names (plain.Ed key) public (cc is)
ed_names (public_keys.Rsa e n) public is = cc is
ed_names (public_keys.Ec curve point) public is = cc is
ed_names (public_keys.SkEcdsaSha2NistP256 point application) public is = cc is
ed_names (public_keys.SkEd25519 key application) public is = cc is

-- A key under an algorithm is named by it.
pub key_is_named : (algorithm : PpkKeyAlgorithmValue) (key : SshBasePublicKey) (public : PublicKey)
    → key_under algorithm key ≡ Ok public → Names algorithm key public
key_is_named algorithms.Rsa key public is = rsa_names key public is
key_is_named algorithms.Dss key public is = cc is
key_is_named algorithms.EcdsaSha2Nistp256 key public is = ec_names NistP256 key public is
key_is_named algorithms.EcdsaSha2Nistp384 key public is = ec_names NistP384 key public is
key_is_named algorithms.EcdsaSha2Nistp521 key public is = ec_names NistP521 key public is
key_is_named algorithms.Ed25519 key public is = ed_names key public is
key_is_named algorithms.Ed448 key public is = cc is

-- Each key is under the algorithm that names it.
pub named_is_under : (public : PublicKey) → key_under (algorithm_of public) (ssh_key_of public) ≡ Ok public
named_is_under (plain.Rsa e n) = refl
named_is_under (plain.Ec NistP256 point) = refl
named_is_under (plain.Ec NistP384 point) = refl
named_is_under (plain.Ec NistP521 point) = refl
named_is_under (plain.Ed key) = refl
