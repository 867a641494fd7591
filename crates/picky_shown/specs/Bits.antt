-- How many bits a public key has.
use Rattle.std.specs.Prelude.{List, [], ◌∷◌, ℕ, ◌+◌, ◌-◌, ◌*◌, ◌^◌, ◌<◌, ◌≤◌, length}
use Rattle.std.specs.Int.{w8, leading_zeros}
use Rattle.picky_keys.specs.declared.curve.EcCurve.{EcCurve}
use Rattle.picky_keys.specs.declared.curve.EcCurve.TheVariants.{NistP256, NistP384, NistP521}
use Rattle.picky_keys.specs.declared.key.SshBasePublicKey.{SshBasePublicKey}
use Rattle.picky_keys.specs.declared.key.SshBasePublicKey.TheVariants as keys

-- the number that bytes are, most significant first
abbrev pub number_of : List ℕ → ℕ
number_of [] = 0
number_of (b ∷ more) = b * 256 ^ length more + number_of more

-- the number has k bits: it is below 2^k, and below no smaller power of two
pub record HasBits (number k : ℕ) : Type 0 where
  pub below : number < 2 ^ k
  pub least : (j : ℕ) → number < 2 ^ j → k ≤ j

-- eight bits for each byte, but of the first none of the zeros in front
abbrev pub bit_len : List ℕ → ℕ
bit_len [] = 0
bit_len (b ∷ more) = 8 - leading_zeros w8 b + 8 * length more

-- the bits of a curve's field
abbrev pub curve_bits : EcCurve → ℕ
curve_bits NistP256 = 256
curve_bits NistP384 = 384
curve_bits NistP521 = 521

-- of RSA the bits of n, and else those of the curve's field; security keys are on P-256 and Ed25519
abbrev pub key_bits : SshBasePublicKey → ℕ
key_bits (keys.Rsa e n) = bit_len n
key_bits (keys.Ec curve point) = curve_bits curve
key_bits (keys.Ed key) = 256
key_bits (keys.SkEcdsaSha2NistP256 point application) = 256
key_bits (keys.SkEd25519 key application) = 256
