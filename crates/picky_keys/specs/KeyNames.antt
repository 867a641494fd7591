-- The names of key types and curves (RFC 4253, section 6.6; RFC 5656, sections 3.1 and 10.1; RFC 8709, section 4; PROTOCOL.u2f).
use Rattle.std.specs.Prelude.{List, [], ◌∷◌, ℕ, codes}
use Rattle.picky_keys.specs.declared.curve.EcCurve.{EcCurve}
use Rattle.picky_keys.specs.declared.curve.EcCurve.TheVariants.{NistP256, NistP384, NistP521}
use Rattle.picky_keys.specs.declared.curve.EdAlgorithm.{EdAlgorithm}
use Rattle.picky_keys.specs.declared.curve.EdAlgorithm.TheVariants.{Ed25519}
use Rattle.picky_keys.specs.declared.kind.KeyKind.{KeyKind}
use Rattle.picky_keys.specs.declared.kind.KeyKind.TheVariants as kinds

-- the name of a curve
unfoldable pub curve_identifier : EcCurve → List ℕ
curve_identifier NistP256 = codes "nistp256"
curve_identifier NistP384 = codes "nistp384"
curve_identifier NistP521 = codes "nistp521"

-- the name of the key type on a curve
unfoldable pub curve_key_type : EcCurve → List ℕ
curve_key_type NistP256 = codes "ecdsa-sha2-nistp256"
curve_key_type NistP384 = codes "ecdsa-sha2-nistp384"
curve_key_type NistP521 = codes "ecdsa-sha2-nistp521"

-- the name of the key type of an Edwards algorithm
unfoldable pub ed_key_type : EdAlgorithm → List ℕ
ed_key_type Ed25519 = codes "ssh-ed25519"

-- the name of each kind's key type
unfoldable pub kind_name : KeyKind → List ℕ
kind_name kinds.Rsa = codes "ssh-rsa"
kind_name (kinds.Ec curve) = curve_key_type curve
kind_name (kinds.Ed algorithm) = ed_key_type algorithm
kind_name kinds.SkEcdsaSha2NistP256 = codes "sk-ecdsa-sha2-nistp256@openssh.com"
kind_name kinds.SkEd25519 = codes "sk-ssh-ed25519@openssh.com"

-- the kinds, in the order in which their names are tried
abbrev pub kinds_in_order : List KeyKind
kinds_in_order =
    kinds.Rsa ∷ kinds.Ec NistP256 ∷ kinds.Ec NistP384 ∷ kinds.Ec NistP521 ∷ kinds.Ed Ed25519
    ∷ kinds.SkEcdsaSha2NistP256 ∷ kinds.SkEd25519 ∷ []

-- the curves, in the order in which their names are tried
abbrev pub curves_in_order : List EcCurve
curves_in_order = NistP256 ∷ NistP384 ∷ NistP521 ∷ []
