-- No two key types and no two curves have one name.
use Rattle.std.specs.Prelude.{◌≡◌, Some, find, bytes_eq}
use Rattle.std.proofs.Common.{refl}
use Rattle.picky_keys.specs.declared.curve.EcCurve.{EcCurve}
use Rattle.picky_keys.specs.declared.curve.EcCurve.TheVariants.{NistP256, NistP384, NistP521}
use Rattle.picky_keys.specs.declared.curve.EdAlgorithm.TheVariants.{Ed25519}
use Rattle.picky_keys.specs.declared.kind.KeyKind.{KeyKind}
use Rattle.picky_keys.specs.declared.kind.KeyKind.TheVariants as kinds
use Rattle.picky_keys.specs.KeyNames.{curve_identifier, curve_key_type, ed_key_type, kind_name, kinds_in_order}
use Rattle.picky_keys.specs.KeyNames.{curves_in_order}

-- No two kinds have one name.
pub own_name : (kind : KeyKind)
    → find (λ other. bytes_eq (kind_name kind) (kind_name other)) kinds_in_order ≡ Some kind
unfolding kind_name curve_key_type ed_key_type
own_name kinds.Rsa = refl
own_name (kinds.Ec NistP256) = refl
own_name (kinds.Ec NistP384) = refl
own_name (kinds.Ec NistP521) = refl
own_name (kinds.Ed Ed25519) = refl
own_name kinds.SkEcdsaSha2NistP256 = refl
own_name kinds.SkEd25519 = refl

-- No two curves have one name.
pub own_identifier : (curve : EcCurve)
    → find (λ other. bytes_eq (curve_identifier curve) (curve_identifier other)) curves_in_order
    ≡ Some curve
unfolding curve_identifier
own_identifier NistP256 = refl
own_identifier NistP384 = refl
own_identifier NistP521 = refl
