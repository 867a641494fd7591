-- Kind by kind.
use Rattle.std.proofs.Common.{◌≡◌, Some, refl}
use Rattle.picky_keys.specs.declared.curve.EcCurve.TheVariants.{NistP256, NistP384, NistP521}
use Rattle.picky_keys.specs.declared.curve.EdAlgorithm.TheVariants.{Ed25519}
use Rattle.picky_keys.specs.declared.kind.KeyKind.{KeyKind}
use Rattle.picky_keys.specs.declared.kind.KeyKind.TheVariants as kinds
use Rattle.picky_cert_blob.specs.Subject.{subject_kind}
use Rattle.picky_request.specs.Builder.{type_for}
use Rattle.picky_request.proofs.laws.type_is_for_its_kind.Goals as goal

pub returns : goal.returns
returns c = of_kind
  where
    of_kind : (kind : KeyKind) → subject_kind (type_for kind) ≡ Some kind
    of_kind kinds.Rsa = refl
    of_kind (kinds.Ec NistP256) = refl
    of_kind (kinds.Ec NistP384) = refl
    of_kind (kinds.Ec NistP521) = refl
    of_kind (kinds.Ed Ed25519) = refl
    of_kind kinds.SkEcdsaSha2NistP256 = refl
    of_kind kinds.SkEd25519 = refl
