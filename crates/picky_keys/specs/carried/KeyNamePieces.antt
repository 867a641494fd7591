-- The names of kinds and curves, spelled by their strings.
use Rattle.std.specs.Prelude.{◌≡◌, ℕ, true}
use Rattle.std.proofs.Common.{refl, sym, subst}
use Rattle.picky_wire_base.specs.Wire.{string_of, text}
use Rattle.picky_wire_base.specs.Named.{is_name, named}
use Rattle.picky_wire_base.proofs.Named.{named_spells}
use Rattle.picky_keys.specs.declared.curve.EcCurve.{EcCurve}
use Rattle.picky_keys.specs.declared.curve.EcCurve.TheVariants.{NistP256, NistP384, NistP521}
use Rattle.picky_keys.specs.declared.curve.EdAlgorithm.TheVariants.{Ed25519}
use Rattle.picky_keys.specs.declared.kind.KeyKind.{KeyKind}
use Rattle.picky_keys.specs.declared.kind.KeyKind.TheVariants as kinds
use Rattle.picky_keys.specs.KeyNames.{curve_identifier, curve_key_type, ed_key_type, kind_name}
use Rattle.picky_keys.specs.KeyNameTables.{key_types, curves}

-- Each name is ASCII and short.
pub kind_name_good : (kind : KeyKind) → is_name (key_types.key kind) ≡ true
unfolding key_types kind_name curve_key_type ed_key_type
kind_name_good kinds.Rsa = refl
kind_name_good (kinds.Ec NistP256) = refl
kind_name_good (kinds.Ec NistP384) = refl
kind_name_good (kinds.Ec NistP521) = refl
kind_name_good (kinds.Ed Ed25519) = refl
kind_name_good kinds.SkEcdsaSha2NistP256 = refl
kind_name_good kinds.SkEd25519 = refl

-- Each identifier of a curve is ASCII and short.
identifier_good : (curve : EcCurve) → is_name (curve_identifier curve) ≡ true
unfolding curve_identifier
identifier_good NistP256 = refl
identifier_good NistP384 = refl
identifier_good NistP521 = refl

-- A kind's name is spelled by its string.
pub kind_name_spells : (i : ℕ) (kind : KeyKind)
    → (named i key_types).piece kind (string_of (kind_name kind))
unfolding key_types
kind_name_spells i kind = named_spells i key_types kind (kind_name_good kind)

-- A curve's name is spelled by its string.
pub identifier_spells : (curve : EcCurve)
    → text.piece (curve_identifier curve) (string_of (curve_identifier curve))
unfolding curves
identifier_spells curve =
    let spells = named_spells 0 curves curve (identifier_good curve) in
    let name = curve_identifier curve in
    subst (λ v. text.piece v (string_of name)) (sym spells.2) spells.1
