-- The laws of names: each stands for one kind or curve.
use Rattle.std.specs.Prelude.{◌≡◌, List, ℕ, Some, IsUtf8}
use Rattle.std.proofs.Common.{refl, sym, subst, ◌∙◌}
use Rattle.picky_wire_base.specs.Table.{find_entry}
use Rattle.picky_wire_base.specs.carried.Table.{found_has_key}
use Rattle.picky_wire_base.specs.Wire.{text}
use Rattle.picky_keys.specs.declared.curve.EcCurve.{EcCurve}
use Rattle.picky_keys.specs.declared.kind.KeyKind.{KeyKind}
use Rattle.picky_keys.specs.KeyNames.{curve_identifier, kind_name}
use Rattle.picky_keys.specs.carried.KeyNames.{own_name, own_identifier}
use Rattle.picky_keys.specs.carried.KeyNamePieces.{kind_name_spells}
use Rattle.picky_keys.specs.KeyNameTables.{key_types, curves}

-- The key of an entry is its name.
pub key_is_name : (kind : KeyKind) → key_types.key kind ≡ kind_name kind
unfolding key_types
key_is_name kind = refl

-- ---- each name stands for one entry

pub kind_of_name : (kind : KeyKind) → find_entry key_types (kind_name kind) ≡ Some kind
unfolding key_types
kind_of_name kind = own_name kind

pub name_of_kind : (name : List ℕ) (kind : KeyKind)
    → find_entry key_types name ≡ Some kind → kind_name kind ≡ name
unfolding key_types
name_of_kind name kind found = found_has_key key_types name kind found

pub curve_of_name : (curve : EcCurve) → find_entry curves (curve_identifier curve) ≡ Some curve
unfolding curves
curve_of_name curve = own_identifier curve

pub name_of_curve : (name : List ℕ) (curve : EcCurve)
    → find_entry curves name ≡ Some curve → curve_identifier curve ≡ name
unfolding curves
name_of_curve name curve found = found_has_key curves name curve found

-- what `laws` states of names
pub ruleset both_ways = (kind_of_name, name_of_kind, curve_of_name, name_of_curve)

-- Each name is text.
pub kind_name_utf8 : (kind : KeyKind) → IsUtf8 (kind_name kind)
unfolding key_types text
kind_name_utf8 kind =
    let spells = kind_name_spells 0 kind in
    subst IsUtf8 (sym (spells.2 ∙ spells.1.2.1)) spells.1.2.0
