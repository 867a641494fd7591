-- The tables of key types and curves by name.
use Rattle.std.specs.Prelude.{List, ℕ}
use Rattle.picky_wire_base.specs.Table.{Table}
use Rattle.picky_wire_base.specs.Named.{names}
use Rattle.picky_keys.specs.declared.curve.EcCurve.{EcCurve}
use Rattle.picky_keys.specs.declared.kind.KeyKind.{KeyKind}
use Rattle.picky_keys.specs.KeyNames.{curve_identifier, kind_name, kinds_in_order, curves_in_order}
use Rattle.picky_keys.specs.carried.KeyNames.{own_name, own_identifier}

-- the table of key types
unfoldable pub key_types : Table (List ℕ) KeyKind
key_types = names kinds_in_order kind_name own_name

-- the table of curves
unfoldable pub curves : Table (List ℕ) EcCurve
curves = names curves_in_order curve_identifier own_identifier
