-- What an element of the wire promises of its layout, for principals.
use Rattle.std.specs.Prelude.{◌≡◌, ◌≢◌, Err, ℕ, List}
use Rattle.picky_wire_base.specs.Row.{Solid}
use Rattle.picky_wire_base.specs.Wire.{text, string_of}
use Rattle.picky_wire_base.proofs.Strings.{text_spells}
use Rattle.picky_wire_base.proofs.Solid.{text_solid}
use Rattle.picky_wire.specs.declared.error.WireError.{WireError}
use Rattle.picky_wire.specs.declared.error.WireError.TheVariants as errors
use Rattle.picky_wire.specs.carried.Flaws.{wire_own}
use Rattle.picky_wire.specs.Principals.{principal, IsPrincipal}

-- A text is spelled by its string.
pub principal_spells : (v : List ℕ) → IsPrincipal v → principal.piece v (string_of v)
unfolding principal
principal_spells v keeps = text_spells v keeps.short keeps.utf8

-- Each piece has at least one byte.
pub principal_solid : Solid principal.piece
unfolding principal
principal_solid = text_solid

-- No bytes are refused for a fault or for want of memory.
pub principal_own : (bytes : List ℕ) (e : WireError) → principal.read bytes ≡ Err e
    → (e ≢ errors.ReadFault) × (e ≢ errors.NoMemory)
unfolding principal
principal_own bytes e refused = wire_own (text.read bytes) e refused
