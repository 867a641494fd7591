-- A text as an element, as the principals of a certificate are (PROTOCOL.certkeys, "valid principals").
use Rattle.std.specs.Prelude.{ℕ, List, ◌<◌, ◌^◌, length, IsUtf8}
use Rattle.picky_wire_base.specs.Grammar.{Grammar}
use Rattle.picky_wire_base.specs.Combine.{tag}
use Rattle.picky_wire_base.specs.Wire.{text}
use Rattle.picky_wire.specs.declared.error.WireError.{WireError}
use Rattle.picky_wire.specs.Flaws.{wire_error}

-- a principal: a string that is UTF-8
unfoldable pub principal : Grammar WireError (List ℕ)
principal = tag wire_error text

-- what each text keeps: it is UTF-8, and short enough for a string
pub record IsPrincipal (v : List ℕ) : Type 0 where
  pub short : length v < 2 ^ 32
  pub utf8 : IsUtf8 v
