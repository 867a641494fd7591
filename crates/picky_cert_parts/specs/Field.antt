-- A field of the wire, with a layer's own errors for what is wrong with it.
use Rattle.picky_wire_base.specs.Flaw.{Flaw}
use Rattle.picky_wire_base.specs.Grammar.{Grammar}
use Rattle.picky_wire_base.specs.Combine.{tag}
use Rattle.picky_wire.specs.declared.error.WireError.{WireError}
use Rattle.picky_wire.specs.Flaws.{wire_error}

-- the field, where `error` is the layer's error that says what the wire's error says
abbrev pub field : {E A : Type 0} → (WireError → E) → Grammar Flaw A → Grammar E A
field error G = tag (λ flaw. error (wire_error flaw)) G
