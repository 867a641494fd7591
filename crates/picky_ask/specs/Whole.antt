-- Bytes that a layout reads to their end.
use Rattle.std.specs.Prelude.{List, [], ◌∷◌, ℕ, Result, Ok, Err}
use Rattle.picky_wire_base.specs.Flaw.{Reason}

-- the value, where nothing follows it
abbrev pub whole_only : {E A : Type 0} → E → Result (A × List ℕ) Reason → Result A E
whole_only e (Ok (x, [])) = Ok x
whole_only e (Ok (x, b ∷ rest)) = Err e
whole_only e (Err reason) = Err e
