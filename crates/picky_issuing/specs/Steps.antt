-- Steps that give a value or nothing, one after another.
use Rattle.std.specs.Prelude.{Option, Some, None}

-- what the next step makes of a value, and nothing where there is none
abbrev pub some_then : {A B : Type 0} → Option A → (A → Option B) → Option B
some_then (Some x) next = next x
some_then None next = None
