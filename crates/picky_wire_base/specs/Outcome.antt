-- Steps that answer a value or a reason, one after another.
use Rattle.std.specs.Prelude.{Result, Ok, Err}

-- what the next step makes of an outcome
abbrev pub and_then : {E A B : Type 0} → Result A E → (A → Result B E) → Result B E
and_then (Ok x) next = next x
and_then (Err e) next = Err e

-- the same outcome, with another reason
abbrev pub map_err : {E F A : Type 0} → (E → F) → Result A E → Result A F
map_err f (Ok x) = Ok x
map_err f (Err e) = Err (f e)

-- the same outcome, with its value seen by view
abbrev pub map_ok : {E A B : Type 0} → (A → B) → Result A E → Result B E
map_ok view (Ok x) = Ok (view x)
map_ok view (Err e) = Err e
