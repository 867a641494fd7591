-- What is answered for a name: the entry of a table that has it, or a refusal with the name.
use Rattle.std.specs.Prelude.{◌^◌, ℕ, List, length, nat_lt, if◌then◌else◌, Option, Some, None, Result, Ok, Err}
use Rattle.picky_wire_base.specs.Table.{Table, find_entry}

-- a name that no entry has is refused with itself, where it is short enough for a refusal
abbrev pub entry_or : {E A : Type 0} → (List ℕ → E) → E → List ℕ → Option A → Result A E
entry_or unknown big name (Some a) = Ok a
entry_or unknown big name None = if nat_lt (length name) (2 ^ 32) then Err (unknown name) else Err big

-- the answer for a name
abbrev pub of_table : {E A : Type 0} → Table (List ℕ) A → (List ℕ → E) → E → List ℕ → Result A E
of_table table unknown big name = entry_or unknown big name (find_entry table name)
