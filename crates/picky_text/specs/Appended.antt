-- What was appended to a string.
use Rattle.std.specs.Prelude.{◌≡◌, List, ◌++◌, ℕ, take, string_bytes}
use Rattle.std.specs.declared.string.String.{String}

-- the bytes were
abbrev pub AppendsAll : {Z : Type 0} → String Z → String Z → List ℕ → Type 0
AppendsAll old new bytes = string_bytes new ≡ string_bytes old ++ bytes

-- some front of the bytes was
abbrev pub AppendsFront : {Z : Type 0} → String Z → String Z → List ℕ → Type 0
AppendsFront old new bytes = (n : ℕ) × (string_bytes new ≡ string_bytes old ++ take n bytes)
