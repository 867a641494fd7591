-- Where a string is refused for what stands inside it: at the end of that.
use Rattle.std.specs.Prelude.{List, [], ◌∷◌, ℕ, zero, suc, ◌+◌, length, Result, Ok, Err}
use Rattle.picky_wire_base.specs.Flaw.{Flaw}
use Rattle.picky_wire_base.specs.Grammar.{Grammar}
use Rattle.picky_wire_base.specs.Joined.{used_then}
use Rattle.picky_wire_base.specs.Wire.{string}

-- the whole string, or its bytes up to the end of what is refused inside
abbrev pub up_to : {E A : Type 0} → Result A E → (whole inner : ℕ) → ℕ
up_to (Ok v) whole inner = whole
up_to (Err e) whole inner = inner

-- so of a string in front: its length has four bytes
abbrev pub up_to_inside : {E A : Type 0} → (List ℕ → Result A E) → (List ℕ → ℕ) → (whole : ℕ)
    → Result (List ℕ × List ℕ) Flaw → ℕ
up_to_inside decide used whole (Ok (block, rest)) = up_to (decide block) whole (4 + used block)
up_to_inside decide used whole (Err flaw) = whole

abbrev pub used_inside : {E A : Type 0} → (List ℕ → Result A E) → (List ℕ → ℕ) → List ℕ → ℕ
used_inside decide used bytes = up_to_inside decide used (string.used bytes) (string.read bytes)

-- how many bytes of a row there are up to the end of what is refused, in at most so many items
abbrev pub used_within : {E A : Type 0} → Grammar E A → ℕ → List ℕ → ℕ
used_within G zero bytes = 0
used_within G (suc most) [] = 0
used_within G (suc most) (b ∷ bytes) =
    used_then (G.read (b ∷ bytes)) (G.used (b ∷ bytes)) (λ first. used_within G most first.1)

unfoldable pub used_row : {E A : Type 0} → Grammar E A → List ℕ → ℕ
used_row G bytes = used_within G (length bytes) bytes
