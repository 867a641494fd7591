-- The generator that sample keys are drawn from: a linear congruence modulo 2^64, whose bytes are its highest eight bits.
use Rattle.std.specs.Prelude.{List, [], ◌∷◌, ℕ, zero, suc, ◌+◌, ◌*◌, ◌/◌, ◌%◌, ◌^◌}

-- what the state becomes for each next byte
unfoldable pub next : ℕ → ℕ
next s = (s * 6364136223846793005 + 1442695040888963407) % 2 ^ 64

-- the byte of a state
unfoldable pub byte_of : ℕ → ℕ
byte_of s = s / 2 ^ 56

-- the state once so many bytes are drawn
unfoldable pub state_after : ℕ → ℕ → ℕ
state_after zero s = s
state_after (suc more) s = state_after more (next s)

-- so many bytes, one after another
unfoldable pub generated : ℕ → ℕ → List ℕ
generated zero s = []
generated (suc more) s = byte_of (next s) ∷ generated more (next s)
