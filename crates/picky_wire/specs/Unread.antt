-- A string that is longer than what is known to be left.
use Rattle.std.specs.Prelude.{◌≡◌, ◌<◌, ◌≤◌, ◌+◌, ◌⊎◌, ℕ, List, Option, IsSome, drop, length, Result, Err}
use Rattle.picky_wire_base.specs.Short.{EndsInString}
use Rattle.picky_wire.specs.Takes.{Causes}

-- the length is there, and the source knows that fewer bytes are left than it says
pub record IsKnownShort (known : Option ℕ) (bytes : List ℕ) : Type 0 where
  pub knows : IsSome known
  pub length_is_there : 4 ≤ length bytes
  pub ends : EndsInString bytes

-- such a string is answered as short, with its four bytes of length taken and no more; unless the source
-- failed inside them
abbrev pub LeavesUnread : {A E : Type 0} → Causes E → Result A E → List ℕ → List ℕ → Type 0
LeavesUnread causes result before after =
    ((result ≡ Err causes.short) × (after ≡ drop 4 before))
    ⊎ ((result ≡ Err causes.fault) × (length before < 4 + length after))

-- what a call that reads a string promises of one that is known to be short
abbrev pub Unread : {S A E : Type 0} → (S → Type 0) → (S → List ℕ) → (S → Option ℕ) → Causes E → Result A E → S → S
    → Type 0
Unread tells left known causes result old new =
    tells old → IsKnownShort (known old) (left old) → LeavesUnread causes result (left old) (left new)
