-- What the calls of this crate's devices promise about their failures.
use Rattle.std.specs.Prelude.{◌≡◌, ◌↔◌, ℕ, Bool, true, Result, IsErr, OnOk, OnErr}
use Rattle.picky_wire.specs.Count.{Calls, count_one, next_fails, passed, failed}

-- a device's fault is answered only where the device was asked, which is judged first, and counted one
abbrev pub IsAskedFault : Bool → Type 0 → Type 0
IsAskedFault asked rose = (asked ≡ true) × rose

-- the call always fails, and is counted; the count is all that there is
pub record AlwaysFails {A E : Type 0} (result : Result A E) (old new : ℕ) : Type 0 where
  pub fails : IsErr result
  pub counts : new ≡ count_one old

-- the call fails exactly where its number is listed, and is counted
pub record FailsAsListed {A E : Type 0} (result : Result A E) (old new : Calls) : Type 0 where
  pub fails : IsErr result ↔ (next_fails old ≡ true)
  pub moves : OnOk result (new ≡ passed old)
  pub counts : OnErr result (new ≡ failed old)
