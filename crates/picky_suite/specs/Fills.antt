-- What a call promises that asks the cryptography outside to fill a buffer.
use Rattle.std.specs.Prelude.{◌≡◌, ℕ, List, length, Result, OnOk, OnErr}
use Rattle.picky_wire.specs.Count.{Rose}
use Rattle.picky_suite.specs.Meanings.{Meanings}

-- what the calls mean stays; an Ok puts the wanted bytes into the buffer and leaves the count of faults; a failure
-- counts one fault, and what the buffer holds then is open, but for its length
pub record Fills {S A E : Type 0} (meanings : S → Meanings) (faults : S → ℕ) (wanted : List ℕ)
    (result : Result A E) (buffer filled : List ℕ) (old new : S) : Type 0 where
  pub kept : meanings new ≡ meanings old
  pub value : OnOk result (filled ≡ wanted)
  pub len : length filled ≡ length buffer
  pub counted : OnErr result (Rose (faults old) (faults new))
  pub calm : OnOk result (faults new ≡ faults old)
