-- What a call promises that judges what it was given, may ask a suite, and takes no memory.
use Rattle.std.specs.Prelude.{◌≡◌, ◌⊎◌, Bool, Result, Ok, Err}
use Rattle.picky_suite.specs.Failures.{IsAskedFault}

-- the call answers what the definition says, seen by view; in its place the device's fault may come, where the device was
-- asked and counted one
abbrev pub GivesUnlessFault : {X A E : Type 0} → (fault : E) → (X → A) → Result X E → Result A E → Bool → Type 0 → Type 0
GivesUnlessFault fault view (Ok x) says asked rose = says ≡ Ok (view x)
GivesUnlessFault fault view (Err e) says asked rose = ((e ≡ fault) × IsAskedFault asked rose) ⊎ (says ≡ Err e)
