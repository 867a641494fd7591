-- What a call that writes to a sink answers, and what it leaves.
use Rattle.std.specs.Prelude.{◌≡◌, ◌<◌, ◌++◌, ℕ, List, take, length, Result, Ok, Err, IfErr, OnOk}
use Rattle.picky_wire.specs.Count.{Rose}

-- the whole piece was appended; or, for an error, a front of it and not the whole
abbrev pub Writes : {A E : Type 0} → Result A E → List ℕ → List ℕ → List ℕ → Type 0
Writes (Ok x) piece before after = after ≡ before ++ piece
Writes (Err e) piece before after = (n : ℕ) × (after ≡ before ++ take n piece) × (n < length piece)

-- what a call promises that writes these bytes: its one error is a fault that was counted
pub record Puts {S A E : Type 0} (tells : S → Type 0) (written : S → List ℕ) (faults : S → ℕ)
    (fault : E) (piece : List ℕ) (result : Result A E) (old new : S) : Type 0 where
  pub writes : tells old → Writes result piece (written old) (written new)
  pub cause : IfErr result (λ e. (e ≡ fault) × Rose (faults old) (faults new))
  pub calm : OnOk result (faults new ≡ faults old)
  pub told : tells old → tells new
