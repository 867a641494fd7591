-- Answers that are joined: which part an error comes from.
use Rattle.std.specs.Prelude.{◌≡◌, Bool, true, false, if◌then◌else◌, Ok, Err}
use Rattle.std.proofs.Common.{refl}

-- Where a test refuses, its reason is the outcome's.
pub guard_err : {E A : Type 0} (refused : Bool) (e f : E) (x : A)
    → (if refused then Err e else Ok x) ≡ Err f → (refused ≡ true) × (f ≡ e)
guard_err true e f x same = (refl, cc same)
guard_err false e f x same = cc same
