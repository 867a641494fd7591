-- What a call answers, against what a definition says that it answers.
use Rattle.std.specs.Prelude.{◌≡◌, ◌⊎◌, Result, Ok, Err}

-- the call answers what the definition says, seen by view; want of memory alone may come in its place
abbrev pub Gives : {X A E : Type 0} → E → (X → A) → Result X E → Result A E → Type 0
Gives want view (Ok x) says = says ≡ Ok (view x)
Gives want view (Err e) says = (e ≡ want) ⊎ (says ≡ Err e)
