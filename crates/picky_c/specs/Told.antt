-- Bytes that are handed out with a number.
use Rattle.std.specs.Prelude.{List, ℕ, Result, Ok, Err}
use Rattle.std.specs.Fmt.{decimal}
use Rattle.picky_wire_base.specs.Gives.{Gives}
use Rattle.picky_c.specs.Answer.{HandsAs, RefusesCall}
use Rattle.picky_c.specs.Number.{error_number}
use Rattle.picky_c.specs.declared.answer.PickyAnswer.{PickyAnswer}
use Rattle.picky_c.specs.declared.error.PickyError.{PickyError}
use Rattle.picky_c.specs.declared.error.PickyError.TheVariants as errors
use Rattle.picky_c.specs.declared.told.Told.{Told as Owned}

-- bytes, and the number that comes with them
pub record Told : Type 0 where
  pub number : ℕ
  pub bytes : List ℕ

-- the same of a vector
abbrev pub seen : Owned → Told
seen told = record { number = told.number; bytes = told.bytes.items }

-- what was asked for
abbrev pub whole : List ℕ → Told
whole bytes = record { number = 0; bytes = bytes }

-- questions that answers lack
abbrev pub asked : List ℕ → Told
asked bytes = record { number = error_number errors.Asked; bytes = bytes }

-- a reason's number, and that of a line or a place in decimal
abbrev pub numbered : PickyError → ℕ → Told
numbered e number = record { number = error_number e; bytes = decimal number }

-- what is come to is handed out
abbrev pub HandsTold : Result Told PickyError → PickyAnswer → (old new : List ℕ) → Type 0
HandsTold (Ok told) answer old new = HandsAs told.number told.bytes answer old new
HandsTold (Err e) answer old new = RefusesCall e answer old new

-- what is handed out is what the definition says; in its place want of memory may come
pub record AnswersTold (says : Result Told PickyError) (answer : PickyAnswer) (old new : List ℕ) : Type 0 where
  pub outcome : Result Told PickyError
  pub handed : HandsTold outcome answer old new
  pub gives : Gives errors.NoMemory (λ told. told) outcome says
