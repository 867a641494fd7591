-- What a call answers, and what it leaves in the caller's buffer.
use Rattle.std.specs.Prelude.{◌≡◌, ◌<◌, ◌≤◌, ◌+◌, ◌++◌, ◌∷◌, List, ℕ, Bool, length, drop, Result, Ok, Err, IfOk}
use Rattle.picky_suite.specs.Asked.{GivesAsked}
use Rattle.picky_c.specs.declared.answer.PickyAnswer.{PickyAnswer}
use Rattle.picky_c.specs.declared.error.PickyError.{PickyError}
use Rattle.picky_c.specs.declared.error.PickyError.TheVariants as errors
use Rattle.picky_c.specs.Number.{error_number}

-- the bytes stand at the front of the buffer and a zero behind them, where it has room for both, and this number is answered; else
-- the buffer is as it was
pub record HandsAs (error : ℕ) (bytes : List ℕ) (answer : PickyAnswer) (old new : List ℕ) : Type 0 where
  pub len : answer.len ≡ length bytes
  pub written : length bytes < length old → (answer.error ≡ error) × (new ≡ bytes ++ (0 ∷ drop (length bytes + 1) old))
  pub too_small : length old ≤ length bytes → (answer.error ≡ error_number errors.BufferTooSmall) × (new ≡ old)

-- the reason's number is answered, and the buffer is as it was
pub record RefusesCall (e : PickyError) (answer : PickyAnswer) (old new : List ℕ) : Type 0 where
  pub number : answer.error ≡ error_number e
  pub len : answer.len ≡ 0
  pub unchanged : new ≡ old

-- what is come to is handed out
abbrev pub Comes : Result (List ℕ) PickyError → PickyAnswer → (old new : List ℕ) → Type 0
Comes (Ok bytes) answer old new = HandsAs 0 bytes answer old new
Comes (Err e) answer old new = RefusesCall e answer old new

-- what is handed out is what the definition says, of which this holds; in its place want of memory may come, or want of a
-- cipher, where one is asked for
pub record AnswersCall (says : Result (List ℕ) PickyError) (asked : Bool) (Means : List ℕ → Type 0) (answer : PickyAnswer)
    (old new : List ℕ) : Type 0 where
  pub outcome : Result (List ℕ) PickyError
  pub handed : Comes outcome answer old new
  pub gives : GivesAsked errors.NoMemory errors.NoCipher (λ bytes. bytes) outcome says asked (Unit {0})
  pub means : IfOk outcome Means
