-- What the laws of the wire say: which bytes are read as which value, and which are refused.
use Rattle.std.specs.Prelude.{◌≡◌, List, ℕ, ◌++◌, Result, Ok, Err}
use Rattle.picky_wire_base.specs.Grammar.{Fits, OneFront}
use Rattle.picky_wire_base.specs.Row.{Row}

-- the bytes are read one way, or refused for one reason
pub record IsReading {E A : Type 0} (read : List ℕ → Result (A × List ℕ) E)
    (piece : A → List ℕ → Type 0) : Type 0 where
  -- the value that is read is spelled in front, and what follows it is left
  pub found : (bytes : List ℕ) (v : A) (rest : List ℕ) → read bytes ≡ Ok (v, rest)
      → Fits piece v bytes rest
  -- a piece is read, whatever follows it
  pub finds : (v : A) (front rest : List ℕ) → piece v front → read (front ++ rest) ≡ Ok (v, rest)
  -- no piece is a proper front of another, and one front spells one value
  pub one_front : (v w : A) (a b x y : List ℕ) → piece v a → piece w b → a ++ x ≡ b ++ y
      → OneFront v w a b x y
  -- where bytes are refused, no front of them is a piece
  pub refused : (bytes : List ℕ) (e : E) → read bytes ≡ Err e → (v : A) (rest : List ℕ)
      → Fits piece v bytes rest → ⊥
  -- where no front is a piece, there is a reason
  pub reason : (bytes : List ℕ) → ((v : A) (rest : List ℕ) → Fits piece v bytes rest → ⊥)
      → (e : E) × (read bytes ≡ Err e)
  -- and it is the one
  pub one_reason : (bytes : List ℕ) (e f : E) → read bytes ≡ Err e → read bytes ≡ Err f → e ≡ f

-- ---- where a list is refused

-- the bytes are spellings of these values, and what follows them, where the type's error stands
pub record IsStuck {E A : Type 0} (reads : List ℕ → Result (A × List ℕ) E)
    (piece : A → List ℕ → Type 0) (bytes : List ℕ) (e : E) : Type 0 where
  pub values : List A
  pub front : List ℕ
  pub rest : List ℕ
  pub spelled : Row piece values front
  pub joined : bytes ≡ front ++ rest
  pub refused : reads rest ≡ Err e
