-- What a layout is: which bytes spell which value, and how the value in front is read.
use Rattle.std.specs.Prelude.{◌≡◌, List, ℕ, ◌+◌, ◌++◌, length, Result, Ok}

-- the bytes begin with a piece that spells the value, and the rest follows
abbrev pub Fits : {A : Type 0} → (A → List ℕ → Type 0) → A → List ℕ → List ℕ → Type 0
Fits piece value bytes rest = (front : List ℕ) × piece value front × (bytes ≡ front ++ rest)

-- a kind of field, or a whole layout
pub record Grammar (E A : Type 0) : Type 1 where
  -- these bytes spell this value
  pub piece : A → List ℕ → Type 0
  -- the value that is spelled in front and what follows it, or the first reason why none is
  pub read : List ℕ → Result (A × List ℕ) E
  -- how many bytes that value takes; where none is read, how many there are, or would be, up to the end
  -- of the field that is refused
  pub used : List ℕ → ℕ
  pub sound : (bytes : List ℕ) (value : A) (rest : List ℕ)
      → read bytes ≡ Ok (value, rest) → Fits piece value bytes rest
  pub complete : (value : A) (front rest : List ℕ)
      → piece value front → read (front ++ rest) ≡ Ok (value, rest)
  pub takes : (bytes : List ℕ) (value : A) (rest : List ℕ)
      → read bytes ≡ Ok (value, rest) → length bytes ≡ used bytes + length rest

-- two pieces in front of the same bytes are one piece, which spells one value
pub record OneFront {A : Type 0} (v w : A) (a b x y : List ℕ) : Type 0 where
  pub value : v ≡ w
  pub front : a ≡ b
  pub rest : x ≡ y
