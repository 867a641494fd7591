-- A row of values: pieces of one layout joined, with nothing between or after them.
use Rattle.std.specs.Prelude.{◌≡◌, List, [], ◌∷◌, ℕ, zero, suc, ◌++◌, ◌<◌, length, Result, Ok}
use Rattle.picky_wire_base.specs.Outcome.{and_then}
use Rattle.picky_wire_base.specs.Grammar.{Grammar}

-- each piece has at least one byte
abbrev pub Solid : {A : Type 0} → (A → List ℕ → Type 0) → Type 0
Solid {A} piece = (v : A) (bytes : List ℕ) → piece v bytes → 0 < length bytes

-- the bytes are a piece of each value, in order
abbrev pub Row : {A : Type 0} → (A → List ℕ → Type 0) → List A → List ℕ → Type 0
Row piece [] bytes = bytes ≡ []
Row piece (v ∷ vs) bytes =
    (x : List ℕ) × (y : List ℕ) × piece v x × Row piece vs y × (bytes ≡ x ++ y)

-- one more value in front
abbrev pub after : {E A : Type 0} → A → Result (List A) E → Result (List A) E
after v r = and_then r (λ vs. Ok (v ∷ vs))

-- at most so many values from the front on
abbrev pub read_within : {E A : Type 0} → Grammar E A → ℕ → List ℕ → Result (List A) E
read_within G zero bytes = Ok []
read_within G (suc most) [] = Ok []
read_within G (suc most) (b ∷ bytes) =
    and_then (G.read (b ∷ bytes)) (λ first. after first.0 (read_within G most first.1))

-- the values whose pieces the bytes are, or the reason of the first place where no piece stands
unfoldable pub read_all : {E A : Type 0} → Grammar E A → List ℕ → Result (List A) E
read_all G bytes = read_within G (length bytes) bytes
