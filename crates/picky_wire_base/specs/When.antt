-- When a field is refused: the words of the laws on it (RFC 4251, section 5).
use Rattle.std.specs.Prelude.{◌≡◌, ◌↔◌, List, ℕ, ◌++◌, Result, Ok, Err}
use Rattle.picky_wire_base.specs.Flaw.{Flaw, Short}
use Rattle.picky_wire_base.specs.Grammar.{Grammar}
use Rattle.picky_wire_base.specs.Combine.{◌>>=◌}
use Rattle.picky_wire_base.specs.Wire.{string}

-- a field is refused exactly where the bytes end inside it, and for nothing else
pub record IsShortWhere {A : Type 0} (read : List ℕ → Result (A × List ℕ) Flaw)
    (ends : List ℕ → Type 0) : Type 0 where
  pub short : (bytes : List ℕ) → read bytes ≡ Err Short ↔ ends bytes
  pub only : (bytes : List ℕ) (e : Flaw) → read bytes ≡ Err e → e ≡ Short

-- a whole string stands in front, and the fact holds of its bytes
abbrev pub HoldsString : List ℕ → (List ℕ → Type 0) → Type 0
HoldsString bytes fact =
    (v : List ℕ) × (rest : List ℕ) × (string.read bytes ≡ Ok (v, rest)) × fact v

-- no piece is a proper front of another, and one front spells one value
abbrev pub HasOneFront : {A : Type 0} → (A → List ℕ → Type 0) → Type 0
HasOneFront {A = A} piece =
    (v w : A) (a b x y : List ℕ) → piece v a → piece w b → a ++ x ≡ b ++ y → (v ≡ w) × (a ≡ b)

-- one layout, and then the one that its value decides
abbrev pub followed_by : {E A B : Type 0} → Grammar E A → (A → Grammar E B) → Grammar E B
followed_by G H = G >>= H
