-- A string whose empty form has a meaning of its own, and which else holds a layout.
use Rattle.std.specs.Prelude.{◌≡◌, List, [], ◌∷◌, ℕ, Result, Ok}
use Rattle.picky_wire_base.specs.Narrowed.{Narrowing}

-- no bytes are e, and any others are what P says
abbrev pub EmptyOr : {A : Type 0} → A → (List ℕ → A → Type 0) → List ℕ → A → Type 0
EmptyOr e P [] v = v ≡ e
EmptyOr e P (b ∷ bytes) v = P (b ∷ bytes) v

-- the value that the bytes stand for
abbrev pub decide_empty_or : {E A : Type 0} → A → Narrowing E (List ℕ) A → List ℕ → Result A E
decide_empty_or e M [] = Ok e
decide_empty_or e M (b ∷ bytes) = M.decide (b ∷ bytes)
