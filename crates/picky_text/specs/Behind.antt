-- What a text begins with.
use Rattle.std.specs.Prelude.{◌==◌, List, [], ◌∷◌, ℕ, Option, Some, None, if◌then◌else◌}

-- what follows a front
abbrev pub behind : List ℕ → List ℕ → Option (List ℕ)
behind [] text = Some text
behind (c ∷ front) [] = None
behind (c ∷ front) (b ∷ text) = if c == b then behind front text else None
