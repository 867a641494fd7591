-- The quoting of a PuTTY public key's comment (RFC 4716, section 3.3.2, with PuTTY's backslashes).
use Rattle.std.specs.Prelude.{List, [], ◌∷◌, ℕ, Bool, ◌==◌, ◌||◌, ◌&&◌, if◌then◌else◌}

-- a backslash or a quote
abbrev pub is_special : ℕ → Bool
is_special b = b == 92 || b == 34

-- a backslash stands before each backslash and quote
abbrev pub quote : List ℕ → List ℕ
quote [] = []
quote (b ∷ bs) = if is_special b then 92 ∷ b ∷ quote bs else b ∷ quote bs

-- a backslash before a backslash or a quote is left out, and each other byte stands for itself
abbrev pub unquote : List ℕ → List ℕ
unquote [] = []
unquote (b ∷ []) = b ∷ []
unquote (b ∷ c ∷ bs) = if b == 92 && is_special c then c ∷ unquote bs else b ∷ unquote (c ∷ bs)
