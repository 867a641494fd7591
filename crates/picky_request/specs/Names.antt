-- The names in a request line: its id, and its principals.
use Rattle.std.specs.Prelude.{◌≡◌, ◌≢◌, ◌<◌, ◌⊎◌, ◌&&◌, ◌==◌, ℕ, Bool, List, [], ◌∷◌, ◌++◌, length, not}
use Rattle.std.specs.Prelude.{Option, Some, None, bytes_eq, codes, if◌then◌else◌}
use Rattle.std.specs.Char.{is_whitespace}
use Rattle.std.specs.List.{list_all, list_any, slice_split}
use Rattle.std.specs.Str.{chars}
use Rattle.picky_text.specs.Lines.{HasNo}

-- one or more characters, none of which is white space of Unicode
abbrev pub is_id : List ℕ → Bool
is_id id = not (length id == 0) && not (list_any is_whitespace (chars id))

-- the word for no principals
unfoldable pub no_principals : List ℕ
no_principals = codes "-"

-- ---- what the word of principals says

-- names = name *( "," name )
abbrev pub AreNames : (text : List ℕ) → List (List ℕ) → Type 0
AreNames text [] = ⊥
AreNames text (name ∷ []) = (text ≡ name) × (0 < length name) × HasNo 44 name
AreNames text (name ∷ next ∷ more) =
    (rest : List ℕ) × (text ≡ name ++ 44 ∷ rest) × (0 < length name) × HasNo 44 name × AreNames rest (next ∷ more)

-- a dash for none, and else one name or more
abbrev pub ArePrincipals : (text : List ℕ) → List (List ℕ) → Type 0
ArePrincipals text names = ((text ≡ no_principals) × (names ≡ [])) ⊎ ((text ≢ no_principals) × AreNames text names)

-- ---- the principals of a word

abbrev pub is_comma : ℕ → Bool
is_comma b = b == 44

-- the names between the commas, where none is empty
abbrev pub if_full : List (List ℕ) → Option (List (List ℕ))
if_full names = if list_all (λ name. not (length name == 0)) names then Some names else None

unfoldable pub principals_in : (text : List ℕ) → Option (List (List ℕ))
principals_in text = if bytes_eq text no_principals then Some [] else if_full (slice_split is_comma text)
