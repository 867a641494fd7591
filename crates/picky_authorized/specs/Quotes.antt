-- Quotes in a line of authorized keys (sshd(8), "AUTHORIZED_KEYS FILE FORMAT"): what stands between them, and the parts outside.
use Rattle.std.specs.Prelude.{◌≡◌, ◌==◌, ◌||◌, ◌&&◌, ℕ, Bool, true, false, not, List, [], ◌∷◌, ◌++◌, length, drop}
use Rattle.std.specs.Prelude.{if◌then◌else◌}
use Rattle.std.specs.List.{onto_first}
use Rattle.picky_authorized.specs.declared.quotes.PartEnd.{PartEnd}
use Rattle.picky_authorized.specs.declared.quotes.PartEnd.TheVariants.{Blank, Comma}

-- a space or a tab
abbrev pub is_blank : ℕ → Bool
is_blank b = b == 32 || b == 9

-- the options end at a space or a tab, and one option ends at a comma
abbrev pub ends_at : PartEnd → ℕ → Bool
ends_at Blank b = is_blank b
ends_at Comma b = b == 44

-- a quote opens or closes, unless a backslash stands right before it
abbrev pub turns : (before b : ℕ) → Bool
turns before b = b == 34 && not (before == 92)

-- whether what follows a byte stands between quotes
abbrev pub quoted_behind : (quoted : Bool) (before b : ℕ) → Bool
quoted_behind quoted before b = if turns before b then not quoted else quoted

-- whether what follows a text does
abbrev pub quoted_after : (quoted : Bool) (before : ℕ) → List ℕ → Bool
quoted_after quoted before [] = quoted
quoted_after quoted before (b ∷ bs) = quoted_after (quoted_behind quoted before b) b bs

-- a quote of the text opened and didn't close
abbrev pub is_quoted : List ℕ → Bool
is_quoted text = quoted_after false 0 text

-- the longest front in which each such byte stands between quotes, and what follows it
pub record IsFront (ends : ℕ → Bool) (text front rest : List ℕ) : Type 0 where
  pub whole : text ≡ front ++ rest
  pub between : (before after : List ℕ) (b : ℕ) → front ≡ before ++ b ∷ after → ends b ≡ true → is_quoted before ≡ true
  pub longest : (b : ℕ) (after : List ℕ) → rest ≡ b ∷ after → (ends b ≡ true) × (is_quoted front ≡ false)

-- what stands before the first byte that ends it outside quotes
abbrev pub front_from : (ends : ℕ → Bool) (quoted : Bool) (before : ℕ) → List ℕ → List ℕ
front_from ends quoted before [] = []
front_from ends quoted before (b ∷ bs) =
    if ends b && not quoted then [] else b ∷ front_from ends (quoted_behind quoted before b) b bs

unfoldable pub front_outside : (ends : ℕ → Bool) → List ℕ → List ℕ
front_outside ends text = front_from ends false 0 text

-- that byte, and what follows it
unfoldable pub rest_outside : (ends : ℕ → Bool) → List ℕ → List ℕ
rest_outside ends text = drop (length (front_outside ends text)) text

-- the parts between such bytes; each begins outside quotes
abbrev pub parts_from : (ends : ℕ → Bool) (quoted : Bool) (before : ℕ) → List ℕ → List (List ℕ)
parts_from ends quoted before [] = [] ∷ []
parts_from ends quoted before (b ∷ bs) =
    if ends b && not quoted then [] ∷ parts_from ends false 0 bs
    else onto_first b (parts_from ends (quoted_behind quoted before b) b bs)

unfoldable pub parts_outside : (ends : ℕ → Bool) → List ℕ → List (List ℕ)
parts_outside ends text = parts_from ends false 0 text
