-- The words of a public key line, as sshd(8) lays it out: a key type, the key in base64, a comment.
use Rattle.std.proofs.Common.{◌≡◌, ℕ, List, ◌∷◌, ◌++◌}
use Rattle.std.specs.Str.{trim_end, is_utf8}
use Rattle.std.specs.Prelude.{List, [], ℕ, Bool, ◌==◌, ◌||◌, slice_index, if◌then◌else◌, Option, Some, None}
use Rattle.std.specs.List.{before_first, after_first, position_or_len}
use Rattle.picky_text.specs.Lines.{HasNo, end_bytes}
use Rattle.picky_text.specs.declared.lines.LineEnd.{LineEnd}

-- a word ends at a space, CR or LF, and a line at CR or LF
abbrev pub ends_word : ℕ → Bool
ends_word b = b == 32 || b == 13 || b == 10

abbrev pub ends_line : ℕ → Bool
ends_line b = b == 13 || b == 10

-- the longest front without a space, CR and LF
unfoldable pub first_word : List ℕ → List ℕ
first_word text = before_first ends_word text

-- what follows the space that ends the first word, and nothing where no space ends it
unfoldable pub behind_word : List ℕ → List ℕ
behind_word text =
    if slice_index text (position_or_len ends_word text) == 32 then after_first ends_word text else []

-- the second word
abbrev pub body_word : List ℕ → List ℕ
body_word text = first_word (behind_word text)

-- the longest front without CR and LF
abbrev pub line_in_front : List ℕ → List ℕ
line_in_front text = before_first ends_line text

-- the same less the white space at its end
unfoldable pub rest_of_line : List ℕ → List ℕ
rest_of_line text = trim_end (line_in_front text)

-- the same again, where the line is UTF-8
unfoldable pub rest_text : List ℕ → Option (List ℕ)
rest_text bytes = if is_utf8 (line_in_front bytes) then Some (rest_of_line bytes) else None

-- what stands after the second word
abbrev pub after_body : List ℕ → List ℕ
after_body text = behind_word (behind_word text)

-- the comment: the rest of the line after the second word
abbrev pub comment_of : List ℕ → List ℕ
comment_of text = rest_of_line (after_body text)

-- the bytes may stand as a word: no space, CR and LF among them
abbrev pub IsWord : List ℕ → Type 0
IsWord bytes = (HasNo 32 bytes) × (HasNo 13 bytes) × (HasNo 10 bytes)

-- what a key line is made of: two words, and a comment with no CR, LF and white space at its end
pub record AreParts (name body comment : List ℕ) : Type 0 where
  pub name_word : IsWord name
  pub body_word : IsWord body
  pub no_cr : HasNo 13 comment
  pub no_lf : HasNo 10 comment
  pub trimmed : trim_end comment ≡ comment

-- what a line is read as
pub record HasParts (line name body comment : List ℕ) : Type 0 where
  pub name_is : first_word line ≡ name
  pub body_is : body_word line ≡ body
  pub line_is : line_in_front (after_body line) ≡ comment
  pub comment_is : comment_of line ≡ comment

-- the line of these parts, a space between them, is read as them, whatever ends and follows it
abbrev pub IsRead : List ℕ → List ℕ → List ℕ → Type 0
IsRead name body comment =
    (end : LineEnd) (more : List ℕ)
    → HasParts (name ++ 32 ∷ body ++ 32 ∷ comment ++ (end_bytes end ++ more)) name body comment
