-- The two parts of a source: the issuer's text, a line that is exactly `%%`, and the key text.
use Rattle.std.specs.Prelude.{◌≡◌, ◌≢◌, ◌⊎◌, ◌-◌, ◌==◌, ◌||◌, ℕ, Bool, List, [], ◌∷◌, ◌++◌, length, slice_index}
use Rattle.std.specs.Prelude.{Option, Some, None, if◌then◌else◌, bytes_eq, codes}
use Rattle.std.specs.List.{AllByRecursion, concat, onto_first}
use Rattle.picky_text.specs.Lines.{lines}

-- the mark is `%%`
abbrev pub mark_word : List ℕ
mark_word = codes "%%"

-- its line, where LF ends that
abbrev pub mark_lf : List ℕ
mark_lf = codes "%%" ++ 10 ∷ []

-- and where CR LF does
abbrev pub mark_cr_lf : List ℕ
mark_cr_lf = codes "%%" ++ 13 ∷ 10 ∷ []

-- a line, with the LF that ends it, is the mark's; without LF it is the last, and ends with the text
abbrev pub is_mark : List ℕ → Bool
is_mark line = bytes_eq line mark_word || bytes_eq line mark_lf || bytes_eq line mark_cr_lf

-- the lines of a text, each with the LF that ends it: only the last may have none
abbrev pub lines_with_ends : List ℕ → List (List ℕ)
lines_with_ends [] = []
lines_with_ends (b ∷ bs) =
    if b == 10 then (10 ∷ []) ∷ lines_with_ends bs else onto_first b (lines_with_ends bs)

-- where the text after a line is cut, the line is the issuer's too
abbrev pub with_issuer_line : List ℕ → Option (List ℕ × List ℕ) → Option (List ℕ × List ℕ)
with_issuer_line line None = None
with_issuer_line line (Some parts) = Some (line ++ parts.0, parts.1)

-- the lines before the first that is the mark's, and those after it
abbrev pub cut_lines : List (List ℕ) → Option (List ℕ × List ℕ)
cut_lines [] = None
cut_lines (line ∷ more) =
    if is_mark line then Some ([], concat more) else with_issuer_line line (cut_lines more)

-- the issuer's text and the key text, where a line is the mark's
abbrev pub cut : List ℕ → Option (List ℕ × List ℕ)
cut text = cut_lines (lines_with_ends text)

-- the issuer's text of a cut
abbrev pub issuer_text_of : Option (List ℕ × List ℕ) → Option (List ℕ)
issuer_text_of None = None
issuer_text_of (Some parts) = Some parts.0

-- the key text of a cut, and the whole text where there is none
abbrev pub key_text_of_cut : List ℕ → Option (List ℕ × List ℕ) → List ℕ
key_text_of_cut text None = text
key_text_of_cut text (Some parts) = parts.1

-- the issuer's text of a source: none where no line is the mark's
abbrev pub issuer_text_part : List ℕ → Option (List ℕ)
issuer_text_part text = issuer_text_of (cut text)

-- its key text: all of it where no line is the mark's
abbrev pub key_part : List ℕ → List ℕ
key_part text = key_text_of_cut text (cut text)

-- no line of a text is exactly `%%`
abbrev pub HasNoMark : List ℕ → Type 0
HasNoMark text = AllByRecursion (λ line. line ≢ mark_word) (lines text)

-- a text is the issuer's text, then its first line that is exactly the mark, then the key text
pub record IsCut (text issuer key : List ℕ) : Type 0 where
  pub mark : List ℕ
  pub is_mark : (mark ≡ mark_lf) ⊎ ((mark ≡ mark_cr_lf) ⊎ ((mark ≡ mark_word) × (key ≡ [])))
  pub whole : text ≡ issuer ++ mark ++ key
  pub ended : (issuer ≡ []) ⊎ (slice_index issuer (length issuer - 1) ≡ 10)
  pub first : HasNoMark issuer
