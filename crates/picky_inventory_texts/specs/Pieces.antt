-- An inventory of texts that is checked piece by piece.
use Rattle.std.specs.Prelude.{ℕ, List, [], ◌∷◌, Option, Some, None, Result, Ok, Err}
use Rattle.picky_wire_base.specs.Outcome.{and_then}
use Rattle.picky_issuing.specs.Parts.{lines_with_ends}
use Rattle.picky_inventory.specs.Merging.{or_empty}
use Rattle.picky_inventory.specs.OrderedText.{first_bad, last_before}
use Rattle.picky_inventory_texts.specs.Listed.{is_listed_line}
use Rattle.picky_inventory_texts.specs.Merging.{utf8_or}
use Rattle.picky_inventory_texts.specs.declared.piece.CheckError.{CheckError}
use Rattle.picky_inventory_texts.specs.declared.piece.CheckError.TheVariants.{NotUtf8, BadLine}

-- the line before a piece; no bytes are none
abbrev pub line_given : (before : List ℕ) → Option (List ℕ)
line_given [] = None
line_given (b ∷ more) = Some (b ∷ more)

abbrev pub unless_bad : Option ℕ → (last : List ℕ) → Result (List ℕ) CheckError
unless_bad None last = Ok last
unless_bad (Some line) last = Err (BadLine line)

-- the last line of a piece, which is the one before the next; or the number of its first line that is no listed key's or isn't
-- greater than the one before it
abbrev pub checked : (piece before : List ℕ) → Result (List ℕ) CheckError
checked piece before =
    and_then (utf8_or NotUtf8 piece) (λ piece.
    unless_bad (first_bad is_listed_line 1 (line_given before) (lines_with_ends piece))
    (or_empty (last_before (line_given before) (lines_with_ends piece))))

-- pieces one after another, each behind the last line of those before it
abbrev pub all_checked : (pieces : List (List ℕ)) (before : List ℕ) → Result (List ℕ) CheckError
all_checked [] before = Ok before
all_checked (piece ∷ pieces) before = and_then (checked piece before) (λ last. all_checked pieces last)
