-- What a source of two inventories gives: the lines of both, or the number of the first that is bad.
use Rattle.std.specs.Prelude.{ℕ, List, [], Option, Some, None, Result, Ok, Err}
use Rattle.picky_issuing.specs.Parts.{issuer_text_part, key_part}
use Rattle.picky_inventory.specs.BadLine.{bad_line}
use Rattle.picky_inventory.specs.OrderedText.{merged}
use Rattle.picky_inventory.specs.declared.merging.Unmerged.{Unmerged}
use Rattle.picky_inventory.specs.declared.merging.Unmerged.TheVariants.{BadLine}

abbrev pub or_empty : Option (List ℕ) → List ℕ
or_empty None = []
or_empty (Some text) = text

-- what stands before the first line that is exactly `%%`; nothing where there is none
abbrev pub left_part : (text : List ℕ) → List ℕ
left_part text = or_empty (issuer_text_part text)

-- what follows that line; all of it where there is none
abbrev pub right_part : (text : List ℕ) → List ℕ
right_part text = key_part text

abbrev pub unless_bad : Option ℕ → (written : List ℕ) → Result (List ℕ) Unmerged
unless_bad None written = Ok written
unless_bad (Some line) written = Err (BadLine line)

-- two inventories, merged
abbrev pub merged_or_bad : (left right : List ℕ) → Result (List ℕ) Unmerged
merged_or_bad left right = unless_bad (bad_line left right) (merged left right)

abbrev pub merging : (text : List ℕ) → Result (List ℕ) Unmerged
merging text = merged_or_bad (left_part text) (right_part text)
