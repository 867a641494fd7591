-- Two inventories of texts, merged.
use Rattle.std.specs.Prelude.{◌+◌, ℕ, List, length, Option, Some, None, Result, Ok, Err, if◌then◌else◌}
use Rattle.std.specs.List.{AllByRecursion}
use Rattle.std.specs.List.Sorted.{IsStrictlySortedBy}
use Rattle.std.specs.Str.{is_utf8}
use Rattle.picky_wire_base.specs.Outcome.{and_then}
use Rattle.picky_issuing.specs.Parts.{lines_with_ends}
use Rattle.picky_inventory.specs.BadLine.{or_else}
use Rattle.picky_inventory.specs.InOrder.{line_cmp}
use Rattle.picky_inventory.specs.OrderedText.{first_bad, merged}
use Rattle.picky_inventory_texts.specs.Listed.{IsListedLine, is_listed_line}
use Rattle.picky_inventory_texts.specs.declared.merging.MergeError.{MergeError}
use Rattle.picky_inventory_texts.specs.declared.merging.MergeError.TheVariants.{LeftNotUtf8, RightNotUtf8, BadLine}

-- each line is a listed key's, so it has its LF, and is greater than the one before it
pub record IsListing (text : List ℕ) : Type 0 where
  pub lines : AllByRecursion IsListedLine (lines_with_ends text)
  pub sorted : IsStrictlySortedBy line_cmp (lines_with_ends text)

-- bytes that are UTF-8, or why they are none
abbrev pub utf8_or : {E : Type 0} → E → List ℕ → Result (List ℕ) E
utf8_or e bytes = if is_utf8 bytes then Ok bytes else Err e

-- the first bad line of a text whose lines are counted on from n
abbrev pub bad_from : (n : ℕ) (text : List ℕ) → Option ℕ
bad_from n text = first_bad is_listed_line n None (lines_with_ends text)

-- that of two texts, counted from 1 over the one and then the other; each begins anew
abbrev pub bad_line : (left right : List ℕ) → Option ℕ
bad_line left right = or_else (bad_from 1 left) (bad_from (1 + length (lines_with_ends left)) right)

abbrev pub unless_bad : Option ℕ → (written : List ℕ) → Result (List ℕ) MergeError
unless_bad None written = Ok written
unless_bad (Some line) written = Err (BadLine line)

-- two inventories, merged, or the first reason why they aren't
abbrev pub merging : (left right : List ℕ) → Result (List ℕ) MergeError
merging left right =
    and_then (utf8_or LeftNotUtf8 left) (λ left.
    and_then (utf8_or RightNotUtf8 right) (λ right.
    unless_bad (bad_line left right) (merged left right)))
