-- The lines found so far, and those of what is left, are the text's.
use Rattle.std.proofs.Common.{◌≡◌, ◌++◌, length, map}
use denote.Text.{Utf8}
use denote.Shadow.{shadow}
use Rattle.picky_issuing.specs.Parts.{lines_with_ends}
use Rattle.picky_inventory.proofs.ended.ended_lines.Given as goal

abbrev pub invariant-lines : goal.invariant-lines
invariant-lines l =
    shadow (Utf8 l.rest) × (map (λ line. line.now) l.found.items ++ lines_with_ends l.rest ≡ lines_with_ends l.text)

abbrev pub decreases-lines : goal.decreases-lines
decreases-lines l = length l.rest
