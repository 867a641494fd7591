-- The parts found so far, and those of what is left, are the text's.
use Rattle.std.proofs.Common.{◌≡◌, ◌++◌, length, map}
use denote.Text.{Utf8}
use denote.Shadow.{shadow}
use Rattle.picky_inventory.specs.Parted.{text_parts}
use Rattle.picky_inventory.proofs.parted.parts.Given as goal

abbrev pub invariant-parts : goal.invariant-parts
invariant-parts l =
    shadow (Utf8 l.rest) × (map (λ part. part.now) l.found.items ++ text_parts l.rest ≡ text_parts l.text)

abbrev pub decreases-parts : goal.decreases-parts
decreases-parts l = length l.rest
