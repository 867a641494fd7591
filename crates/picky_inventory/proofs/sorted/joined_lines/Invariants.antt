-- The text of the lines so far.
use Rattle.std.proofs.Common.{◌≡◌, flat_map, take}
use Rattle.picky_inventory.proofs.sorted.joined_lines.Given as goal

abbrev pub invariant-lines : goal.invariant-lines
invariant-lines l = l.text.items ≡ flat_map (λ line. line.items) (take l.line-index l.lines)
