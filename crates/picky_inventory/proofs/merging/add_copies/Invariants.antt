-- Copies of the texts so far were added.
use Rattle.std.proofs.Common.{◌≡◌, ◌++◌, map, take}
use Rattle.picky_inventory.proofs.merging.add_copies.Given as goal

abbrev pub invariant-lines : goal.invariant-lines
invariant-lines l =
    map (λ line. line.items) l.lines.items
    ≡ map (λ line. line.items) l.fn.lines.items ++ map (λ line. line.now) (take l.line-index l.found)
