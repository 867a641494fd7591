-- No line so far is refused.
use Rattle.std.proofs.Common.{◌≡◌, None, map, take}
use Rattle.picky_inventory.specs.ItemLine.{is_item_line}
use Rattle.picky_inventory.specs.OrderedText.{first_bad}
use Rattle.picky_inventory.proofs.bad_lines.first_bad.Given as goal

abbrev pub invariant-lines : goal.invariant-lines
invariant-lines l = first_bad is_item_line l.from None (map (λ line. line.now) (take l.i l.lines)) ≡ None
