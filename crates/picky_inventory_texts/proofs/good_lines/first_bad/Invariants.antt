-- No line so far is refused.
use Rattle.std.proofs.Common.{◌≡◌, None, map, take}
use Rattle.std.specs.Option.{option_copied}
use Rattle.picky_inventory.specs.OrderedText.{first_bad}
use Rattle.picky_inventory_texts.specs.Listed.{is_listed_line}
use Rattle.picky_inventory_texts.proofs.good_lines.first_bad.Given as goal

abbrev pub invariant-lines : goal.invariant-lines
invariant-lines l =
    first_bad is_listed_line l.from (option_copied l.before) (map (λ line. line.now) (take l.i l.lines)) ≡ None
