-- The lines are those of the texts so far.
use Rattle.std.proofs.Common.{◌≡◌, Ok, map, take}
use Rattle.picky_inventory_texts.specs.Texts.{lines_from}
use Rattle.picky_inventory_texts.proofs.listing.lines_of_texts.Given as goal

abbrev pub invariant-texts : goal.invariant-texts
invariant-texts l =
    lines_from l.sealed 0 (take l.i (map (λ text. text.now) l.texts)) ≡ Ok (map (λ line. line.items) l.lines.items)
