-- The lines of both, in order, joined.
use Rattle.std.proofs.Common.{◌∙◌, ℕ, Global, Vec, ap, flat_map}
use Rattle.picky_inventory.proofs.TextLaws.{merged_by}
use Rattle.picky_inventory.proofs.merging.merge_texts.Goals as goal

pub returns-in-Ok : goal.returns-in-Ok
returns-in-Ok c =
    let see = λ (line : Vec ℕ Global). line.items in
    merged_by see c.new-lines.result.items c.add_lines.new.lines.items c.add_lines-2.new.lines.items
    c.sorted_lines-lines.result.items c.args.left.now c.args.right.now c.in-Ok.text.items c.new-lines.ensures.items
    c.in_ok-add_lines.ensures c.in_ok-add_lines-2.ensures c.sorted_lines-lines.ensures
    (c.in-Ok.ensures ∙ ap (flat_map see) c.as_slice.ensures.value)
