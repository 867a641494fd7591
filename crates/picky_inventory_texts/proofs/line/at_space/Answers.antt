-- A cut at the first such byte.
use Rattle.std.proofs.Common.{arith}
use Rattle.std.proofs.lemmas.Str.Pattern.{split_parts}
use Rattle.picky_inventory.proofs.ItemLineLaws.{cut_by_split}
use Rattle.picky_inventory_texts.proofs.line.at_space.Goals as goal

pub returns : goal.returns
returns c =
    cut_by_split 32 c.args.text.now c.split_once.result
    (split_parts 32 c.args.text.now c.split_once.result c.split_once.ensures.cases (omega arith))
