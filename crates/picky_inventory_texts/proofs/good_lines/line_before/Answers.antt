-- The last of the lines so far.
use Rattle.std.proofs.Common.{◌∙◌, ℕ, Bor, List, [], Some, ap, arith}
use Rattle.std.specs.Option.{option_copied}
use Rattle.picky_inventory_texts.proofs.GoodLineLemmas.{before_place}
use Rattle.picky_inventory_texts.proofs.good_lines.line_before.Goals as goal

pub returns : goal.returns
returns c =
    ap Some c.as_bytes.ensures.value
    ∙ before_place (λ (line : Bor (List ℕ)). line.now) (option_copied c.args.before) c.args.lines.now c.args.i
    (record { ref_ptr = (0, 0); now = [] }) (omega arith) (omega arith)
