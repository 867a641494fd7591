-- One line more, which is good or the first that isn't.
use Rattle.std.proofs.Common.{◌≡◌, ◌<◌, ◌&&◌, ◌∙◌, ℕ, true, false, Bor, List, [], Option, ap, arith, get_or, length, map, sym, take}
use Rattle.std.specs.Option.{option_copied}
use Rattle.picky_inventory.specs.OrderedText.{follows, last_before}
use Rattle.picky_inventory_texts.specs.Listed.{is_listed_line}
use Rattle.picky_inventory_texts.proofs.GoodLineLemmas.{bad_here, good_here}
use Rattle.picky_inventory_texts.proofs.good_lines.first_bad.Goals as goal

pub returns-then-not-branch : goal.returns-then-not-branch
returns-then-not-branch c =
    let see = λ (line : Bor (List ℕ)). line.now in
    let d : Bor (List ℕ) = record { ref_ptr = (0, 0); now = [] } in
    let before : Option (List ℕ) = option_copied c.args.before in
    let line : List ℕ = see (get_or c.args.lines.now c.lines.i d) in
    let below : c.lines.i < length c.args.lines.now = omega arith in
    let bad : (is_listed_line line && follows (last_before before (map see (take c.lines.i c.args.lines.now))) line) ≡ false =
    ap (λ b. is_listed_line line && follows b line) (sym c.line_before.ensures) ∙ sym c.in_ok-is_good.ensures
    ∙ c.if-not-branch.true in
    bad_here see before c.args.lines.now c.lines.i d below is_listed_line c.args.from c.lines.invariant bad

pub lines-preserved : goal.lines-preserved
lines-preserved c =
    let see = λ (line : Bor (List ℕ)). line.now in
    let d : Bor (List ℕ) = record { ref_ptr = (0, 0); now = [] } in
    let before : Option (List ℕ) = option_copied c.args.before in
    let line : List ℕ = see (get_or c.args.lines.now c.lines.i d) in
    let below : c.lines.i < length c.args.lines.now = omega arith in
    let good : (is_listed_line line && follows (last_before before (map see (take c.lines.i c.args.lines.now))) line) ≡ true =
    ap (λ b. is_listed_line line && follows b line) (sym c.line_before.ensures) ∙ sym c.in_ok-is_good.ensures
    ∙ c.if-not-branch.false in
    good_here see before c.args.lines.now c.lines.i d below is_listed_line c.args.from c.lines.invariant good
