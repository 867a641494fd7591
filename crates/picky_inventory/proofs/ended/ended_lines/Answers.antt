-- Each turn cuts off the first line of what is left.
use Rattle.std.proofs.Common.{List, ℕ, Bor, rules}
use Rattle.picky_inventory.proofs.EndedLaws.{no_more_lines, one_more_line}
use Rattle.picky_inventory.proofs.ended.ended_lines.Goals as goal

pub lines-preserved : goal.lines-preserved
lines-preserved c = (
  search rules,
  one_more_line (λ (line : Bor (List ℕ)). line.now) c.lines.found.items c.push.new.self.items c.in-Some.line
      c.lines.rest.now c.in-Some.after.now c.args.text.now c.in-Ok.ensures.items c.lines.invariant.1
      c.in-Some.ensures.line,
)

pub returns : goal.returns
returns c =
    no_more_lines (λ (line : Bor (List ℕ)). line.now) c.lines.found.items c.lines.rest.now c.args.text.now
    c.in_default.ensures.none c.lines.invariant.1
