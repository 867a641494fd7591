-- A line that is taken goes behind the others.
use Rattle.picky_kv.specs.Joined.{joined_text}
use Rattle.picky_kv.proofs.BlockLemmas.{one_line_more}
use Rattle.picky_kv.proofs.counted.take_counted.Goals as goal

pub lines-preserved : goal.lines-preserved
lines-preserved c =
    let way = rw c.in-Some.ensures.line at c.lines.invariant in
    rw c.in_ok-push-in-Some.ensures.behind (one_line_more c.args.count c.lines.counter c.args.lines.now
    (joined_text c.lines.block) c.in-Some.line.now c.next_line.new.self c.lines-test.true way)
