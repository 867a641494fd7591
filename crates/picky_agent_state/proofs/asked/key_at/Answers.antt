-- A string that is cut, or begins with no key.
use Rattle.std.proofs.Common.{drop}
use Rattle.picky_wire_base.specs.View.{part_bytes, why_of}
use Rattle.picky_agent_state.proofs.AskedLemmas.{key_is_cut, key_is_refused}
use Rattle.picky_agent_state.proofs.asked.key_at.Goals as goal

pub returns-in-Err : goal.returns-in-Err
returns-in-Err c = key_is_cut (drop c.args.from c.args.contents.now) (why_of c.in-Err.stuck) c.in-Err.ensures.sees

pub returns-in-Err-read : goal.returns-in-Err-read
returns-in-Err-read c =
    key_is_refused (drop c.args.from c.args.contents.now) (part_bytes c.in-Ok.found.0) (drop c.in-Ok.found.1 c.args.contents.now)
    (why_of c.in-Err-read.stuck) c.in-Ok.ensures.sees c.in-Err-read.ensures.seen.sees
