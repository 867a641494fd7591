-- What was made is short.
use Rattle.std.proofs.Common.{length, arith, ◌<◌}
use Rattle.picky_agent_state.proofs.EntryLemmas.{strings_short}
use Rattle.picky_agent_state.proofs.reply.strings_of.Goals as goal

pub from_vec-requires : goal.from_vec-requires
from_vec-requires c =
    let all = c.push_pieces.new.out in
    let short : length all.items < 4294967296 =
    strings_short c.args.blob.now c.args.comment.now c.in-Ok.entry.items c.string.result c.text.result all.items c.in-Ok.ensures.items
    c.string.ensures.string c.text.ensures.string c.in-Ok-push_pieces.ensures c.requires in
    omega (arith, short, all.ok.0)
