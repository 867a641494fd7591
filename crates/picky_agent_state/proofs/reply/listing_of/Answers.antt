-- One entry more.
use Rattle.std.proofs.Common.{length}
use Rattle.picky_agent_state.proofs.ReplyLemmas.{listed_more}
use Rattle.picky_agent_state.proofs.reply.listing_of.Goals as goal

pub entries-preserved : goal.entries-preserved
entries-preserved c =
    listed_more (length c.args.entries.now) c.args.entries.now c.entries.entry-index c.entry-item.result c.as_slice.result.now
    c.entries.reply.items c.extend_from_slice.new.self.items c.entries-test.true c.entry-item.is c.entries.invariant
    c.as_slice.ensures.bytes c.in-Ok-extend_from_slice.ensures.items
