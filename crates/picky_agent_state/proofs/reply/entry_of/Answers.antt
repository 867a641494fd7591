-- The parts are short.
use Rattle.std.proofs.Common.{◌∙◌}
use Rattle.picky_agent_state.proofs.EntryLemmas.{parts_short}
use Rattle.picky_agent_state.proofs.reply.entry_of.Goals as goal

pub strings_of-requires : goal.strings_of-requires
strings_of-requires c = parts_short c.args.identity.now c.as_slice.result.now c.requires (c.as_slice.ensures.value ∙ c.in_ok-blob.ensures)
