-- A key and a comment that lie in the message are short.
use Rattle.picky_wire_base.specs.Wire.{text}
use Rattle.picky_wire_base.specs.View.{end_of}
use Rattle.picky_keys.specs.Blob.{key_type}
use Rattle.picky_agent_state.proofs.EntryLemmas.{can_add}
use Rattle.picky_agent_state.proofs.asked.add_at.Goals as goal

pub returns-clause-keeps : goal.returns-clause-keeps
returns-clause-keeps c =
    let contents = c.args.contents.now in
    can_add contents (end_of key_type contents c.args.from) (end_of text contents c.in-Ok.found.1) c.in-Ok.found.0 c.in-Ok-word_at.found.0
    c.requires c.in-Ok.ensures.is_key c.in-Ok.ensures.seen.placed.0 c.in-Ok-word_at.ensures.placed.0
