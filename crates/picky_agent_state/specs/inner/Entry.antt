-- Words of private contracts: an identity whose entry in a list is kept.
use Rattle.std.specs.Prelude.{◌<◌, ◌^◌, length}
use Rattle.picky_agent_state.specs.declared.identity.Identity.{Identity}
use Rattle.picky_agent_state.specs.Reply.{entry}

-- a length of the wire can say the entry's
abbrev pub HasEntry : Identity → Type 0
HasEntry identity = length (entry identity) < 2 ^ 32
