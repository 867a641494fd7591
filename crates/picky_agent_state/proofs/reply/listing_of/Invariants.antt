-- The head, and the entries so far.
use Rattle.std.proofs.Common.{◌≡◌, ◌++◌, ◌∷◌, length, take}
use Rattle.std.specs.Int.{w32, to_be_bytes}
use Rattle.std.specs.List.{concat}
use Rattle.picky_agent_state.proofs.reply.listing_of.Given as goal

abbrev pub invariant-entries : goal.invariant-entries
invariant-entries l = l.reply.items ≡ 12 ∷ to_be_bytes w32 (length l.entries) ++ concat (take l.entry-index l.entries)
