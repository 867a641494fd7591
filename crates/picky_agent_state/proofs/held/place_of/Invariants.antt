-- None of those before has the key.
use Rattle.std.proofs.Common.{take}
use Rattle.picky_keys.specs.View.{key_seen}
use Rattle.picky_agent_state.specs.Held.{HasNone}
use Rattle.picky_agent_state.proofs.held.place_of.Given as goal

abbrev pub invariant-loop-place : goal.invariant-loop-place
invariant-loop-place l = HasNone (key_seen l.key) (take l.place l.identities)
