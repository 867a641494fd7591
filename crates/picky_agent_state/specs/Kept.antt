-- What an agent keeps, and the state of the machine that it is.
use Rattle.std.specs.Prelude.{ℕ, Bool, List, [], Option, None, is_some}
use Rattle.picky_agent_state.specs.declared.identity.Identity.{Identity}

-- private keys with their comments, in order; and the passphrase, where the agent is locked
pub record Kept : Type 0 where
  pub identities : List Identity
  pub pass : Option (List ℕ)

-- a new agent has no identities and is unlocked
abbrev pub new_agent : Kept
new_agent = record { identities = []; pass = None }

abbrev pub is_locked : Kept → Bool
is_locked kept = is_some kept.pass

-- the machine keeps that, and how many calls of the signer failed
pub record Machine : Type 0 where
  pub kept : Kept
  pub faults : ℕ

abbrev pub machine : Kept → (faults : ℕ) → Machine
machine kept faults = record { kept = kept; faults = faults }
