-- What holds of each state that an agent can have.
use Rattle.std.specs.Prelude.{◌≤◌, ◌<◌, ◌^◌, ℕ, List, length, All, Option, None, Some}
use Rattle.picky_keys.specs.Key.{IsText}
use Rattle.picky_sshkey_blob.specs.Key.{IsPrivateKey}
use Rattle.picky_agent_state.specs.declared.identity.Identity.{Identity}
use Rattle.picky_agent_state.specs.Kept.{Kept}
use Rattle.picky_agent_state.specs.Rows.{most_identities}

-- a private key and a text
pub record IsIdentity (identity : Identity) : Type 0 where
  pub key : IsPrivateKey identity.key
  pub comment : IsText identity.comment

-- a string can have the passphrase
abbrev pub IsPass : Option (List ℕ) → Type 0
IsPass None = Unit {0}
IsPass (Some pass) = length pass < 2 ^ 32

pub record IsState (kept : Kept) : Type 0 where
  pub few : length kept.identities ≤ most_identities
  pub are : All IsIdentity kept.identities
  pub pass : IsPass kept.pass
