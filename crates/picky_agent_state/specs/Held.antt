-- Which identity has a key.
use Rattle.std.specs.Prelude.{◌≡◌, ℕ, List, take, Some, slice_get, All}
use Rattle.picky_keys.specs.declared.key.SshBasePublicKey.{SshBasePublicKey}
use Rattle.picky_sshkey_blob.specs.Key.{public_part}
use Rattle.picky_agent_state.specs.declared.identity.Identity.{Identity}

-- an identity has a key where its public part is that key
abbrev pub HasKey : SshBasePublicKey → Identity → Type 0
HasKey key identity = public_part identity.key ≡ key

-- none of them has the key
abbrev pub HasNone : SshBasePublicKey → List Identity → Type 0
HasNone key identities = All (λ identity. HasKey key identity → ⊥) identities

-- the identity at this place has the key, and none before it
pub record IsAt (key : SshBasePublicKey) (identities : List Identity) (place : ℕ) : Type 0 where
  pub identity : Identity
  pub stands : slice_get identities place ≡ Some identity
  pub has : HasKey key identity
  pub first : HasNone key (take place identities)
