-- The machine's rows that ask no signer: what is replied to a request, and what is kept then.
use Rattle.std.specs.Prelude.{◌≡◌, ◌⊎◌, ℕ, Bool, false, List, [], ◌∷◌, ◌++◌, length, nat_le, bytes_eq, slice_set, remove}
use Rattle.std.specs.Prelude.{Option, Some, None, MatchBool, if◌then◌else◌}
use Rattle.picky_keys.specs.declared.key.SshBasePublicKey.{SshBasePublicKey}
use Rattle.picky_sshkey_blob.specs.Key.{public_part}
use Rattle.picky_agent_state.specs.declared.identity.Identity.{Identity}
use Rattle.picky_agent_state.specs.Kept.{Kept, is_locked}
use Rattle.picky_agent_state.specs.Held.{HasNone, IsAt}
use Rattle.picky_agent_state.specs.Reply.{failure, success, fitted, listing}

-- a failure leaves all as it was
abbrev pub Fails : (old : Kept) → (reply : List ℕ) → (new : Kept) → Type 0
Fails old reply new = (reply ≡ failure) × (new ≡ old)

-- a success leaves this
abbrev pub Succeeds : (next : Kept) → (reply : List ℕ) → (new : Kept) → Type 0
Succeeds next reply new = (reply ≡ success) × (new ≡ next)

-- ---- the list, which is empty while the agent is locked

abbrev pub shown : Kept → List Identity
shown kept = if is_locked kept then [] else kept.identities

abbrev pub Lists : (old : Kept) → (reply : List ℕ) → (new : Kept) → Type 0
Lists old reply new = (reply ≡ fitted (listing (shown old))) × (new ≡ old)

-- ---- one more identity

-- an identity has the key: the added one takes its place
pub record Replaces (old : Kept) (added : Identity) (reply : List ℕ) (new : Kept) : Type 0 where
  pub place : ℕ
  pub is_at : IsAt (public_part added.key) old.identities place
  pub succeeds : Succeeds (record old { identities = slice_set old.identities place added }) reply new

abbrev pub most_identities : ℕ
most_identities = 1024

abbrev pub is_full : Kept → Bool
is_full kept = nat_le most_identities (length kept.identities)

-- none has it: the added one goes last, unless the agent is full
pub record Appends (old : Kept) (added : Identity) (reply : List ℕ) (new : Kept) : Type 0 where
  pub is_new : HasNone (public_part added.key) old.identities
  pub room : MatchBool (is_full old) (Fails old reply new)
      (Succeeds (record old { identities = old.identities ++ added ∷ [] }) reply new)

abbrev pub Adds : (old : Kept) → (added : Identity) → (reply : List ℕ) → (new : Kept) → Type 0
Adds old added reply new = MatchBool (is_locked old) (Fails old reply new)
    (Replaces old added reply new ⊎ Appends old added reply new)

-- ---- fewer

-- the identity that has the key is taken out, and those after it move down
pub record TakesOut (old : Kept) (key : SshBasePublicKey) (reply : List ℕ) (new : Kept) : Type 0 where
  pub place : ℕ
  pub is_at : IsAt key old.identities place
  pub succeeds : Succeeds (record old { identities = remove old.identities place }) reply new

-- none has the key
pub record HasNothing (old : Kept) (key : SshBasePublicKey) (reply : List ℕ) (new : Kept) : Type 0 where
  pub none : HasNone key old.identities
  pub fails : Fails old reply new

abbrev pub Removes : (old : Kept) → (key : SshBasePublicKey) → (reply : List ℕ) → (new : Kept) → Type 0
Removes old key reply new = MatchBool (is_locked old) (Fails old reply new)
    (TakesOut old key reply new ⊎ HasNothing old key reply new)

abbrev pub RemovesAll : (old : Kept) → (reply : List ℕ) → (new : Kept) → Type 0
RemovesAll old reply new = MatchBool (is_locked old) (Fails old reply new)
    (Succeeds (record old { identities = [] }) reply new)

-- ---- the lock

abbrev pub Locks : (old : Kept) → (pass : List ℕ) → (reply : List ℕ) → (new : Kept) → Type 0
Locks old pass reply new = MatchBool (is_locked old) (Fails old reply new)
    (Succeeds (record old { pass = Some pass }) reply new)

-- whether the agent is locked under this passphrase
abbrev pub opens : Option (List ℕ) → (pass : List ℕ) → Bool
opens (Some kept) pass = bytes_eq kept pass
opens None pass = false

abbrev pub Unlocks : (old : Kept) → (pass : List ℕ) → (reply : List ℕ) → (new : Kept) → Type 0
Unlocks old pass reply new = MatchBool (opens old.pass pass)
    (Succeeds (record old { pass = None }) reply new) (Fails old reply new)
