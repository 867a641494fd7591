-- The machine: one step for each message.
use Rattle.std.specs.Prelude.{◌≡◌, ◌⊎◌, ℕ, false, List, Option, Some, None, MatchBool}
use Rattle.picky_wire.specs.Count.{Rose}
use Rattle.picky_suite.specs.Signs.{SignRelation}
use Rattle.picky_keys.specs.Key.{kind_of, public_key_of}
use Rattle.picky_agent_state.specs.Kept.{Kept, Machine, is_locked}
use Rattle.picky_agent_state.specs.Held.{HasNone, IsAt}
use Rattle.picky_agent_state.specs.Request.{Request, Identities, Sign, Add, Remove, RemoveAll, Lock, Unlock, Unfit}
use Rattle.picky_agent_state.specs.Request.{SignRequest, request_of}
use Rattle.picky_agent_state.specs.Reply.{failure, fitted, signed_reply}
use Rattle.picky_agent_state.specs.Signing.{SigningWay, way_for}
use Rattle.picky_agent_state.specs.Rows.{Fails, Lists, Adds, Removes, RemovesAll, Locks, Unlocks}

-- what asks no signer leaves the number of faults
pub record Still (old : Machine) (row : Kept → List ℕ → Kept → Type 0) (reply : List ℕ) (new : Machine) : Type 0 where
  pub calm : new.faults ≡ old.faults
  pub row_holds : row old.kept reply new.kept

-- ---- a signature with an identity

-- the signer gave one that is good under the key
pub record IsSignedReply (signs : SignRelation) (old : Machine) (asked : SignRequest) (way : SigningWay)
    (reply : List ℕ) (new : Machine) : Type 0 where
  pub signature : List ℕ
  pub good : signs (public_key_of asked.key) way.0 asked.message signature
  pub replies : reply ≡ fitted (signed_reply way.1 signature)
  pub unchanged : new ≡ old

-- the signer failed, and counted it
pub record IsUnsignedReply (old : Machine) (reply : List ℕ) (new : Machine) : Type 0 where
  pub replies : reply ≡ failure
  pub kept : new.kept ≡ old.kept
  pub rose : Rose old.faults new.faults

-- the signer is asked; for a security key it is not, and the reply is the failure
abbrev pub Asks : SignRelation → (old : Machine) → SignRequest → Option SigningWay → (reply : List ℕ)
    → (new : Machine) → Type 0
Asks signs old asked (Some way) reply new = IsSignedReply signs old asked way reply new ⊎ IsUnsignedReply old reply new
Asks signs old asked None reply new = Still old Fails reply new

-- an identity has the key
pub record AsksWith (signs : SignRelation) (old : Machine) (asked : SignRequest) (reply : List ℕ) (new : Machine) : Type 0 where
  pub place : ℕ
  pub is_at : IsAt asked.key old.kept.identities place
  pub asks : Asks signs old asked (way_for (kind_of asked.key) asked.flags) reply new

-- none has it
pub record AsksNone (old : Machine) (asked : SignRequest) (reply : List ℕ) (new : Machine) : Type 0 where
  pub none : HasNone asked.key old.kept.identities
  pub fails : Still old Fails reply new

abbrev pub AsksToSign : SignRelation → (old : Machine) → SignRequest → (reply : List ℕ) → (new : Machine) → Type 0
AsksToSign signs old asked reply new = MatchBool (is_locked old.kept) (Still old Fails reply new)
    (AsksWith signs old asked reply new ⊎ AsksNone old asked reply new)

-- ---- by the request

abbrev pub StepOn : SignRelation → (old : Machine) → Request → (reply : List ℕ) → (new : Machine) → Type 0
StepOn signs old Identities reply new = Still old Lists reply new
StepOn signs old (Sign asked) reply new = AsksToSign signs old asked reply new
StepOn signs old (Add added) reply new = Still old (λ before. Adds before added) reply new
StepOn signs old (Remove key) reply new = Still old (λ before. Removes before key) reply new
StepOn signs old RemoveAll reply new = Still old RemovesAll reply new
StepOn signs old (Lock pass) reply new = Still old (λ before. Locks before pass) reply new
StepOn signs old (Unlock pass) reply new = Still old (λ before. Unlocks before pass) reply new
StepOn signs old Unfit reply new = Still old Fails reply new

-- by which signatures are good: the machine takes the message, and gives the reply
unfoldable pub Step : SignRelation → (old : Machine) → (message reply : List ℕ) → (new : Machine) → Type 0
Step signs old message reply new = StepOn signs old (request_of message) reply new

-- ---- when the signer is asked

-- the agent isn't locked, an identity has the key, and that is no security key
pub record CanSign (kept : Kept) (asked : SignRequest) : Type 0 where
  pub unlocked : is_locked kept ≡ false
  pub place : ℕ
  pub is_at : IsAt asked.key kept.identities place
  pub way : SigningWay
  pub is_way : way_for (kind_of asked.key) asked.flags ≡ Some way

abbrev pub AsksSigner : Kept → Request → Type 0
AsksSigner kept (Sign asked) = CanSign kept asked
AsksSigner kept request = ⊥
