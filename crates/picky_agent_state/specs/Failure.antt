-- The cases in which the reply is the failure, as a list.
use Rattle.std.specs.Prelude.{◌≡◌, ◌≢◌, ◌≤◌, ◌^◌, ◌⊎◌, ⊤, ℕ, true, List, length, Some, None}
use Rattle.picky_wire.specs.Count.{Rose}
use Rattle.picky_suite.specs.Signs.{SignRelation}
use Rattle.picky_keys.specs.Key.{kind_of, public_key_of}
use Rattle.picky_sshkey_blob.specs.Key.{public_part}
use Rattle.picky_agent_state.specs.Kept.{Kept, Machine, is_locked}
use Rattle.picky_agent_state.specs.Held.{HasNone}
use Rattle.picky_agent_state.specs.Request.{Request, Identities, Sign, Add, Remove, RemoveAll, Lock, Unlock, Unfit}
use Rattle.picky_agent_state.specs.Request.{SignRequest, request_of}
use Rattle.picky_agent_state.specs.Reply.{failure, listing, signed_reply}
use Rattle.picky_agent_state.specs.Rows.{Fails, most_identities, shown}
use Rattle.picky_agent_state.specs.Signing.{SigningWay, way_for}

abbrev pub IsAgentLocked : Kept → Type 0
IsAgentLocked kept = is_locked kept ≡ true

abbrev pub IsReplyTooLong : (reply : List ℕ) → Type 0
IsReplyTooLong reply = 2 ^ 32 ≤ length reply

-- ---- what is kept and what is asked say so: the message doesn't fit; the agent is locked, or isn't under the passphrase that is to
-- unlock it; no identity has the key; a security key is to sign; there is no room for a new key; the list is too long

abbrev pub MustFail : Kept → Request → Type 0
MustFail kept Unfit = ⊤
MustFail kept Identities = IsReplyTooLong (listing (shown kept))
MustFail kept (Sign asked) =
    IsAgentLocked kept ⊎ (HasNone asked.key kept.identities ⊎ (way_for (kind_of asked.key) asked.flags ≡ None))
MustFail kept (Add added) =
    IsAgentLocked kept ⊎ (HasNone (public_part added.key) kept.identities × (most_identities ≤ length kept.identities))
MustFail kept (Remove key) = IsAgentLocked kept ⊎ HasNone key kept.identities
MustFail kept RemoveAll = IsAgentLocked kept
MustFail kept (Lock pass) = IsAgentLocked kept
MustFail kept (Unlock pass) = kept.pass ≢ Some pass

-- ---- or the signer, which is asked for a signature in no other case: it counted a fault, or gave a good one with which the reply
-- is too long

pub record IsSignedTooLong (signs : SignRelation) (asked : SignRequest) : Type 0 where
  pub way : SigningWay
  pub is_way : way_for (kind_of asked.key) asked.flags ≡ Some way
  pub signature : List ℕ
  pub good : signs (public_key_of asked.key) way.0 asked.message signature
  pub long : IsReplyTooLong (signed_reply way.1 signature)

abbrev pub SignerFails : SignRelation → (old : Machine) → Request → (new : Machine) → Type 0
SignerFails signs old (Sign asked) new = Rose old.faults new.faults ⊎ IsSignedTooLong signs asked
SignerFails signs old request new = ⊥

-- ---- so the failure comes in each of the first cases, and else in those of the signer alone

pub record FailsForCause (signs : SignRelation) (old : Machine) (message reply : List ℕ) (new : Machine) : Type 0 where
  pub must : MustFail old.kept (request_of message) → Fails old.kept reply new.kept × (new.faults ≡ old.faults)
  pub only : reply ≡ failure → MustFail old.kept (request_of message) ⊎ SignerFails signs old (request_of message) new
