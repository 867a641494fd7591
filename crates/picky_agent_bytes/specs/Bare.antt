-- Identities without their secrets, which decide no reply but what is signed.
use Rattle.std.specs.Prelude.{ℕ, List, [], map, replicate, Result, Ok, Err}
use Rattle.picky_wire_base.specs.Outcome.{map_ok}
use Rattle.picky_sshkey_blob.specs.declared.key.SshBasePrivateKey.{SshBasePrivateKey}
use Rattle.picky_sshkey_blob.specs.declared.key.SshBasePrivateKey.TheVariants as keys
use Rattle.picky_agent_state.specs.declared.identity.Identity.{Identity}
use Rattle.picky_agent_state.specs.Kept.{Kept}
use Rattle.picky_agent_state.specs.Request.{Request, Identities, Sign, Add, Remove, RemoveAll, Lock, Unlock, Unfit, request_of}
use Rattle.picky_agent_bytes.specs.Call.{if_message}
use Rattle.picky_agent_bytes.specs.State.{adding}
use Rattle.picky_agent_bytes.specs.declared.error.AgentCallError.{AgentCallError}
use Rattle.picky_agent_bytes.specs.declared.error.AgentCallError.TheVariants as errors

-- each secret number is zero, the 32 bytes of an Ed25519 secret are, and the handle of a security key is empty
abbrev pub bare_key : SshBasePrivateKey → SshBasePrivateKey
bare_key (keys.Rsa n e d iqmp p q) = keys.Rsa n e [] [] [] []
bare_key (keys.Ec curve point secret) = keys.Ec curve point []
bare_key (keys.Ed secret public) = keys.Ed (replicate 32 0) public
bare_key (keys.SkEcdsaSha2NistP256 point application flags handle) = keys.SkEcdsaSha2NistP256 point application flags []
bare_key (keys.SkEd25519 key application flags handle) = keys.SkEd25519 key application flags []

abbrev pub bare : Identity → Identity
bare identity = record { key = bare_key identity.key; comment = identity.comment }

-- what an agent keeps, without the secrets
abbrev pub bare_kept : Kept → Kept
bare_kept kept = record kept { identities = map bare kept.identities }

-- what a request asks that brings no secret
abbrev pub bare_request : Request → Request
bare_request (Add added) = Add (bare added)
bare_request Identities = Identities
bare_request (Sign asked) = Sign asked
bare_request (Remove key) = Remove key
bare_request RemoveAll = RemoveAll
bare_request (Lock pass) = Lock pass
bare_request (Unlock pass) = Unlock pass
bare_request Unfit = Unfit

-- ---- the identity that a message adds

abbrev pub added : Request → Result Identity AgentCallError
added (Add identity) = Ok identity
added request = Err errors.NotAdd

abbrev pub added_by : (message : List ℕ) → Result Identity AgentCallError
added_by message = if_message message (added (request_of message))

-- the message that adds it without its secrets
abbrev pub public_add : (message : List ℕ) → Result (List ℕ) AgentCallError
public_add message = map_ok (λ identity. adding (bare identity)) (added_by message)
