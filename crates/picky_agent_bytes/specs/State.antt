-- The bytes of what an agent keeps: the messages that bring a new agent there (draft-miller-ssh-agent-04), each as a string.
use Rattle.std.specs.Prelude.{ℕ, zero, suc, List, [], ◌∷◌, ◌++◌, length, nat_lt, bytes_eq, flat_map, if◌then◌else◌}
use Rattle.std.specs.Prelude.{Option, None, Some, Result, Ok, Err}
use Rattle.picky_wire_base.specs.Outcome.{and_then, map_err}
use Rattle.picky_wire_base.specs.Wire.{string, string_of}
use Rattle.picky_wire_base.specs.declared.error.SizeError.{SizeError}
use Rattle.picky_wire_base.specs.declared.error.SizeError.TheVariants as sizes
use Rattle.picky_sshkey_blob.specs.Blob.{secret_of}
use Rattle.picky_agent_state.specs.declared.identity.Identity.{Identity}
use Rattle.picky_agent_state.specs.declared.keep.KeepError.{KeepError}
use Rattle.picky_agent_state.specs.declared.keep.KeepError.TheVariants as keeps
use Rattle.picky_agent_state.specs.Keep.{keep_limit, kept_with}
use Rattle.picky_agent_state.specs.Kept.{Kept, new_agent}
use Rattle.picky_agent_state.specs.Request.{request_of}
use Rattle.picky_agent_bytes.specs.declared.error.AgentBytesError.{AgentBytesError}
use Rattle.picky_agent_bytes.specs.declared.error.AgentBytesError.TheVariants as errors

-- ---- the one spelling

-- SSH_AGENTC_ADD_IDENTITY
-- the private key's blob, in its one spelling
-- string comment
unfoldable pub adding : Identity → List ℕ
adding identity = 17 ∷ secret_of identity.key ++ string_of identity.comment

-- SSH_AGENTC_LOCK
-- string passphrase
unfoldable pub locking : (pass : List ℕ) → List ℕ
locking pass = 22 ∷ string_of pass

-- string message
abbrev pub framed : Identity → List ℕ
framed identity = string_of (adding identity)

-- the message that locks, where there is a lock
abbrev pub lock_of : Option (List ℕ) → List ℕ
lock_of None = []
lock_of (Some pass) = string_of (locking pass)

-- each identity in order, and then the lock
unfoldable pub state_of : Kept → List ℕ
state_of kept = flat_map framed kept.identities ++ lock_of kept.pass

-- bytes that are at most 2^30
abbrev pub limited : List ℕ → Result (List ℕ) SizeError
limited bytes = if nat_lt keep_limit (length bytes) then Err sizes.TooLong else Ok bytes

-- the bytes of a state
abbrev pub written : Kept → Result (List ℕ) SizeError
written kept = limited (state_of kept)

-- ---- what bytes are a state

-- why a message brings nothing
abbrev pub keep_refusal : KeepError → AgentBytesError
keep_refusal keeps.NotKept = errors.NotKept
keep_refusal keeps.TooMany = errors.TooMany
keep_refusal keeps.NoMemory = errors.NoMemory

-- the message in front, and what follows it
abbrev pub cut_string : List ℕ → Result (List ℕ × List ℕ) AgentBytesError
cut_string bytes = map_err (λ _. errors.Short) (string.read bytes)

-- what is kept once a message is there, or why it brings nothing
abbrev pub with_message : Kept → (message : List ℕ) → Result Kept AgentBytesError
with_message kept message = map_err keep_refusal (kept_with kept (request_of message))

-- what at most so many messages bring, one after another, to what is kept already
abbrev pub brought_within : ℕ → Kept → List ℕ → Result Kept AgentBytesError
brought_within zero kept bytes = Ok kept
brought_within (suc most) kept [] = Ok kept
brought_within (suc most) kept (b ∷ bytes) =
    and_then (cut_string (b ∷ bytes)) (λ first.
    and_then (with_message kept first.0) (λ next. brought_within most next first.1))

-- what the messages bring, or the first reason why one brings nothing
unfoldable pub brought : Kept → List ℕ → Result Kept AgentBytesError
brought kept bytes = brought_within (length bytes) kept bytes

-- it, where these bytes are its one spelling
abbrev pub canonical : (bytes : List ℕ) → Kept → Result Kept AgentBytesError
canonical bytes kept = if bytes_eq (state_of kept) bytes then Ok kept else Err errors.NotCanonical

-- the state that the bytes are
abbrev pub state_read : List ℕ → Result Kept AgentBytesError
state_read bytes =
    if nat_lt keep_limit (length bytes) then Err errors.TooLong
    else and_then (brought new_agent bytes) (canonical bytes)
