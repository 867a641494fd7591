-- What a message asks of an agent: a byte, its type, and then the fields of that type (draft-miller-ssh-agent-04).
use Rattle.std.specs.Prelude.{ℕ, List, [], ◌∷◌, ◌==◌, if◌then◌else◌, Result, Ok, Err}
use Rattle.picky_wire_base.specs.Flaw.{Reason}
use Rattle.picky_wire_base.specs.Grammar.{Grammar}
use Rattle.picky_wire_base.specs.Combine.{at, done, placed, ◌>>=◌}
use Rattle.picky_wire_base.specs.Inside.{sub}
use Rattle.picky_wire_base.specs.Wire.{string, text, uint32}
use Rattle.picky_keys.specs.declared.key.SshBasePublicKey.{SshBasePublicKey}
use Rattle.picky_keys.specs.Blob.{blob}
use Rattle.picky_sshkey_blob.specs.Blob.{secret}
use Rattle.picky_agent_state.specs.declared.identity.Identity.{Identity}

-- a signature of the message with the identity that has the key, by these flags
pub record SignRequest : Type 0 where
  pub key : SshBasePublicKey
  pub message : List ℕ
  pub flags : ℕ

abbrev pub sign_request : SshBasePublicKey → (message : List ℕ) → (flags : ℕ) → SignRequest
sign_request key message flags = record { key = key; message = message; flags = flags }

pub data Request : Type 0 where
  -- the list of identities
  Identities : Request
  Sign : SignRequest → Request
  Add : Identity → Request
  Remove : (key : SshBasePublicKey) → Request
  RemoveAll : Request
  Lock : (pass : List ℕ) → Request
  Unlock : (pass : List ℕ) → Request
  -- the type is another one, or the fields aren't there
  Unfit : Request

-- ---- the fields of each type; what follows the last one is ignored

-- string, which begins with a public key's blob; what follows that inside is ignored
unfoldable pub key_string : Grammar Reason SshBasePublicKey
key_string = sub (placed 0) blob

-- string key
-- string message
-- uint32 flags
unfoldable pub sign_fields : Grammar Reason Request
sign_fields = do
  key ← key_string
  message ← at 1 string
  flags ← at 2 uint32
  done (Sign (sign_request key message flags))

-- the private key's blob, which begins with its name
-- string comment, which is text
unfoldable pub add_fields : Grammar Reason Request
add_fields = do
  key ← secret
  comment ← at 7 text
  done (Add (record { key = key; comment = comment }))

-- string key
unfoldable pub remove_fields : Grammar Reason Request
remove_fields = do
  key ← key_string
  done (Remove key)

-- string passphrase
unfoldable pub lock_fields : Grammar Reason Request
lock_fields = do
  pass ← at 0 string
  done (Lock pass)

-- string passphrase
unfoldable pub unlock_fields : Grammar Reason Request
unlock_fields = do
  pass ← at 0 string
  done (Unlock pass)

-- ---- the request of a message

-- the request that was read in front, where one was
abbrev pub request_read : Result (Request × List ℕ) Reason → Request
request_read (Ok found) = found.0
request_read (Err reason) = Unfit

-- SSH_AGENTC_REQUEST_IDENTITIES, SIGN_REQUEST, ADD_IDENTITY, REMOVE_IDENTITY, REMOVE_ALL_IDENTITIES, LOCK and UNLOCK
abbrev pub request_by : (type : ℕ) → (contents : List ℕ) → Request
request_by type contents =
    if type == 11 then Identities
    else if type == 13 then request_read (sign_fields.read contents)
    else if type == 17 then request_read (add_fields.read contents)
    else if type == 18 then request_read (remove_fields.read contents)
    else if type == 19 then RemoveAll
    else if type == 22 then request_read (lock_fields.read contents)
    else if type == 23 then request_read (unlock_fields.read contents)
    else Unfit

unfoldable pub request_of : (message : List ℕ) → Request
request_of [] = Unfit
request_of (type ∷ contents) = request_by type contents
