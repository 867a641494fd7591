-- Words of private contracts: what a request shows whose parts are slices of its message.
use Rattle.std.specs.Prelude.{⊤, ℕ, List, Result, Ok, Err}
use Rattle.picky_wire_base.specs.declared.view.Stuck.{Stuck}
use Rattle.picky_keys.specs.View.{key_seen}
use Rattle.picky_sshkey_blob.specs.Key.{IsPrivateKey}
use Rattle.picky_sshkey_blob.specs.View.{private_key_seen}
use Rattle.picky_sshkey_blob.specs.declared.view.PrivateView.{PrivateView}
use Rattle.picky_agent_state.specs.declared.identity.Identity.{Identity}
use Rattle.picky_agent_state.specs.declared.asked.Asked.{Asked}
use Rattle.picky_agent_state.specs.declared.asked.Asked.TheVariants as seen
use Rattle.picky_agent_state.specs.inner.Entry.{HasEntry}
use Rattle.picky_agent_state.specs.Request.{Request, Identities, Sign, Add, Remove, RemoveAll, Lock, Unlock, Unfit}
use Rattle.picky_agent_state.specs.Request.{sign_request}

-- the identity that is added
abbrev pub identity_seen : PrivateView → (comment : List ℕ) → Identity
identity_seen key comment = record { key = private_key_seen key; comment = comment }

abbrev pub asked_seen : Asked → Request
asked_seen seen.Identities = Identities
asked_seen (seen.Sign key message flags) = Sign (sign_request (key_seen key) message.now flags)
asked_seen (seen.Add key comment) = Add (identity_seen key comment.now)
asked_seen (seen.Remove key) = Remove (key_seen key)
asked_seen seen.RemoveAll = RemoveAll
asked_seen (seen.Lock pass) = Lock pass.now
asked_seen (seen.Unlock pass) = Unlock pass.now
asked_seen seen.Unfit = Unfit

-- the key can be copied, and its entry kept
pub record CanAdd (key : PrivateView) (comment : List ℕ) : Type 0 where
  pub is_key : IsPrivateKey (private_key_seen key)
  pub entry : HasEntry (identity_seen key comment)

abbrev pub KeepsAsked : Asked → Type 0
KeepsAsked (seen.Add key comment) = CanAdd key comment.now
KeepsAsked asked = ⊤

-- what was found, where something was
abbrev pub asked_found : Result (Asked × ℕ) Stuck → Asked
asked_found (Ok found) = found.0
asked_found (Err stuck) = seen.Unfit
