-- A ledger's text before and after one request.
use Rattle.std.specs.Prelude.{◌≡◌, ◌⊎◌, ◌∷◌, ℕ, List, [], Result, Ok, Err}
use Rattle.picky.specs.LedgerState.{State}
use Rattle.picky.specs.LedgerText.{ledger_written, read}
use Rattle.picky.specs.Runs.{IsAfter, Step}
use Rattle.picky.specs.Signs.{SignRelation}
use Rattle.picky.specs.declared.ledger.LedgerError.TheVariants as requests
use Rattle.picky.specs.declared.ledger.LedgerTextError.TheVariants as texts
use Rattle.picky.specs.declared.ledger.Reply.{Reply}
use Rattle.picky.specs.declared.ssh.SshBasePublicKey.{SshBasePublicKey}
use Rattle.picky.specs.declared.wire.SizeError.{SizeError}
use Rattle.picky.specs.declared.wire.SizeError.TheVariants as sizes
use Rattle.picky_callers.specs.declared.ledger.Unentered.{Unentered}
use Rattle.picky_callers.specs.declared.ledger.Unentered.TheVariants as causes

-- the text is a ledger's, which the request takes to another with this reply, and that has the new text, or none
pub record IsEntered (signs : SignRelation) (issuer : SshBasePublicKey) (nonce ledger request : List ℕ) (reply : Reply)
    (written : Result (List ℕ) SizeError) : Type 0 where
  pub old : State
  pub new : State
  pub is_read : read ledger ≡ Ok old
  pub step : Step signs issuer old nonce request new reply
  -- old entries stay in front, and each behind them is the certificate of this request, signed
  pub after : IsAfter signs issuer old (request ∷ []) new (reply ∷ [])
  pub is_written : ledger_written new ≡ written

-- the text is no ledger's, the signer's count rose, the new text is too long, or memory ran out
abbrev pub IsUnentered : SignRelation → SshBasePublicKey → (nonce ledger request : List ℕ) → (rose : Type 0) → Unentered → Type 0
IsUnentered signs issuer nonce ledger request rose (causes.Ledger e) = (e ≡ texts.NoMemory) ⊎ (read ledger ≡ Err e)
IsUnentered signs issuer nonce ledger request rose (causes.Request e) = (e ≡ requests.NoMemory) ⊎ ((e ≡ requests.SignerFault) × rose)
IsUnentered signs issuer nonce ledger request rose (causes.Text e) =
    (e ≡ sizes.NoMemory) ⊎ ((reply : Reply) × IsEntered signs issuer nonce ledger request reply (Err e))
