-- One request at a ledger is a run of one request.
use Rattle.std.proofs.Common.{◌≡◌, ◌⊎◌, ℕ, List, [], ◌∷◌, Result, Ok, Err, inl, inr, refl, sym, subst, length, arith}
use Rattle.std.proofs.lemmas.List.{take_all}
use Rattle.picky.specs.Apply.{Applies, SignatureAsked, judged_request_line}
use Rattle.picky.specs.LedgerState.{IsLedger, State}
use Rattle.picky.specs.Runs.{IsAfter, Runs, Step}
use Rattle.picky.specs.Signs.{SignRelation}
use Rattle.picky.specs.LedgerText.{ledger_written, read}
use Rattle.picky.specs.declared.ledger.Reply.{Reply}
use Rattle.picky.specs.declared.ssh.SshBasePublicKey.{SshBasePublicKey}
use Rattle.picky.specs.declared.wire.SizeError.{SizeError}
use Rattle.picky_callers.specs.Entered.{IsEntered}

-- a reply says nothing of the signer's count
replied : (signs : SignRelation) (old new : State) (line : List ℕ) (says : Result SignatureAsked Reply) (rose : Type 0) (reply : Reply)
    → Applies signs old line says rose (Ok reply) new → Applies signs old line says ⊥ (Ok reply) new
replied signs old new line (Ok asked) rose reply applies = applies
replied signs old new line (Err answer) rose reply applies = applies

applied_step : (signs : SignRelation) (issuer : SshBasePublicKey) (old new : State) (nonce line : List ℕ) (rose : Type 0)
    (reply : Reply) → length nonce ≡ 32
    → Applies signs old line (judged_request_line (record { issuer = issuer; nonce = nonce }) old line) rose (Ok reply) new
    → Step signs issuer old nonce line new reply
unfolding Step
applied_step signs issuer old new nonce line rose reply len applies =
    subst (λ n. Applies signs old line (judged_request_line (record { issuer = issuer; nonce = n }) old line) ⊥ (Ok reply) new)
    (sym (take_all 32 nonce (omega (arith, len))))
    (replied signs old new line (judged_request_line (record { issuer = issuer; nonce = nonce }) old line) rose reply applies)

step_runs : (signs : SignRelation) (issuer : SshBasePublicKey) (old new : State) (nonce line : List ℕ) (reply : Reply)
    → Step signs issuer old nonce line new reply → Runs signs issuer old nonce (line ∷ []) new (reply ∷ [])
step_runs signs issuer old new nonce line reply step = (new, reply, [], step, (refl, refl), refl)

pub entered : (signs : SignRelation) (issuer : SshBasePublicKey) (old new : State) (nonce ledger request : List ℕ) (rose : Type 0)
    (reply : Reply) (written : Result (List ℕ) SizeError) → read ledger ≡ Ok old → IsLedger old → length nonce ≡ 32
    → ((state : State) (rs : List Reply) → Runs signs issuer old nonce (request ∷ []) state rs
    → IsAfter signs issuer old (request ∷ []) state rs)
    → Applies signs old request (judged_request_line (record { issuer = issuer; nonce = nonce }) old request) rose (Ok reply) new
    → ledger_written new ≡ written → IsEntered signs issuer nonce ledger request reply written
entered signs issuer old new nonce ledger request rose reply written is_read is len law applies is_written =
    let step = applied_step signs issuer old new nonce request rose reply len applies in
    record {
      old = old;
      new = new;
      is_read = is_read;
      step = step;
      after = law new (reply ∷ []) (step_runs signs issuer old new nonce request reply step);
      is_written = is_written;
    }

pub unwritten : {A B C : Type 0} → (B → C) → A ⊎ B → A ⊎ C
unwritten then (inl want) = inl want
unwritten then (inr refused) = inr (then refused)
