-- An issuer's line and a request are refused for themselves: for no fault of a source or a device, and never for want of memory.
use Rattle.std.proofs.Common.{◌≡◌, ◌≢◌, ◌==◌, ℕ, Bool, true, false, List, Option, Some, None, Result, Ok, Err, ap, ◌∙◌}
use Rattle.std.proofs.Common.{if◌then◌else◌}
use Rattle.std.specs.Option.{ok_or}
use Rattle.std.specs.Prelude.{bytes_eq}
use Rattle.picky_wire_base.specs.Outcome.{and_then}
use Rattle.picky_wire.specs.OfWire.{IsErrorOfBytes}
use Rattle.picky_keys.specs.FromWire.{public_key_error}
use Rattle.picky_keys.specs.declared.error.SshPublicKeyError.{SshPublicKeyError}
use Rattle.picky_cert_builder.specs.declared.error.SshCertificateGenerationError.{SshCertificateGenerationError}
use Rattle.picky_cert_builder.specs.Draft.{Unsigned, requested}
use Rattle.picky_cert_builder.proofs.OwnLaws.{IsOwnGeneration, requested_is_own}
use Rattle.picky_request.specs.Builder.{asked_of}
use Rattle.picky_request.specs.Request.{request_in}
use Rattle.picky_request.specs.declared.request.CertRequestLine.{CertRequestLine}
use Rattle.picky_ledger.specs.Apply.{IssuerTerms, SignatureAsked, issuing, judged_request_line, last_next}
use Rattle.picky_ledger.specs.Apply.{signature_asked_for, unless_kept}
use Rattle.picky_ledger.specs.declared.entry.Entry.{Entry}
use Rattle.picky_ledger.specs.declared.reply.Reply.{Reply}
use Rattle.picky_ledger.specs.declared.reply.Reply.TheVariants as replies
use Rattle.picky_ledger.specs.declared.status.LedgerStatus.{LedgerStatus}
use Rattle.picky_ledger.specs.declared.status.LedgerStatus.TheVariants as statuses
use Rattle.picky_ledger.specs.Run.{asked}
use Rattle.picky_ledger.specs.State.{State, entry_named}
use Rattle.picky_ledger.proofs.RunLemmas.{reason_is}

-- ---- the bytes of a source

pub issuer_is_own : (fresh input : List ℕ) (e : SshPublicKeyError) → asked fresh input ≡ Err (statuses.BadIssuer e)
    → IsErrorOfBytes public_key_error e
issuer_is_own fresh input e refused = reason_is fresh input (statuses.BadIssuer e) refused

pub source_is_own : (fresh input : List ℕ) (status : LedgerStatus) → asked fresh input ≡ Err status
    → (status ≢ statuses.ReadFault) × (status ≢ statuses.OutsideFault) × (status ≢ statuses.NoMemory)
source_is_own fresh input status refused = (
  λ is. reason_is fresh input statuses.ReadFault (refused ∙ ap Err is),
  λ is. reason_is fresh input statuses.OutsideFault (refused ∙ ap Err is),
  λ is. reason_is fresh input statuses.NoMemory (refused ∙ ap Err is),
)

-- ---- a request

refusal_says : (id : List ℕ) (says : Result Unsigned SshCertificateGenerationError) (e : SshCertificateGenerationError)
    → signature_asked_for id says ≡ Err (replies.Refused e) → says ≡ Err e
refusal_says id (Ok u) e is = cc is
refusal_says id (Err f) e is = let same : f ≡ e = cc is in ap Err same

not_full : (full : Bool) (r : Result SignatureAsked Reply) (e : SshCertificateGenerationError)
    → (if full then Err replies.Full else r) ≡ Err (replies.Refused e) → r ≡ Err (replies.Refused e)
not_full true r e is = cc is
not_full false r e is = is

kept_is_no_refusal : (same : Bool) (serial : ℕ) (e : SshCertificateGenerationError)
    → (if same then replies.Again serial else replies.Conflict serial) ≡ replies.Refused e → ⊥
kept_is_no_refusal true serial e is = cc is
kept_is_no_refusal false serial e is = cc is

unkept_refusal : (t : IssuerTerms) (line : List ℕ) (next : ℕ) (r : CertRequestLine) (o : Option Entry)
    (e : SshCertificateGenerationError) → unless_kept t line next r o ≡ Err (replies.Refused e) → issuing t next r ≡ Err (replies.Refused e)
unkept_refusal t line next r None e is = is
unkept_refusal t line next r (Some k) e is = absurd (kept_is_no_refusal (bytes_eq k.request line) k.serial e (cc is))

issuing_is_own : (t : IssuerTerms) (next : ℕ) (r : CertRequestLine) (e : SshCertificateGenerationError)
    → issuing t next r ≡ Err (replies.Refused e) → IsOwnGeneration e
unfolding issuing
issuing_is_own t next r e is =
    let says : Result Unsigned SshCertificateGenerationError = requested (asked_of t.issuer next r) t.nonce in
    requested_is_own (asked_of t.issuer next r) t.nonce e
    (refusal_says r.id says e (not_full (next == last_next) (signature_asked_for r.id says) e is))

pub request_is_own : (t : IssuerTerms) (l : State) (line : List ℕ) (e : SshCertificateGenerationError)
    → judged_request_line t l line ≡ Err (replies.Refused e) → IsOwnGeneration e
unfolding judged_request_line
request_is_own t l line e = go (request_in line)
  where
    go : (o : Option CertRequestLine)
        → and_then (ok_or o replies.BadRequest) (λ r. unless_kept t line l.next r (entry_named r.id l.entries))
        ≡ Err (replies.Refused e) → IsOwnGeneration e
    go None is = cc is
    go (Some r) is =
        issuing_is_own t l.next r e (unkept_refusal t line l.next r (entry_named r.id l.entries) e is)
