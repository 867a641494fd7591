-- What a request line comes to at a ledger: a reply, and the ledger after it.
use Rattle.std.specs.Prelude.{◌≡◌, ◌↔◌, ◌≢◌, ◌-◌, ◌+◌, ◌^◌, ◌==◌, ◌++◌, ◌∷◌}
use Rattle.std.specs.Prelude.{ℕ, List, [], Option, Some, None, Result, Ok, Err}
use Rattle.std.specs.Prelude.{bytes_eq, if◌then◌else◌, IfErr}
use Rattle.std.specs.Option.{ok_or}
use Rattle.picky_wire_base.specs.Outcome.{and_then, map_err}
use Rattle.picky_keys.specs.declared.algorithm.SignatureAlgorithm.{SignatureAlgorithm}
use Rattle.picky_keys.specs.declared.public_key.PublicKey.{PublicKey}
use Rattle.picky_keys.specs.declared.key.SshBasePublicKey.{SshBasePublicKey}
use Rattle.picky_suite.specs.Signs.{SignRelation}
use Rattle.picky_cert.specs.declared.certificate.SshCertificate.{SshCertificate}
use Rattle.picky_cert_builder.specs.declared.error.SshCertificateGenerationError.{SshCertificateGenerationError}
use Rattle.picky_cert_builder.specs.Draft.{IsSigned, Unsigned, requested}
use Rattle.picky_request.specs.Builder.{asked_of}
use Rattle.picky_request.specs.Request.{request_in}
use Rattle.picky_request.specs.declared.request.CertRequestLine.{CertRequestLine}
use Rattle.picky_ledger.specs.declared.apply.LedgerError.{LedgerError}
use Rattle.picky_ledger.specs.declared.apply.LedgerError.TheVariants as errors
use Rattle.picky_ledger.specs.declared.entry.Entry.{Entry}
use Rattle.picky_ledger.specs.declared.reply.Reply.{Reply}
use Rattle.picky_ledger.specs.declared.reply.Reply.TheVariants as replies
use Rattle.picky_ledger.specs.Entry.{IsEntry, entry_of}
use Rattle.picky_ledger.specs.State.{State, entry_named}

-- who issues, and the bytes that no two certificates have alike
pub record IssuerTerms : Type 0 where
  pub issuer : SshBasePublicKey
  pub nonce : List ℕ

-- the certificate to be signed, and the id that it is entered under
pub record SignatureAsked : Type 0 where
  pub id : List ℕ
  pub unsigned : Unsigned

-- the last serial that a ledger can say to be next
abbrev pub last_next : ℕ
last_next = 2 ^ 64 - 1

-- ---- what is judged, in this order, before the device is asked

-- the kept line is this one, or another
abbrev pub kept_reply : (line : List ℕ) → Entry → Reply
kept_reply line e = if bytes_eq e.request line then replies.Again e.serial else replies.Conflict e.serial

abbrev pub signature_asked : (id : List ℕ) → Unsigned → SignatureAsked
signature_asked id u = record { id = id; unsigned = u }

-- what is to be signed under the id, or the reason why nothing is
abbrev pub signature_asked_for : (id : List ℕ) → Result Unsigned SshCertificateGenerationError → Result SignatureAsked Reply
signature_asked_for id says = and_then (map_err replies.Refused says) (λ u. Ok (signature_asked id u))

-- a new request takes the next serial, unless that is the last
unfoldable pub issuing : IssuerTerms → (next : ℕ) → CertRequestLine → Result SignatureAsked Reply
issuing t next r =
    if next == last_next then Err replies.Full
    else signature_asked_for r.id (requested (asked_of t.issuer next r) t.nonce)

-- a request whose id is there has its reply
abbrev pub unless_kept : IssuerTerms → (line : List ℕ) → (next : ℕ) → CertRequestLine → Option Entry
    → Result SignatureAsked Reply
unless_kept t line next r None = issuing t next r
unless_kept t line next r (Some e) = Err (kept_reply line e)

unfoldable pub judged_request_line : IssuerTerms → State → (line : List ℕ) → Result SignatureAsked Reply
judged_request_line t l line =
    and_then (ok_or (request_in line) replies.BadRequest) (λ r. unless_kept t line l.next r (entry_named r.id l.entries))

-- ---- the reply, and the ledger after it

-- the entry is the last, and its serial was the next
abbrev pub added : State → Entry → State
added l e = record { next = l.next + 1; entries = l.entries ++ e ∷ [] }

-- a certificate that is signed is entered; nothing else changes the ledger. The device's fault comes for one that was to be signed
abbrev pub Applies : SignRelation → State → (line : List ℕ) → Result SignatureAsked Reply → (rose : Type 0)
    → Result Reply LedgerError → State → Type 0
Applies signs old line (Ok a) rose (Ok reply) new =
    (c : SshCertificate) × IsSigned signs a.unsigned c × IsEntry (entry_of a.id line c)
    × (reply ≡ replies.Issued old.next) × (new ≡ added old (entry_of a.id line c))
Applies signs old line (Err says) rose (Ok reply) new = (reply ≡ says) × (new ≡ old)
Applies signs old line (Ok a) rose (Err errors.SignerFault) new = rose × (new ≡ old)
Applies signs old line (Err says) rose (Err errors.SignerFault) new = ⊥
Applies signs old line says rose (Err errors.NoMemory) new = new ≡ old

-- which signatures are good stays; a fault is counted only where it is answered; a device that isn't asked is as it was
pub record LeavesLedgerSigner {S A B : Type 0} (signs : S → SignRelation) (faults : S → ℕ) (says : Result A Reply)
    (result : Result B LedgerError) (old new : S) : Type 0 where
  pub kept : (k : PublicKey) (a : SignatureAlgorithm) (m s : List ℕ) → signs new k a m s ↔ signs old k a m s
  pub calm : result ≢ Err errors.SignerFault → faults new ≡ faults old
  pub unasked : IfErr says (λ reply. new ≡ old)
