-- Requests one after another at a ledger.
use Rattle.std.specs.Prelude.{◌≡◌, ◌<◌, ◌*◌, ◌^◌, ◌++◌, ◌∷◌, ℕ, List, [], Contains, length, take, drop}
use Rattle.std.specs.Prelude.{Some, Ok, Err}
use Rattle.std.specs.List.{AllByRecursion}
use Rattle.picky_keys.specs.declared.key.SshBasePublicKey.{SshBasePublicKey}
use Rattle.picky_suite.specs.Signs.{SignRelation}
use Rattle.picky_cert_builder.specs.Draft.{IsSigned, Unsigned, requested}
use Rattle.picky_request.specs.Builder.{asked_of}
use Rattle.picky_request.specs.Request.{request_in}
use Rattle.picky_request.specs.declared.request.CertRequestLine.{CertRequestLine}
use Rattle.picky_ledger.specs.declared.entry.Entry.{Entry}
use Rattle.picky_ledger.specs.declared.reply.Reply.{Reply}
use Rattle.picky_ledger.specs.declared.reply.Reply.TheVariants as answers
use Rattle.picky_ledger.specs.Apply.{Applies, SignatureAsked, IssuerTerms, judged_request_line}
use Rattle.picky_ledger.specs.LedgerText.{ledger_in, ledger_text}
use Rattle.picky_ledger.specs.State.{IsLedger, State}

-- each request has so many bytes of its own, whether a certificate is made of them or not
abbrev pub nonce_len : ℕ
nonce_len = 32

abbrev pub terms_by : SshBasePublicKey → (fresh : List ℕ) → IssuerTerms
terms_by issuer fresh = record { issuer = issuer; nonce = take nonce_len fresh }

-- one request
unfoldable pub Step : SignRelation → SshBasePublicKey → State → (fresh line : List ℕ) → State → Reply → Type 0
Step signs issuer old fresh line new reply =
    Applies signs old line (judged_request_line (terms_by issuer fresh) old line) ⊥ (Ok reply) new

-- the requests of these lines in order, each with its reply
abbrev pub Runs : SignRelation → SshBasePublicKey → State → (fresh : List ℕ) → (lines : List (List ℕ)) → State → List Reply
    → Type 0
Runs signs issuer old fresh [] new replies = (new ≡ old) × (replies ≡ [])
Runs signs issuer old fresh (line ∷ more) new replies =
    (mid : State) × (reply : Reply) × (later : List Reply) × Step signs issuer old fresh line mid reply
    × Runs signs issuer mid (drop nonce_len fresh) more new later × (replies ≡ reply ∷ later)

-- the device failed, and counted it, for the request of a line behind those of which each has its reply
pub record FailsAt (signs : SignRelation) (issuer : SshBasePublicKey) (old : State) (fresh : List ℕ) (lines : List (List ℕ))
    (rose : Type 0) : Type 0 where
  pub front : List (List ℕ)
  pub line : List ℕ
  pub rest : List (List ℕ)
  pub whole : lines ≡ front ++ line ∷ rest
  pub mid : State
  pub replies : List Reply
  pub runs : Runs signs issuer old fresh front mid replies
  pub left : List ℕ
  pub nonce : left ≡ drop (nonce_len * length front) fresh
  pub asked : SignatureAsked
  pub asks : judged_request_line (terms_by issuer left) mid line ≡ Ok asked
  pub fault : rose

-- no request of these lines is to be signed: each has its reply, and the ledger stays
abbrev pub NoneSigns : SshBasePublicKey → State → (fresh : List ℕ) → (lines : List (List ℕ)) → Type 0
NoneSigns issuer l fresh [] = Unit {0}
NoneSigns issuer l fresh (line ∷ more) =
    (reply : Reply) × (judged_request_line (terms_by issuer fresh) l line ≡ Err reply)
    × NoneSigns issuer l (drop nonce_len fresh) more

-- the entry is the certificate of one of the lines, under the entry's serial, signed by the device
pub record IsIssuedFor (signs : SignRelation) (issuer : SshBasePublicKey) (lines : List (List ℕ)) (e : Entry) : Type 0 where
  pub among : Contains lines e.request
  pub asks : CertRequestLine
  pub request : request_in e.request ≡ Some asks
  pub nonce : List ℕ
  pub unsigned : Unsigned
  pub made : requested (asked_of issuer e.serial asks) nonce ≡ Ok unsigned
  pub signed : IsSigned signs unsigned e.certificate

-- ---- what requests leave

-- each of these lines that is this one is answered with the serial again
abbrev pub IsAnsweredAgain : (line : List ℕ) (serial : ℕ) → (lines : List (List ℕ)) → List Reply → Type 0
IsAnsweredAgain line serial [] more = Unit {0}
IsAnsweredAgain line serial (next ∷ lines) [] = Unit {0}
IsAnsweredAgain line serial (next ∷ lines) (reply ∷ more) =
    (next ≡ line → reply ≡ answers.Again serial) × IsAnsweredAgain line serial lines more

-- a line that was issued is answered with its serial from there on
abbrev pub StayIssued : (lines : List (List ℕ)) → List Reply → Type 0
StayIssued [] more = Unit {0}
StayIssued (line ∷ lines) [] = Unit {0}
StayIssued (line ∷ lines) (reply ∷ more) =
    ((serial : ℕ) → reply ≡ answers.Issued serial → IsAnsweredAgain line serial lines more) × StayIssued lines more

-- the ledger after the requests of these lines: the entries that it had stay in front, and each behind them was issued for one of
-- the lines; a line that has its entry is answered with the serial of that; no two entries have one serial or one id; and its text
-- is read back
pub record IsAfter (signs : SignRelation) (issuer : SshBasePublicKey) (old : State) (lines : List (List ℕ)) (new : State)
    (answered : List Reply) : Type 0 where
  pub more : List Entry
  pub stay : new.entries ≡ old.entries ++ more
  pub issued : AllByRecursion (IsIssuedFor signs issuer lines) more
  pub kept : (e : Entry) → Contains old.entries e → IsAnsweredAgain e.request e.serial lines answered
  pub again : StayIssued lines answered
  pub is : IsLedger new
  pub back : length (ledger_text new) < 2 ^ 32 → ledger_in (ledger_text new) ≡ Ok new
