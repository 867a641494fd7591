-- Words of this crate's private contracts: what is answered before anything is written.
use Rattle.std.specs.Prelude.{◌≡◌, ◌++◌, ℕ, List, Result, Ok, Err}
use Rattle.picky_input.specs.Extent.{Extent, ToEnd}
use Rattle.picky_suite.specs.Signs.{SignRelation}
use Rattle.picky_keys.specs.declared.key.SshBasePublicKey.{SshBasePublicKey}
use Rattle.picky_ledger.specs.declared.apply.LedgerError.{LedgerError}
use Rattle.picky_ledger.specs.declared.apply.LedgerError.TheVariants as errors
use Rattle.picky_ledger.specs.declared.reply.Reply.{Reply}
use Rattle.picky_ledger.specs.declared.status.LedgerStatus.{LedgerStatus}
use Rattle.picky_ledger.specs.Apply.{Applies, SignatureAsked as Request, IssuerTerms, judged_request_line}
use Rattle.picky_ledger.specs.Replies.{id_in, replies_text, reply_line}
use Rattle.picky_ledger.specs.Run.{IsAnswerTo, Stops, extent_of}
use Rattle.picky_ledger.specs.Runs.{FailsAt, Runs}
use Rattle.picky_ledger.specs.State.{State}

-- the request of a line was answered, and the line of its reply was added; or memory was wanting, or the device failed for it
abbrev pub AnswersLine : {A : Type 0} → SignRelation → IssuerTerms → (old : State) (line : List ℕ) (rose : Type 0)
    → (before after : List ℕ) → Result A LedgerError → State → Type 0
AnswersLine signs t old line rose before after (Ok done) new =
    (reply : Reply) × Applies signs old line (judged_request_line t old line) ⊥ (Ok reply) new
    × (after ≡ before ++ reply_line (id_in line) reply)
AnswersLine signs t old line rose before after (Err errors.SignerFault) new =
    (request : Request) × (judged_request_line t old line ≡ Ok request) × rose
AnswersLine signs t old line rose before after (Err errors.NoMemory) new = Unit {0}

-- the requests of these lines were answered, and these bytes are the lines of the replies; or memory was wanting, or the device
-- failed for one of them
abbrev pub AnswersRequests : SignRelation → SshBasePublicKey → State → (fresh : List ℕ) → (lines : List (List ℕ))
    → (rose : Type 0) → Result (List ℕ) LedgerError → State → Type 0
AnswersRequests signs issuer old fresh lines rose (Ok text) new =
    (replies : List Reply) × Runs signs issuer old fresh lines new replies × (text ≡ replies_text lines replies)
AnswersRequests signs issuer old fresh lines rose (Err errors.SignerFault) new = FailsAt signs issuer old fresh lines rose
AnswersRequests signs issuer old fresh lines rose (Err errors.NoMemory) new = Unit {0}

-- what is answered for the bytes of a source: the text, or why there is none
abbrev pub Comes : SignRelation → (fresh input : List ℕ) → (read_rose signer_rose : Type 0) → Result (List ℕ) LedgerStatus
    → Type 0
Comes signs fresh input read_rose signer_rose (Ok text) = IsAnswerTo signs fresh input text
Comes signs fresh input read_rose signer_rose (Err status) = Stops signs fresh input read_rose signer_rose status

-- how far the source was read where this is answered
abbrev pub extent_at : {A : Type 0} → Result A LedgerStatus → Extent
extent_at (Ok x) = ToEnd
extent_at (Err status) = extent_of status
