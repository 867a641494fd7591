-- Words of this crate's private contracts: one request line, and a signature that is looked up.
use Rattle.std.specs.Prelude.{◌≡◌, ◌⊎◌, ◌++◌, ℕ, List, Option, Some, None, Result, Ok, Err}
use Rattle.picky_ask.specs.Lookup.{answer_to}
use Rattle.picky_ask.specs.State.{IsTooLong}
use Rattle.picky_ask.specs.declared.question.Entry.{Entry}
use Rattle.picky_ask.specs.declared.question.Question.{Question}
use Rattle.picky_cert_builder.specs.Drafted.{IsWholeDraft, draft_shown}
use Rattle.picky_cert_builder.specs.declared.draft.CertificateDraft.{CertificateDraft}
use Rattle.picky_ledger.specs.Apply.{Applies, IssuerTerms, SignatureAsked, judged_request_line}
use Rattle.picky_ledger.specs.Replies.{id_in, reply_line}
use Rattle.picky_ledger.specs.State.{IsLedger, State}
use Rattle.picky_ledger.specs.declared.reply.Reply.{Reply}
use Rattle.picky_ledger.specs.LedgerText.{ledger_written}
use Rattle.picky_wire_base.specs.declared.error.SizeError.TheVariants as sizes
use Rattle.picky_ledger_by.specs.Applied.{IsNotAsked}
use Rattle.picky_ledger_by.specs.declared.apply.Applied.{Applied}
use Rattle.picky_ledger_by.specs.declared.apply.Applied.TheVariants as rounds
use Rattle.picky_ledger_by.specs.Lacked.{SignsWith, asked_for, lacked, question_for, questions_text, signature_in}
use Rattle.picky_ledger_by.specs.declared.apply.LedgerByError.{LedgerByError}
use Rattle.picky_ledger_by.specs.declared.apply.LedgerByError.TheVariants as errors
use Rattle.picky_ledger_by.specs.declared.signature.TableSignature.{TableSignature}
use Rattle.picky_ledger_by.specs.declared.signature.TableSignature.TheVariants as found

-- the draft is that of the certificate that is asked for, where one is
abbrev pub IsDraftFor : Result SignatureAsked Reply → Option CertificateDraft → Type 0
IsDraftFor (Ok a) (Some d) = (a.unsigned ≡ draft_shown d) × IsWholeDraft d
IsDraftFor (Ok a) None = ⊥
IsDraftFor (Err reply) (Some d) = ⊥
IsDraftFor (Err reply) None = Unit {0}

-- the table's answer to a question, or the question
abbrev pub LooksUp : List Entry → Question → Result TableSignature LedgerByError → Type 0
LooksUp entries q (Ok (found.Given signature)) = answer_to q entries ≡ Some signature
LooksUp entries q (Ok (found.Lacking other)) = (answer_to q entries ≡ None) × (other ≡ q)
LooksUp entries q (Err errors.NoMemory) = Unit {0}
LooksUp entries q (Err errors.QuestionTooLong) = IsTooLong q
LooksUp entries q (Err e) = ⊥

-- the signature of what is asked for, where something is
abbrev pub IsSignatureFor : List Entry → Result SignatureAsked Reply → (signature : List ℕ) → Type 0
IsSignatureFor entries (Ok a) signature = signature ≡ signature_in entries (question_for a)
IsSignatureFor entries (Err reply) signature = Unit {0}

-- the question can't be asked, and so nothing comes of the request
abbrev pub CantBeAsked : Result SignatureAsked Reply → Type 0
CantBeAsked (Ok a) = IsNotAsked (question_for a)
CantBeAsked (Err reply) = ⊥

abbrev pub StopsFor : Result SignatureAsked Reply → LedgerByError → Type 0
StopsFor says e = (e ≡ errors.NoMemory) ⊎ ((e ≡ errors.QuestionTooLong) × CantBeAsked says)

-- the signature, and the questions with that of the request, where the table lacks it
abbrev pub FindsSignature : List Entry → Result SignatureAsked Reply → (before after : List ℕ) → Result (List ℕ) LedgerByError
    → Type 0
FindsSignature entries says before after (Ok signature) =
    IsSignatureFor entries says signature × (after ≡ before ++ questions_text (lacked entries (asked_for says)))
FindsSignature entries says before after (Err e) = StopsFor says e

-- the request of a line was answered with this signature, and the line of its reply was added
abbrev pub EntersLine : {A : Type 0} → (signature : List ℕ) → IssuerTerms → (old : State) (line : List ℕ)
    → (replies more_replies : List ℕ) → Result A LedgerByError → State → Type 0
EntersLine signature t old line replies more_replies (Ok done) new =
    (reply : Reply) × Applies (λ k a m s. s ≡ signature) old line (judged_request_line t old line) ⊥ (Ok reply) new
    × (more_replies ≡ replies ++ reply_line (id_in line) reply)
EntersLine signature t old line replies more_replies (Err e) new = e ≡ errors.NoMemory

-- the request of a line was answered with the table's signature, or an empty one where it has none; the line of its reply was added,
-- and the question, where it is lacked
abbrev pub AnswersLine : {A : Type 0} → List Entry → IssuerTerms → (old : State) (line : List ℕ)
    → (questions more_questions replies more_replies : List ℕ) → Result A LedgerByError → State → Type 0
AnswersLine entries t old line questions more_questions replies more_replies (Ok done) new =
    (reply : Reply) × Applies (SignsWith entries) old line (judged_request_line t old line) ⊥ (Ok reply) new
    × (more_replies ≡ replies ++ reply_line (id_in line) reply)
    × (more_questions ≡ questions ++ questions_text (lacked entries (asked_for (judged_request_line t old line))))
AnswersLine entries t old line questions more_questions replies more_replies (Err e) new =
    StopsFor (judged_request_line t old line) e

-- the ledger's text and the replies; in their place that is too long, or memory was wanting
abbrev pub IsWritten : State → (replies : List ℕ) → Result Applied LedgerByError → Type 0
IsWritten l replies (Ok (rounds.Ledger text said)) =
    (ledger_written l ≡ Ok text.items) × (said.items ≡ replies) × IsLedger l
IsWritten l replies (Ok (rounds.Questions bytes)) = ⊥
IsWritten l replies (Err errors.TooLong) = ledger_written l ≡ Err sizes.TooLong
IsWritten l replies (Err errors.NoMemory) = Unit {0}
IsWritten l replies (Err e) = ⊥
