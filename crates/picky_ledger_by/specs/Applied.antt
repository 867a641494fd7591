-- What a call comes to that applies requests to a ledger by a table of answers.
use Rattle.std.specs.Prelude.{◌≡◌, ◌≢◌, ◌⊎◌, ◌<◌, ◌≤◌, ◌*◌, ◌^◌, ℕ, List, [], ◌∷◌, ◌++◌, Some, Result, Ok, Err, if◌then◌else◌, length, nat_lt}
use Rattle.std.specs.Str.{is_utf8}
use Rattle.picky_wire_base.specs.Outcome.{and_then, map_err}
use Rattle.picky_keys.specs.LineRefusal.{line_meaning}
use Rattle.picky_keys.specs.declared.error.SshPublicKeyError.{SshPublicKeyError}
use Rattle.picky_keys.specs.declared.error.SshPublicKeyError.TheVariants as keys
use Rattle.picky_suite.specs.Signs.{SignRelation}
use Rattle.picky_ask.specs.Lookup.{answer_to}
use Rattle.picky_ask.specs.Question.{question_of}
use Rattle.picky_ask.specs.Signing.{SignsByTable, fresh_signer, sign_question}
use Rattle.picky_ask.specs.State.{IsTooLong}
use Rattle.picky_ask.specs.Table.{table_of}
use Rattle.picky_ask.specs.declared.question.Entry.{Entry}
use Rattle.picky_ask.specs.declared.question.Question.{Question}
use Rattle.picky_ask.specs.declared.table.TableError.{TableError}
use Rattle.picky_ask.specs.declared.table.TableError.TheVariants as tables
use Rattle.picky_keys.specs.declared.algorithm.SignatureAlgorithm.{SignatureAlgorithm}
use Rattle.picky_keys.specs.declared.public_key.PublicKey.{PublicKey}
use Rattle.picky_ledger.specs.LedgerText.{ledger_text, read}
use Rattle.picky_ledger.specs.Replies.{replies_text}
use Rattle.picky_ledger.specs.Run.{LedgerAsked, requests_in}
use Rattle.picky_ledger.specs.Runs.{IsAfter, Runs, nonce_len}
use Rattle.picky_ledger.specs.State.{State}
use Rattle.picky_ledger.specs.declared.entry.Entry.{Entry as LedgerEntry}
use Rattle.picky_ledger.specs.declared.ledger.LedgerTextError.{LedgerTextError}
use Rattle.picky_ledger.specs.declared.ledger.LedgerTextError.TheVariants as texts
use Rattle.picky_ledger.specs.declared.reply.Reply.{Reply}
use Rattle.picky_ledger_by.specs.Lacked.{asked_questions, lacked, questions_text}
use Rattle.picky_ledger_by.specs.declared.apply.Applied.{Applied}
use Rattle.picky_ledger_by.specs.declared.apply.Applied.TheVariants as rounds
use Rattle.picky_ledger_by.specs.declared.apply.LedgerByError.{LedgerByError}
use Rattle.picky_ledger_by.specs.declared.apply.LedgerByError.TheVariants as errors

-- ---- what is given

pub record Given : Type 0 where
  pub ledger : List ℕ
  pub issuer : List ℕ
  pub requests : List ℕ
  pub fresh : List ℕ
  pub answers : List ℕ

-- a table, and a ledger, who issues, and the lines of requests
pub record Asked : Type 0 where
  pub entries : List Entry
  pub given : LedgerAsked

abbrev pub utf8_or : LedgerByError → List ℕ → Result (List ℕ) LedgerByError
utf8_or e bytes = if is_utf8 bytes then Ok bytes else Err e

-- a refusal of a part is the call's; that memory ran out is said of the call alone
abbrev pub table_refusal : TableError → LedgerByError
table_refusal tables.EndsInEntry = errors.Answers tables.EndsInEntry
table_refusal tables.LengthPastEnd = errors.Answers tables.LengthPastEnd
table_refusal tables.NoQuestion = errors.Answers tables.NoQuestion
table_refusal tables.NoMemory = errors.NoMemory

abbrev pub text_refusal : LedgerTextError → LedgerByError
text_refusal (texts.BadLine line) = errors.Ledger (texts.BadLine line)
text_refusal texts.TooLong = errors.Ledger texts.TooLong
text_refusal texts.NoMemory = errors.NoMemory

abbrev pub issuer_refusal : SshPublicKeyError → LedgerByError
issuer_refusal keys.NoMemory = errors.NoMemory
issuer_refusal (keys.IoError kind) = errors.Issuer (keys.IoError kind)
issuer_refusal keys.InvalidUtf8 = errors.Issuer keys.InvalidUtf8
issuer_refusal keys.Base64DecodeError = errors.Issuer keys.Base64DecodeError
issuer_refusal keys.UnknownKeyType = errors.Issuer keys.UnknownKeyType
issuer_refusal keys.KeyError = errors.Issuer keys.KeyError
issuer_refusal keys.TooLong = errors.Issuer keys.TooLong

-- there are enough fresh bytes for the requests
abbrev pub if_fresh : (fresh : List ℕ) → Asked → Result Asked LedgerByError
if_fresh fresh a =
    if nat_lt (length fresh) (nonce_len * length a.given.requests) then Err errors.FreshTooShort else Ok a

-- what texts and a table ask for, or the first reason why they ask for nothing
abbrev pub asked_by : List Entry → (ledger issuer requests fresh : List ℕ) → Result Asked LedgerByError
asked_by entries ledger issuer requests fresh =
    and_then (map_err text_refusal (read ledger)) (λ l.
    and_then (map_err issuer_refusal (line_meaning issuer)) (λ key.
    if_fresh fresh (record {
      entries = entries;
      given = record { ledger = l; issuer = key; requests = requests_in requests };
    })))

-- what bytes ask for
abbrev pub asked_in : Given → Result Asked LedgerByError
asked_in g =
    and_then (utf8_or errors.LedgerNotUtf8 g.ledger) (λ ledger.
    and_then (utf8_or errors.IssuerNotUtf8 g.issuer) (λ issuer.
    and_then (utf8_or errors.RequestsNotUtf8 g.requests) (λ requests.
    and_then (map_err table_refusal (table_of g.answers)) (λ entries. asked_by entries ledger issuer requests g.fresh))))

-- ---- what comes of it

-- the requests were answered, each in its turn and signed as the table says; the text says the new ledger, in which no serial and
-- no id stands twice, and the replies are those of the lines
pub record IsApplied (a : Asked) (fresh text replies : List ℕ) : Type 0 where
  pub new : State
  pub answered : List Reply
  pub runs : Runs (SignsByTable (fresh_signer a.entries)) a.given.issuer.inner_key a.given.ledger fresh a.given.requests new answered
  pub leaves : IsAfter (SignsByTable (fresh_signer a.entries)) a.given.issuer.inner_key a.given.ledger a.given.requests new answered
  pub short : length text < 2 ^ 32
  pub text_is : text ≡ ledger_text new
  pub replies_are : replies ≡ replies_text a.given.requests answered

-- the questions of the requests
abbrev pub questions_in : Asked → (fresh : List ℕ) → List Question
questions_in a fresh = asked_questions a.entries a.given.issuer.inner_key a.given.ledger fresh a.given.requests

-- those that the table doesn't answer; there is one
pub record AreLacked (a : Asked) (fresh bytes : List ℕ) : Type 0 where
  pub some : lacked a.entries (questions_in a fresh) ≢ []
  pub are : bytes ≡ questions_text (lacked a.entries (questions_in a fresh))

-- the new ledger's text can't be said in a length of the wire
pub record IsTooLongText (a : Asked) (fresh : List ℕ) : Type 0 where
  pub new : State
  pub answered : List Reply
  pub runs : Runs (SignsByTable (fresh_signer a.entries)) a.given.issuer.inner_key a.given.ledger fresh a.given.requests new answered
  pub long : 2 ^ 32 ≤ length (ledger_text new)

-- no bytes say the question, or it has 2^32 or more
abbrev pub IsNotAsked : Question → Type 0
IsNotAsked q = IsTooLong q ⊎ (2 ^ 32 ≤ length (question_of q))

-- the question is among these
pub record IsAmong (all : List Question) (q : Question) : Type 0 where
  pub front : List Question
  pub rest : List Question
  pub whole : all ≡ front ++ q ∷ rest

abbrev pub Comes : Asked → (fresh : List ℕ) → Result Applied LedgerByError → Type 0
Comes a fresh (Ok (rounds.Ledger text replies)) = IsApplied a fresh text.items replies.items
Comes a fresh (Ok (rounds.Questions bytes)) = AreLacked a fresh bytes.items
Comes a fresh (Err errors.QuestionTooLong) = (q : Question) × IsAmong (questions_in a fresh) q × IsNotAsked q
Comes a fresh (Err errors.TooLong) = IsTooLongText a fresh
Comes a fresh (Err errors.NoMemory) = Unit {0}
Comes a fresh (Err e) = ⊥

-- or why nothing does; in its place memory may run out
abbrev pub ComesOf : Result Asked LedgerByError → (fresh : List ℕ) → Result Applied LedgerByError → Type 0
ComesOf (Ok a) fresh result = Comes a fresh result
ComesOf (Err e) fresh result = (result ≡ Err errors.NoMemory) ⊎ (result ≡ Err e)

abbrev pub GivesApplied : Given → Result Applied LedgerByError → Type 0
GivesApplied g result = ComesOf (asked_in g) g.fresh result

-- ---- what a caller knows of its answers

-- each answer of the table is a good signature of what it answers
abbrev pub AreGood : SignRelation → List Entry → Type 0
AreGood signs entries =
    (k : PublicKey) (a : SignatureAlgorithm) (m s : List ℕ) → answer_to (sign_question k a m) entries ≡ Some s → signs k a m s

-- ---- ledgers that differ in their certificates alone

abbrev pub AreAlikeEntries : (xs ys : List LedgerEntry) → Type 0
AreAlikeEntries [] [] = Unit {0}
AreAlikeEntries [] (y ∷ ys) = ⊥
AreAlikeEntries (x ∷ xs) [] = ⊥
AreAlikeEntries (x ∷ xs) (y ∷ ys) =
    (x.id ≡ y.id) × (x.serial ≡ y.serial) × (x.request ≡ y.request) × AreAlikeEntries xs ys

pub record AreAlike (a b : State) : Type 0 where
  pub next : a.next ≡ b.next
  pub entries : AreAlikeEntries a.entries b.entries
