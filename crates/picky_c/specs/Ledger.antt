-- What a call comes to that applies requests to a ledger: the ledger's new text or the replies; the questions that its answers
-- lack; or the first reason why there is neither.
use Rattle.std.specs.Prelude.{List, ℕ, Result, Ok, Err}
use Rattle.picky_wire_base.specs.Gives.{Gives}
use Rattle.picky_key_text.specs.declared.error.ReadError.TheVariants as input
use Rattle.picky_target.specs.declared.error.ConvertError.TheVariants as refusals
use Rattle.picky_ledger.specs.declared.ledger.LedgerTextError.TheVariants as texts
use Rattle.picky_ledger_by.specs.Applied.{Given, GivesApplied}
use Rattle.picky_ledger_by.specs.declared.apply.Applied.{Applied}
use Rattle.picky_ledger_by.specs.declared.apply.Applied.TheVariants as rounds
use Rattle.picky_ledger_by.specs.declared.apply.LedgerByError.{LedgerByError}
use Rattle.picky_ledger_by.specs.declared.apply.LedgerByError.TheVariants as ledgers
use Rattle.picky_c.specs.Calls.{table_refusal}
use Rattle.picky_c.specs.Told.{HandsTold, Told, asked, numbered, whole}
use Rattle.picky_c.specs.declared.answer.PickyAnswer.{PickyAnswer}
use Rattle.picky_c.specs.declared.error.AnswersError.TheVariants as answers
use Rattle.picky_c.specs.declared.error.PickyError.{PickyError}
use Rattle.picky_c.specs.declared.error.PickyError.TheVariants as errors

-- ---- what the core comes to, as what a call tells

-- a refusal; of a bad line its number is told
abbrev pub refused_told : LedgerByError → Result Told PickyError
refused_told ledgers.LedgerNotUtf8 = Err errors.LedgerNotUtf8
refused_told ledgers.IssuerNotUtf8 = Err errors.IssuerNotUtf8
refused_told ledgers.RequestsNotUtf8 = Err errors.RequestsNotUtf8
refused_told (ledgers.Answers e) = Err (table_refusal e)
refused_told (ledgers.Ledger (texts.BadLine line)) = Ok (numbered errors.BadLine line)
refused_told (ledgers.Ledger texts.TooLong) = Err (errors.Refused refusals.TooLong)
refused_told (ledgers.Ledger texts.NoMemory) = Err errors.NoMemory
refused_told (ledgers.Issuer e) = Err (errors.Refused (refusals.Issuer (input.Public e)))
refused_told ledgers.FreshTooShort = Err (errors.Refused refusals.FreshTooShort)
refused_told ledgers.QuestionTooLong = Err (errors.Answers answers.TooLong)
refused_told ledgers.TooLong = Err (errors.Refused refusals.TooLong)
refused_told ledgers.NoMemory = Err errors.NoMemory

-- of what requests come to the new ledger's text
abbrev pub ledger_told : Result Applied LedgerByError → Result Told PickyError
ledger_told (Ok (rounds.Ledger text replies)) = Ok (whole text.items)
ledger_told (Ok (rounds.Questions bytes)) = Ok (asked bytes.items)
ledger_told (Err e) = refused_told e

-- and of the same the replies
abbrev pub replies_told : Result Applied LedgerByError → Result Told PickyError
replies_told (Ok (rounds.Ledger text replies)) = Ok (whole replies.items)
replies_told (Ok (rounds.Questions bytes)) = Ok (asked bytes.items)
replies_told (Err e) = refused_told e

-- ---- the calls

abbrev pub ledger_given : (ledger issuer requests fresh answers : List ℕ) → Given
ledger_given ledger issuer requests fresh answers =
    record { ledger = ledger; issuer = issuer; requests = requests; fresh = fresh; answers = answers }

-- the requests come to something, of which what is told is handed out; in its place want of memory may come
pub record AnswersRequests (told : Result Applied LedgerByError → Result Told PickyError) (g : Given) (answer : PickyAnswer)
    (old new : List ℕ) : Type 0 where
  pub applied : Result Applied LedgerByError
  pub outcome : Result Told PickyError
  pub handed : HandsTold outcome answer old new
  pub tells : Gives errors.NoMemory (λ it. it) outcome (told applied)
  pub gives : GivesApplied g applied
