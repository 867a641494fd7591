-- What a login is judged to be by a table of verdicts: a decision, or the question that decides it.
use Rattle.std.specs.Prelude.{◌≡◌, ◌⊎◌, ◌==◌, List, [], ◌∷◌, ℕ, Bool, true, false, Option, None, Some, Result, Ok, Err}
use Rattle.std.specs.Prelude.{if◌then◌else◌}
use Rattle.picky_wire_base.specs.Outcome.{and_then}
use Rattle.picky_wire.specs.declared.timestamp.Timestamp.{Timestamp}
use Rattle.picky_authorized.specs.declared.entry.AuthEntry.{AuthEntry}
use Rattle.picky_policy.specs.Decided.{decided, verifier_asks}
use Rattle.picky_policy.specs.declared.decision.Decision.{Decision}
use Rattle.picky_policy.specs.declared.decision.Decision.TheVariants as decisions
use Rattle.picky_policy.specs.declared.decision.Denial.{Denial}
use Rattle.picky_policy.specs.declared.decision.Denial.TheVariants as denials
use Rattle.picky_policy.specs.declared.decision.Grant.{Grant}
use Rattle.picky_policy.specs.declared.offer.Offer.{Offer}
use Rattle.picky_policy.specs.declared.offer.Offer.TheVariants as offers
use Rattle.picky_ask.specs.Lookup.{answer_to}
use Rattle.picky_ask.specs.Question.{IsQuestion, question_of}
use Rattle.picky_ask.specs.declared.question.Entry.{Entry}
use Rattle.picky_ask.specs.declared.question.Question.{Question}
use Rattle.picky_ask_verifier.specs.Question.{verify_question}
use Rattle.picky_ask_verifier.specs.declared.no_verdict.NoVerdict.{NoVerdict}
use Rattle.picky_ask_verifier.specs.declared.no_verdict.NoVerdict.TheVariants as reasons
use Rattle.picky_login.specs.Printed.{login_text}
use Rattle.picky_login.specs.declared.error.LoginError.{LoginError}
use Rattle.picky_login.specs.declared.error.LoginError.TheVariants as errors
use Rattle.picky_login.specs.declared.login.Login.{Login}
use Rattle.picky_login.specs.declared.login.Login.TheVariants as logins

-- ---- the verdict

-- an answer as a verdict: one byte, 1 where the signature is good and 0 where it isn't
abbrev pub verdict_in : (answer : List ℕ) → Result Bool LoginError
verdict_in [] = Err errors.WrongLength
verdict_in (byte ∷ []) = if byte == 1 then Ok true else if byte == 0 then Ok false else Err errors.UnknownByte
verdict_in (byte ∷ next ∷ more) = Err errors.WrongLength

-- the question of an offer: whether the issuer's signature is good; a key has none
abbrev pub question_for : Offer → Option Question
question_for (offers.Key key) = None
question_for (offers.Certificate c message) = Some (verify_question c.signature_key.inner_key c.signature message)

-- ---- what is judged

pub data Judged : Type 0 where
  Decided : Decision → Judged
  Asks : Question → Judged

-- the decision where no rule before the signature's fails
abbrev pub by_verdict : Grant → (good : Bool) → Decision
by_verdict grant true = decisions.Granted grant
by_verdict grant false = decisions.Denied denials.BadSignature

-- the same by the table's answer to the question; where it has none, the question is asked
abbrev pub by_answer : Grant → Question → (answer : Option (List ℕ)) → Result Judged LoginError
by_answer grant q None = Ok (Asks q)
by_answer grant q (Some answer) = and_then (verdict_in answer) (λ good. Ok (Decided (by_verdict grant good)))

-- of a key no signature is judged
abbrev pub by_question : Grant → Option Question → List Entry → Result Judged LoginError
by_question grant None table = Ok (Decided (decisions.Granted grant))
by_question grant (Some q) table = by_answer grant q (answer_to q table)

-- the first rule that fails, or else what the question says
abbrev pub by_rules : Result Grant Denial → Option Question → List Entry → Result Judged LoginError
by_rules (Ok grant) q table = by_question grant q table
by_rules (Err why) q table = Ok (Decided (decisions.Denied why))

abbrev pub judged : List AuthEntry → Offer → (user : List ℕ) → Timestamp → List Entry → Result Judged LoginError
judged entries offer user moment table = by_rules (decided entries offer user moment) (question_for offer) table

-- ---- and as bytes

-- the decision with its lines, or the question's bytes
pub data Outcome : Type 0 where
  Granted : (text : List ℕ) → Outcome
  Denied : Denial → (text : List ℕ) → Outcome
  Left : (bytes : List ℕ) → Outcome

abbrev pub decision_shown : Offer → Decision → Outcome
decision_shown offer (decisions.Granted grant) = Granted (login_text offer (decisions.Granted grant))
decision_shown offer (decisions.Denied why) = Denied why (login_text offer (decisions.Denied why))

abbrev pub judged_shown : Offer → Judged → Outcome
judged_shown offer (Decided decision) = decision_shown offer decision
judged_shown offer (Asks q) = Left (question_of q)

abbrev pub login_shown : Login → Outcome
login_shown (logins.Granted text) = Granted text.items
login_shown (logins.Denied why text) = Denied why text.items
login_shown (logins.Question bytes) = Left bytes.items

-- ---- what a call promises

-- no bytes say the question
abbrev pub IsUnsayable : Question → Type 0
IsUnsayable q = IsQuestion q → ⊥

abbrev pub HasUnsayableQuestion : Offer → Type 0
HasUnsayableQuestion offer = (q : Question) × (question_for offer ≡ Some q) × IsUnsayable q

-- the rules ask the offer's question, and no bytes say it
abbrev pub AsksUnsayable : List AuthEntry → Offer → (user : List ℕ) → Timestamp → Type 0
AsksUnsayable entries offer user moment =
    (verifier_asks entries offer user moment ≡ true) × HasUnsayableQuestion offer

-- the call comes to what the definition says; in its place memory may run out, or the question be too long for bytes
abbrev pub GivesLogin : (says : Result Outcome LoginError) → (unsayable : Type 0) → Result Login LoginError → Type 0
GivesLogin says unsayable (Ok login) = says ≡ Ok (login_shown login)
GivesLogin says unsayable (Err e) = (e ≡ errors.NoMemory) ⊎ ((e ≡ errors.TooLong) × unsayable) ⊎ (says ≡ Err e)

-- the outcome of what is judged
abbrev pub outcome : List AuthEntry → Offer → (user : List ℕ) → Timestamp → List Entry → Result Outcome LoginError
outcome entries offer user moment table =
    and_then (judged entries offer user moment table) (λ j. Ok (judged_shown offer j))

-- ---- by why the table has no verdict

-- the question's bytes; in their place it may be too long for them, or memory run out
abbrev pub LeavesQuestion : Question → Result Login LoginError → Type 0
LeavesQuestion q (Ok login) = login_shown login ≡ Left (question_of q)
LeavesQuestion q (Err e) = (e ≡ errors.NoMemory) ⊎ ((e ≡ errors.TooLong) × IsUnsayable q)

abbrev pub IsUnanswered : NoVerdict → Result Login LoginError → Type 0
IsUnanswered (reasons.Asked q) result = LeavesQuestion q result
IsUnanswered reasons.WrongLength result = result ≡ Err errors.WrongLength
IsUnanswered reasons.UnknownByte result = result ≡ Err errors.UnknownByte
IsUnanswered reasons.TooLong result = result ≡ Err errors.TooLong
IsUnanswered reasons.NoMemory result = result ≡ Err errors.NoMemory
