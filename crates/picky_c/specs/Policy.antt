-- Logins, decided by answers.
use Rattle.std.specs.Prelude.{List, ℕ, Result, Ok, Err}
use Rattle.picky_ask_verifier.specs.Verdicts.{Agrees, SignatureTest}
use Rattle.picky_login.specs.Judged.{GivesLogin}
use Rattle.picky_login.specs.Login.{HasUnsayable, IfAsked, IfDecided, LoginGiven, answers_of, login_in}
use Rattle.picky_login.specs.declared.error.LoginError.{LoginError}
use Rattle.picky_login.specs.declared.error.LoginError.TheVariants as reasons
use Rattle.picky_login.specs.declared.login.Login.{Login}
use Rattle.picky_login.specs.declared.login.Login.TheVariants as logins
use Rattle.picky_target.specs.declared.error.ConvertError.TheVariants as refusals
use Rattle.picky_c.specs.Answer.{HandsAs, RefusesCall}
use Rattle.picky_c.specs.Calls.{table_refusal}
use Rattle.picky_c.specs.Number.{error_number}
use Rattle.picky_c.specs.declared.answer.PickyAnswer.{PickyAnswer}
use Rattle.picky_c.specs.declared.error.AnswersError.TheVariants as answers
use Rattle.picky_c.specs.declared.error.PickyError.{PickyError}
use Rattle.picky_c.specs.declared.error.PickyError.TheVariants as errors

-- why a login comes to nothing, as a call's refusal
abbrev pub login_refusal : LoginError → PickyError
login_refusal reasons.AuthorizedNotUtf8 = errors.AuthorizedNotUtf8
login_refusal reasons.OfferNotUtf8 = errors.OfferNotUtf8
login_refusal reasons.UserNotUtf8 = errors.UserNotUtf8
login_refusal (reasons.Answers e) = table_refusal e
login_refusal reasons.AuthorizedTooLong = errors.Refused refusals.TooLong
login_refusal (reasons.Offer e) = errors.Refused (refusals.Input e)
login_refusal reasons.WrongLength = errors.Answers answers.WrongLength
login_refusal reasons.UnknownByte = errors.Answers answers.UnknownByte
login_refusal reasons.TooLong = errors.Answers answers.TooLong
login_refusal reasons.NoMemory = errors.NoMemory

-- the lines of a grant, those of a denial with its number, a question, or nothing
abbrev pub HandsLogin : Result Login LoginError → PickyAnswer → (old new : List ℕ) → Type 0
HandsLogin (Ok (logins.Granted text)) answer old new = HandsAs 0 text.items answer old new
HandsLogin (Ok (logins.Denied why text)) answer old new = HandsAs (error_number (errors.Denied why)) text.items answer old new
HandsLogin (Ok (logins.Question bytes)) answer old new = HandsAs (error_number errors.Asked) bytes.items answer old new
HandsLogin (Err e) answer old new = RefusesCall (login_refusal e) answer old new

-- what is handed out is the login that the definition says. Where the test says each verdict of the answers, a grant and a denial
-- are the decision under the signatures that it calls good; and a question is that of the issuer's signature, which no answer
-- answers.
pub record AnswersLogin (test : SignatureTest) (g : LoginGiven) (answer : PickyAnswer) (old new : List ℕ) : Type 0 where
  pub login : Result Login LoginError
  pub handed : HandsLogin login answer old new
  pub gives : GivesLogin (login_in g) (HasUnsayable g) login
  pub decided : Agrees test (answers_of g) → IfDecided test g login
  pub asked : IfAsked g login
