-- A login by answers: what it comes to, and what that means.
use Rattle.std.specs.Prelude.{◌≡◌, List, [], ℕ, true, None, Some, Result, Ok, Err, if◌then◌else◌}
use Rattle.std.specs.Str.{is_utf8}
use Rattle.picky_wire_base.specs.Outcome.{and_then, map_err}
use Rattle.picky_wire.specs.Moment.{timestamp_at}
use Rattle.picky_authorized.specs.Entries.{entries_in, keys_in}
use Rattle.picky_authorized.specs.declared.entry.AuthEntry.{AuthEntry}
use Rattle.picky_ask.specs.Lookup.{answer_to}
use Rattle.picky_ask.specs.Question.{question_of}
use Rattle.picky_ask.specs.Table.{table_of}
use Rattle.picky_ask.specs.declared.question.Entry.{Entry}
use Rattle.picky_ask.specs.declared.question.Question.{Question}
use Rattle.picky_ask.specs.declared.table.TableError.{TableError}
use Rattle.picky_ask_verifier.specs.Verdicts.{Passes, SignatureTest}
use Rattle.picky_policy.specs.Decided.{IsDecision, verifier_asks}
use Rattle.picky_policy.specs.Offer.{offer_in}
use Rattle.picky_policy.specs.declared.decision.Decision.{Decision}
use Rattle.picky_policy.specs.declared.decision.Decision.TheVariants as decisions
use Rattle.picky_policy.specs.declared.decision.Grant.{Grant}
use Rattle.picky_policy.specs.declared.offer.Offer.{Offer}
use Rattle.picky_login.specs.Judged.{AsksUnsayable, Outcome, outcome, question_for}
use Rattle.picky_login.specs.Printed.{login_text}
use Rattle.picky_login.specs.Refusal.{keys_refusal, offer_refusal, table_refusal}
use Rattle.picky_login.specs.declared.error.LoginError.{LoginError}
use Rattle.picky_login.specs.declared.error.LoginError.TheVariants as errors
use Rattle.picky_login.specs.declared.login.Login.{Login}
use Rattle.picky_login.specs.declared.login.Login.TheVariants as logins

-- what a login is given, each text as bytes of its own: no line parts one text from another
pub record LoginGiven : Type 0 where
  pub authorized : List ℕ
  pub offer : List ℕ
  pub user : List ℕ
  pub moment : ℕ
  pub answers : List ℕ

abbrev pub login_given : (authorized offer user : List ℕ) → (moment : ℕ) → (answers : List ℕ) → LoginGiven
login_given authorized offer user moment answers =
    record { authorized = authorized; offer = offer; user = user; moment = moment; answers = answers }

-- ---- what it comes to

-- bytes that are UTF-8, or why they are none
abbrev pub utf8 : LoginError → List ℕ → Result (List ℕ) LoginError
utf8 e bytes = if is_utf8 bytes then Ok bytes else Err e

-- the login over the entries of authorized keys, and over their text, by a table
abbrev pub login_over : List AuthEntry → (offer user : List ℕ) → (moment : ℕ) → List Entry → Result Outcome LoginError
login_over entries offer user moment table =
    and_then (map_err offer_refusal (offer_in offer)) (λ read. outcome entries read user (timestamp_at moment) table)

abbrev pub login_by : (authorized offer user : List ℕ) → (moment : ℕ) → List Entry → Result Outcome LoginError
login_by authorized offer user moment table =
    and_then (map_err keys_refusal (keys_in authorized)) (λ entries. login_over entries offer user moment table)

-- a login, or the first reason why it comes to nothing
abbrev pub login_in : LoginGiven → Result Outcome LoginError
login_in g =
    and_then (utf8 errors.AuthorizedNotUtf8 g.authorized) (λ authorized.
    and_then (utf8 errors.OfferNotUtf8 g.offer) (λ offer.
    and_then (utf8 errors.UserNotUtf8 g.user) (λ user.
    and_then (map_err table_refusal (table_of g.answers)) (λ table. login_by authorized offer user g.moment table))))

-- the rules ask the question of the offer, and no bytes say it
abbrev pub HasUnsayableOver : List AuthEntry → (offer user : List ℕ) → (moment : ℕ) → Type 0
HasUnsayableOver entries offer user moment =
    (read : Offer) × (offer_in offer ≡ Ok read) × AsksUnsayable entries read user (timestamp_at moment)

abbrev pub HasUnsayableIn : (authorized offer user : List ℕ) → (moment : ℕ) → Type 0
HasUnsayableIn authorized offer user moment = HasUnsayableOver (entries_in authorized) offer user moment

abbrev pub HasUnsayable : LoginGiven → Type 0
HasUnsayable g = HasUnsayableIn g.authorized g.offer g.user g.moment

-- ---- what it means

-- the entries of the answers; none where they are no table
abbrev pub entries_or_none : Result (List Entry) TableError → List Entry
entries_or_none (Ok entries) = entries
entries_or_none (Err e) = []

abbrev pub answers_of : LoginGiven → List Entry
answers_of g = entries_or_none (table_of g.answers)

-- the text says a decision on the offer, under the signatures that the test calls good
pub record IsDecided (test : SignatureTest) (g : LoginGiven) (decision : Decision) (text : List ℕ) : Type 0 where
  pub offer : Offer
  pub read : offer_in g.offer ≡ Ok offer
  pub decides : IsDecision (Passes test) (entries_in g.authorized) offer g.user (timestamp_at g.moment) decision
  pub says : text ≡ login_text offer decision

-- the bytes are the question of the offer, which the rules ask and no answer answers
pub record IsAsked (g : LoginGiven) (bytes : List ℕ) : Type 0 where
  pub offer : Offer
  pub read : offer_in g.offer ≡ Ok offer
  pub asks : verifier_asks (entries_in g.authorized) offer g.user (timestamp_at g.moment) ≡ true
  pub question : Question
  pub is : question_for offer ≡ Some question
  pub says : bytes ≡ question_of question
  pub lacked : answer_to question (answers_of g) ≡ None

-- a grant and a denial are decisions
abbrev pub IfDecided : SignatureTest → LoginGiven → Result Login LoginError → Type 0
IfDecided test g (Ok (logins.Granted text)) = (grant : Grant) × IsDecided test g (decisions.Granted grant) text.items
IfDecided test g (Ok (logins.Denied why text)) = IsDecided test g (decisions.Denied why) text.items
IfDecided test g (Ok (logins.Question bytes)) = Unit {0}
IfDecided test g (Err e) = Unit {0}

-- and a question is asked
abbrev pub IfAsked : LoginGiven → Result Login LoginError → Type 0
IfAsked g (Ok (logins.Granted text)) = Unit {0}
IfAsked g (Ok (logins.Denied why text)) = Unit {0}
IfAsked g (Ok (logins.Question bytes)) = IsAsked g bytes.items
IfAsked g (Err e) = Unit {0}
