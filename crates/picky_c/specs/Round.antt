-- What a round of a call comes to: a text, or the question that its answers lack.
use Rattle.std.specs.Prelude.{◌≡◌, ◌⊎◌, ◌<◌, List, ℕ, Bool, true, Option, Some, Result, Ok, Err, length}
use Rattle.picky_suite.specs.Meanings.{Meanings}
use Rattle.picky_ask.specs.Cause.{HasOtherLength, IsContradicted, IsLacked}
use Rattle.picky_ask.specs.Question.{question_of}
use Rattle.picky_ask.specs.declared.missing.Missing.{Missing}
use Rattle.picky_ask.specs.declared.missing.Missing.TheVariants as missings
use Rattle.picky_ask.specs.declared.question.Entry.{Entry}
use Rattle.picky_ask.specs.declared.question.Question.{Question}
use Rattle.picky_wire_base.specs.Outcome.{map_err}
use Rattle.picky_target.specs.declared.target.KeyTarget.{KeyTarget}
use Rattle.picky_conversion.specs.Convert.{IsConversion, conversion, converting_asks}
use Rattle.picky_conversion.specs.Outside.{outside as outside_given}
use Rattle.picky_conversion.specs.declared.given.ConversionGiven.{ConversionGiven}
use Rattle.picky_c.specs.Answer.{HandsAs, RefusesCall}
use Rattle.picky_c.specs.Calls.{IsConverted, converted, converting_is_asked, entries_of}
use Rattle.picky_c.specs.Given.{Given, outside}
use Rattle.picky_c.specs.Number.{error_number}
use Rattle.picky_c.specs.Refusal.{refusal_of}
use Rattle.picky_c.specs.declared.answer.PickyAnswer.{PickyAnswer}
use Rattle.picky_c.specs.declared.error.AnswersError.{AnswersError}
use Rattle.picky_c.specs.declared.error.AnswersError.TheVariants as answers
use Rattle.picky_c.specs.declared.error.PickyError.{PickyError}
use Rattle.picky_c.specs.declared.error.PickyError.TheVariants as errors
use Rattle.picky_c.specs.declared.round.Round.{Round}
use Rattle.picky_c.specs.declared.round.Round.TheVariants as rounds

-- ---- what is left

-- the question is left: something is to be opened or sealed, it is a suite's, no answer is one to it, and there are fewer than four
pub record IsLeft (asked : Bool) (entries : List Entry) (q : Question) : Type 0 where
  pub is_asked : asked ≡ true
  pub lacked : IsLacked entries q
  pub few : length entries < 4

-- a reason of the answers or of the question that is asked, and not of what the table is
abbrev pub IsOfAnswer : List Entry → AnswersError → Type 0
IsOfAnswer entries answers.EndsInEntry = ⊥
IsOfAnswer entries answers.LengthPastEnd = ⊥
IsOfAnswer entries answers.NoQuestion = ⊥
IsOfAnswer entries answers.WrongLength = HasOtherLength entries
IsOfAnswer entries answers.Contradiction = IsContradicted entries
IsOfAnswer entries answers.Misplaced = 0 < length entries
IsOfAnswer entries answers.TooLong = Unit {0}
IsOfAnswer entries answers.UnknownByte = ⊥

abbrev pub RefusesAnswer : List Entry → PickyError → Type 0
RefusesAnswer entries e = (reason : AnswersError) × (e ≡ errors.Answers reason) × IsOfAnswer entries reason

-- a round comes to what the definition says; in its place a question may be left, the answers be refused where one is asked for,
-- or memory run out
abbrev pub GivesRound : (says : Result (List ℕ) PickyError) → (asked : Bool) → List Entry → Result Round PickyError → Type 0
GivesRound says asked entries (Ok (rounds.Text bytes)) = says ≡ Ok bytes.items
GivesRound says asked entries (Ok (rounds.Question bytes)) = (q : Question) × (bytes.items ≡ question_of q) × IsLeft asked entries q
GivesRound says asked entries (Err e) = (e ≡ errors.NoMemory) ⊎ ((asked ≡ true) × RefusesAnswer entries e) ⊎ (says ≡ Err e)

-- this holds of the text, where there is one
abbrev pub IfText : Result Round PickyError → (List ℕ → Type 0) → Type 0
IfText (Ok (rounds.Text bytes)) P = P bytes.items
IfText (Ok (rounds.Question bytes)) P = Unit {0}
IfText (Err e) P = Unit {0}

-- ---- what a refusal comes to, by why a device of answers has none

-- the question's bytes; in their place it may be too long for them, or memory run out
abbrev pub LeavesQuestion : Question → Result Round PickyError → Type 0
LeavesQuestion q (Ok (rounds.Text bytes)) = ⊥
LeavesQuestion q (Ok (rounds.Question bytes)) = bytes.items ≡ question_of q
LeavesQuestion q (Err e) = (e ≡ errors.NoMemory) ⊎ (e ≡ errors.Answers answers.TooLong)

abbrev pub IsUnanswered : PickyError → Option Missing → Result Round PickyError → Type 0
IsUnanswered errors.NoCipher (Some (missings.Asked q)) result = LeavesQuestion q result
IsUnanswered errors.NoCipher (Some missings.WrongLength) result = result ≡ Err (errors.Answers answers.WrongLength)
IsUnanswered errors.NoCipher (Some missings.Contradiction) result = result ≡ Err (errors.Answers answers.Contradiction)
IsUnanswered errors.NoCipher (Some missings.Misplaced) result = result ≡ Err (errors.Answers answers.Misplaced)
IsUnanswered errors.NoCipher (Some missings.TooLong) result = result ≡ Err (errors.Answers answers.TooLong)
IsUnanswered errors.NoCipher (Some missings.NoMemory) result = result ≡ Err errors.NoMemory
IsUnanswered e missing result = result ≡ Err e

-- a round of what is UTF-8
pub record ConvertsRound (m : Meanings) (target : KeyTarget) (given : ConversionGiven) (text : List ℕ) (entries : List Entry)
    (round : Result Round PickyError) : Type 0 where
  pub gives : GivesRound (map_err refusal_of (conversion (outside_given m given) target text))
      (converting_asks (outside_given m given) target text) entries round
  pub means : IfText round (IsConversion (outside_given m given) target text)

-- a target that a number names, or the reason why it names none
abbrev pub IsNumbered : Result KeyTarget PickyError → Type 0
IsNumbered to = (e : PickyError) → to ≡ Err e → e ≡ errors.NoSuchTarget

-- what is refused of an answer, where none is taken, is the want of a cipher
abbrev pub without_answers : PickyError → PickyError
without_answers (errors.Answers e) = errors.NoCipher
without_answers e = e

-- and so is a question
abbrev pub IsWithoutAnswers : Result Round PickyError → Result (List ℕ) PickyError → Type 0
IsWithoutAnswers (Ok (rounds.Text bytes)) result = result ≡ Ok bytes.items
IsWithoutAnswers (Ok (rounds.Question bytes)) result = result ≡ Err errors.NoCipher
IsWithoutAnswers (Err e) result = result ≡ Err (without_answers e)

-- the bytes are the target's one text under some meanings
abbrev pub IsTextUnder : Meanings → KeyTarget → Given → (bytes : List ℕ) → Type 0
IsTextUnder m target g bytes = IsConversion (outside m g) target g.text bytes

-- ---- what is handed out

-- a text, a question or neither
abbrev pub HandsRound : Result Round PickyError → PickyAnswer → (old new : List ℕ) → Type 0
HandsRound (Ok (rounds.Text bytes)) answer old new = HandsAs 0 bytes.items answer old new
HandsRound (Ok (rounds.Question bytes)) answer old new = HandsAs (error_number errors.Asked) bytes.items answer old new
HandsRound (Err e) answer old new = RefusesCall e answer old new

-- a conversion by answers is a round of it, of whose text this holds
pub record AnswersRound (m : Meanings) (target : Result KeyTarget PickyError) (g : Given) (answer : PickyAnswer)
    (old new : List ℕ) : Type 0 where
  pub round : Result Round PickyError
  pub handed : HandsRound round answer old new
  pub gives : GivesRound (converted m target g) (converting_is_asked m target g) (entries_of g) round
  pub means : IfText round (IsConverted m target g)
