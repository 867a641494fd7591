-- What a suite's reason says of its table: why a call had no answer.
use Rattle.std.specs.Prelude.{◌≡◌, ◌<◌, false, true, List, ℕ, Option, None, Some, is_some, length}
use Rattle.picky_ask.specs.declared.lookup.Mode.{Mode}
use Rattle.picky_ask.specs.declared.missing.Missing.{Missing}
use Rattle.picky_ask.specs.declared.missing.Missing.TheVariants as missings
use Rattle.picky_ask.specs.declared.question.Entry.{Entry}
use Rattle.picky_ask.specs.declared.question.Head.{Head}
use Rattle.picky_ask.specs.declared.question.Head.TheVariants as heads
use Rattle.picky_ask.specs.declared.question.Question.{Question}
use Rattle.picky_ask.specs.Lookup.{answer_to, are_paired, asks_cipher}

-- how many bytes an answer has; of a signature and a verdict, for which no suite asks, nothing is said
abbrev pub wanted_len : Head → (text : List ℕ) → Option ℕ
wanted_len (heads.Bcrypt len rounds salt) text = Some len
wanted_len (heads.Argon2 kind memory passes parallelism salt) text = Some 80
wanted_len (heads.CbcSeal key iv) text = Some (length text)
wanted_len (heads.CbcOpen key iv) text = Some (length text)
wanted_len (heads.Ctr key iv) text = Some (length text)
wanted_len (heads.Sign by key) text = None
wanted_len (heads.Verify key signature) text = None

-- an answer to the question has so many bytes
abbrev pub Wants : Question → ℕ → Type 0
Wants q n = wanted_len q.head q.text ≡ Some n

-- a suite asks it
abbrev pub IsOfSuite : Question → Type 0
IsOfSuite q = is_some (wanted_len q.head q.text) ≡ true

-- a suite's question that no entry answers
pub record IsLacked (entries : List Entry) (q : Question) : Type 0 where
  pub of_suite : IsOfSuite q
  pub unlisted : answer_to q entries ≡ None

-- some answer has another length than its question wants
pub record HasOtherLength (entries : List Entry) : Type 0 where
  pub question : Question
  pub len : ℕ
  pub answer : List ℕ
  pub wants : Wants question len
  pub listed : answer_to question entries ≡ Some answer
  pub other : length answer ≡ len → ⊥

-- some answer of a cipher, as long as its text, isn't met as the other side of the text, or the text not as that of the answer
pub record IsContradicted (entries : List Entry) : Type 0 where
  pub mode : Mode
  pub key : List ℕ
  pub iv : List ℕ
  pub question : Question
  pub answer : List ℕ
  pub asks : asks_cipher mode key iv question.head ≡ true
  pub listed : answer_to question entries ≡ Some answer
  pub same : length answer ≡ length question.text
  pub apart : are_paired mode key iv question.text answer entries ≡ false

-- what a reason says of the table
abbrev pub HasCause : Missing → List Entry → Type 0
HasCause (missings.Asked q) entries = IsLacked entries q
HasCause missings.WrongLength entries = HasOtherLength entries
HasCause missings.Contradiction entries = IsContradicted entries
HasCause missings.Misplaced entries = 0 < length entries
HasCause missings.TooLong entries = Unit {0}
HasCause missings.NoMemory entries = Unit {0}
