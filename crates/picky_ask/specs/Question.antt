-- A question as bytes, and an entry, which is a question and its answer.
use Rattle.std.specs.Prelude.{◌<◌, ◌^◌, ◌++◌, List, ℕ, length}
use Rattle.picky_wire_base.specs.Wire.{string_of}
use Rattle.picky_ask.specs.declared.question.Question.{Question}
use Rattle.picky_ask.specs.declared.question.Entry.{Entry}
use Rattle.picky_ask.specs.Head.{head_of, IsHead}

-- string head
-- string text
unfoldable pub question_of : Question → List ℕ
question_of q = string_of (head_of q.head) ++ string_of q.text

-- the question
-- string answer
unfoldable pub entry_of : Entry → List ℕ
entry_of e = question_of e.question ++ string_of e.answer

-- what has a spelling
pub record IsQuestion (q : Question) : Type 0 where
  pub head : IsHead q.head
  pub short : length (head_of q.head) < 2 ^ 32
  pub text : length q.text < 2 ^ 32

pub record IsEntry (e : Entry) : Type 0 where
  pub question : IsQuestion e.question
  pub answer : length e.answer < 2 ^ 32
