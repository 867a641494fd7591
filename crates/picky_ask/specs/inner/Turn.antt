-- Words of private contracts: an answer whose turn has come.
use Rattle.std.specs.Prelude.{◌≡◌, ◌≤◌, ◌<◌, List, ℕ, Some, Result, length}
use Rattle.picky_ask.specs.declared.missing.Missing.{Missing}
use Rattle.picky_ask.specs.declared.missing.Missing.TheVariants as missings
use Rattle.picky_ask.specs.declared.question.Question.{Question}
use Rattle.picky_ask.specs.Lookup.{answer_to, in_turn, judged, place_of}
use Rattle.picky_ask.specs.State.{State, IsUnasked}

-- the table's answer, and its place, of a question whose turn has come
pub record IsFound (q : Question) (place : ℕ) (answer : List ℕ) (s : State) : Type 0 where
  pub place_is : place_of q s.entries ≡ place
  pub turn : place ≤ s.used
  pub within : place < length s.entries
  pub listed : answer_to q s.entries ≡ Some answer

-- what a call says in its turn that makes this of an answer
abbrev pub turned : Question → (List ℕ → Result (List ℕ) Missing) → State → Result (List ℕ) Missing
turned q judge s = in_turn q s.used s.entries (judged q judge (answer_to q s.entries))

-- the question is asked, or can't be
abbrev pub IsAskedFor : Question → Missing → Type 0
IsAskedFor q (missings.Asked r) = r ≡ q
IsAskedFor q reason = IsUnasked q reason
