-- Answers looked up in a table. The first answer to a question counts, so what is added behind changes nothing that was answered.
use Rattle.std.specs.Prelude.{◌&&◌, ◌==◌, ◌+◌, ◌∷◌, [], List, ℕ, Bool, false, Option, None, Some, Result, Ok, Err, length}
use Rattle.std.specs.Prelude.{nat_lt, if◌then◌else◌}
use Rattle.std.specs.List.{list_all}
use Rattle.std.specs.Str.{bytes_eq}
use Rattle.picky_ask.specs.declared.missing.Missing.{Missing}
use Rattle.picky_ask.specs.declared.missing.Missing.TheVariants as missings
use Rattle.picky_ask.specs.declared.lookup.Mode.{Mode}
use Rattle.picky_ask.specs.declared.lookup.Mode.TheVariants as modes
use Rattle.picky_ask.specs.declared.question.Head.{Head}
use Rattle.picky_ask.specs.declared.question.Head.TheVariants as heads
use Rattle.picky_ask.specs.declared.question.Question.{Question}
use Rattle.picky_ask.specs.declared.question.Entry.{Entry}
use Rattle.picky_ask.specs.Same.{same_question, same_two}

-- the first answer to the question
unfoldable pub answer_to : Question → List Entry → Option (List ℕ)
answer_to q [] = None
answer_to q (e ∷ more) = if same_question q e.question then Some e.answer else answer_to q more

abbrev pub question : Head → (text : List ℕ) → Question
question h text = record { head = h; text = text }

-- what is made of an answer; where the table has none, the question is asked
abbrev pub judged : Question → (List ℕ → Result (List ℕ) Missing) → Option (List ℕ) → Result (List ℕ) Missing
judged q judge None = Err (missings.Asked q)
judged q judge (Some answer) = judge answer

-- ---- what is derived

-- an answer of so many bytes
abbrev pub of_len : ℕ → (answer : List ℕ) → Result (List ℕ) Missing
of_len n answer = if length answer == n then Ok answer else Err missings.WrongLength

-- the table's answer of so many bytes
abbrev pub derivation : Question → ℕ → List Entry → Result (List ℕ) Missing
derivation q n entries = judged q (of_len n) (answer_to q entries)

-- ---- what is sealed or opened: by a mode of AES, under a key and an iv

-- the question is one of the cipher
unfoldable pub asks_cipher : Mode → (key iv : List ℕ) → Head → Bool
asks_cipher modes.Cbc key iv (heads.CbcSeal k v) = same_two key iv k v
asks_cipher modes.Cbc key iv (heads.CbcOpen k v) = same_two key iv k v
asks_cipher modes.Ctr key iv (heads.Ctr k v) = same_two key iv k v
asks_cipher mode key iv h = false

-- each number is a byte, as those of each entry that code makes are
abbrev pub all_bytes : List ℕ → Bool
all_bytes bytes = list_all (λ b. nat_lt b 256) bytes

-- the entry pairs two texts of one length
unfoldable pub is_pair : Mode → (key iv : List ℕ) → Entry → Bool
is_pair mode key iv e =
    asks_cipher mode key iv e.question.head && (length e.question.text == length e.answer)
    && all_bytes e.question.text && all_bytes e.answer

-- the first of two, where there is one
abbrev pub or_later : Option (List ℕ) → Option (List ℕ) → Option (List ℕ)
or_later None later = later
or_later (Some x) later = Some x

-- the other side of the entry, where it is a pair that has the text on one of its sides
unfoldable pub side : Mode → (key iv text : List ℕ) → Entry → Option (List ℕ)
side mode key iv text e =
    if is_pair mode key iv e
    then (if bytes_eq e.question.text text then Some e.answer
    else if bytes_eq e.answer text then Some e.question.text else None)
    else None

-- that of the first such entry
unfoldable pub first_side : Mode → (key iv text : List ℕ) → List Entry → Option (List ℕ)
first_side mode key iv text [] = None
first_side mode key iv text (e ∷ more) = or_later (side mode key iv text e) (first_side mode key iv text more)

-- the side is there, and is this one
abbrev pub is_side : Option (List ℕ) → (other : List ℕ) → Bool
is_side None other = false
is_side (Some found) other = bytes_eq found other

-- each of the two texts is first met on the other side of the other
unfoldable pub are_paired : Mode → (key iv text answer : List ℕ) → List Entry → Bool
are_paired mode key iv text answer entries =
    is_side (first_side mode key iv text entries) answer && is_side (first_side mode key iv answer entries) text

-- an answer as long as the text, which no earlier entry contradicts
unfoldable pub paired : Mode → (key iv text : List ℕ) → List Entry → (answer : List ℕ) → Result (List ℕ) Missing
paired mode key iv text entries answer =
    if length answer == length text
    then (if are_paired mode key iv text answer entries then Ok answer else Err missings.Contradiction)
    else Err missings.WrongLength

abbrev pub exchange : Mode → (key iv : List ℕ) → Question → List Entry → Result (List ℕ) Missing
exchange mode key iv q entries = judged q (paired mode key iv q.text entries) (answer_to q entries)

-- ---- the order in which a suite uses its table

-- the place of the first entry that answers the question; the table's length, where there is none
unfoldable pub place_of : Question → List Entry → ℕ
place_of q [] = 0
place_of q (e ∷ more) = if same_question q e.question then 0 else place_of q more + 1

-- what a call says that comes after so many entries were used: where the next one stands before the place of its question, the
-- answer is out of its turn
abbrev pub in_turn : Question → (used : ℕ) → List Entry → Result (List ℕ) Missing → Result (List ℕ) Missing
in_turn q used entries says = if nat_lt used (place_of q entries) then Err missings.Misplaced else says
