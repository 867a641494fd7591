-- A table of answers as bytes: its entries one after another, each as three strings.
use Rattle.std.specs.Prelude.{List, ℕ, Result}
use Rattle.picky_wire_base.specs.Grammar.{Grammar}
use Rattle.picky_wire_base.specs.Narrowed.{Narrowing}
use Rattle.picky_wire_base.specs.Combine.{done, narrow, tag, ◌>>=◌}
use Rattle.picky_wire_base.specs.Row.{read_all}
use Rattle.picky_wire_base.specs.Wire.{byte_array, uint32}
use Rattle.picky_ask.specs.declared.question.Head.{Head}
use Rattle.picky_ask.specs.declared.question.Entry.{Entry}
use Rattle.picky_ask.specs.declared.table.TableError.{TableError}
use Rattle.picky_ask.specs.declared.table.TableError.TheVariants as errors
use Rattle.picky_ask.specs.Head.{head}
use Rattle.picky_ask.specs.Whole.{whole_only}
use Rattle.picky_ask.specs.carried.Table.{whole_sound, whole_complete}

-- a string of an entry, which may end in its length, or before as many bytes as that says
unfoldable pub string_whole : Grammar TableError (List ℕ)
string_whole = do
  len ← tag (λ _. errors.EndsInEntry) uint32
  tag (λ _. errors.LengthPastEnd) (byte_array len)

-- bytes that are one head, with nothing behind it
abbrev pub one_head : Narrowing TableError (List ℕ) Head
one_head = record {
  means = λ bytes h. head.piece h bytes;
  decide = λ bytes. whole_only errors.NoQuestion (head.read bytes);
  sound = whole_sound head errors.NoQuestion;
  complete = whole_complete head errors.NoQuestion;
}

abbrev pub made_entry : Head → (text answer : List ℕ) → Entry
made_entry h text answer = record { question = record { head = h; text = text }; answer = answer }

-- string head, all of it one head
-- string text
-- string answer
unfoldable pub entry : Grammar TableError Entry
entry = do
  h ← narrow string_whole one_head
  text ← string_whole
  answer ← string_whole
  done (made_entry h text answer)

-- the entries that the bytes are made of, or why they are none
abbrev pub table_of : List ℕ → Result (List Entry) TableError
table_of bytes = read_all entry bytes
