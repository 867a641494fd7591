-- What a table's completion derives, seals and opens.
use Rattle.std.specs.Prelude.{◌&&◌, ◌==◌, List, ℕ, Option, None, Some, length, if◌then◌else◌, unwrap_or}
use Rattle.std.specs.Str.{bytes_eq}
use Rattle.picky_suite.specs.Zeros.{zeros}
use Rattle.picky_ask.specs.declared.lookup.Mode.{Mode}
use Rattle.picky_ask.specs.declared.question.Entry.{Entry}
use Rattle.picky_ask.specs.Lookup.{all_bytes, first_side}

-- the answer, where it is so many bytes; else zero bytes
unfoldable pub derived : ℕ → Option (List ℕ) → List ℕ
derived n None = zeros n
derived n (Some answer) = if (length answer == n) && all_bytes answer then answer else zeros n

-- what g gives, where g gives the text back for it; else the text. Whatever g is, this undoes itself.
unfoldable pub mutually : (List ℕ → List ℕ) → List ℕ → List ℕ
mutually g text = if bytes_eq (g (g text)) text then g text else text

-- the other side of the first pair that has the text; the text itself, where there is none
abbrev pub other_side : Mode → (key iv text : List ℕ) → List Entry → List ℕ
other_side mode key iv text entries = unwrap_or (first_side mode key iv text entries) text

-- the text exchanged for the other side of its pair
abbrev pub exchanged : Mode → (key iv : List ℕ) → List Entry → (text : List ℕ) → List ℕ
exchanged mode key iv entries text = mutually (λ it. other_side mode key iv it entries) text
