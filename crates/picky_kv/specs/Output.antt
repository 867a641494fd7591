-- What a writer of lines holds, and what its calls append, after PuTTY's manual, Appendix C.
use Rattle.std.specs.Prelude.{◌^◌, ℕ, Bool, List, ◌∷◌, ◌++◌, length, nat_lt, if◌then◌else◌, Result, Ok, Err}
use Rattle.std.specs.Prelude.{codes}
use Rattle.std.specs.Fmt.{decimal}
use Rattle.picky_wire_base.specs.Outcome.{and_then}
use Rattle.picky_text.specs.Lines.{text_of}
use Rattle.picky_text.specs.Rows.{rows_of}
use Rattle.picky_text.specs.declared.lines.LineEnd.{LineEnd}
use Rattle.picky_text.specs.declared.lines.LineEnd.TheVariants.{Lf, CrLf}
use Rattle.picky_kv.specs.declared.error.KvError.{KvError}
use Rattle.picky_kv.specs.declared.error.KvError.TheVariants.{TooLong, TooManyLines}

-- what ends each line, and the text so far
pub record LinesOutput : Type 0 where
  pub end : LineEnd
  pub text : List ℕ

-- a file of version 2 has CRLF, one of version 3 LF
abbrev pub line_end : Bool → LineEnd
line_end crlf = if crlf then CrLf else Lf

-- the line of a key and a value
abbrev pub pair_line : List ℕ → List ℕ → List ℕ
pair_line key value = key ++ codes ": " ++ value

-- the lines of a block: how many follow, and the value's text in lines of 64 characters
abbrev pub block_lines : List ℕ → List ℕ → List (List ℕ)
block_lines key value = pair_line key (decimal (length (rows_of value))) ∷ rows_of value

-- the text with these bytes behind it, where it stays below 2^32 bytes
abbrev pub extended : LinesOutput → List ℕ → Result LinesOutput KvError
extended out piece =
    let text = out.text ++ piece in
    if nat_lt (length text) (2 ^ 32) then Ok (record { end = out.end; text = text })
    else Err TooLong

-- the text with these lines behind it
abbrev pub with_lines : LinesOutput → List (List ℕ) → Result LinesOutput KvError
with_lines out lines = extended out (text_of out.end lines)

-- the text with a block behind it, whose count has 16 bits
abbrev pub with_block : LinesOutput → List ℕ → List ℕ → Result LinesOutput KvError
with_block out key value =
    and_then (with_lines out (block_lines key value)) (λ new.
    if nat_lt 65535 (length (rows_of value)) then Err TooManyLines else Ok new)
