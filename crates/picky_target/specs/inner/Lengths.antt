-- How long the lines of PuTTY's private key file are, by how long what they hold is.
use Rattle.std.specs.Prelude.{◌+◌, ◌*◌, ℕ, List, length}
use Rattle.std.specs.Fmt.{decimal}
use Rattle.std.specs.Int.{div_ceil}
use Rattle.picky_text.specs.Lines.{end_bytes}
use Rattle.picky_text.specs.declared.lines.LineEnd.{LineEnd}

-- the line of a key, with ": " and its end, for a value of so many bytes
abbrev pub line_len : LineEnd → (key : List ℕ) → (value_len : ℕ) → ℕ
line_len end key value_len = length key + 2 + value_len + length (end_bytes end)

-- the block of a key, for a value of so many bytes: the line of the count, and base64 in lines of 64 characters
abbrev pub block_len : LineEnd → (key : List ℕ) → (bytes_len : ℕ) → ℕ
block_len end key bytes_len =
    let base64_len = div_ceil bytes_len 3 * 4 in
    let count = div_ceil base64_len 64 in
    line_len end key (length (decimal count)) + base64_len + count * length (end_bytes end)
