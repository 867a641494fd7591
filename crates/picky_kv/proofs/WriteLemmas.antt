-- The text of lines, and when it is too long.
use Rattle.std.proofs.Common.{◌≡◌, ℕ, zero, suc, ◌-◌, ◌^◌, ◌<◌, ◌≤◌, false}
use Rattle.std.proofs.Common.{List, []}
use Rattle.std.proofs.Common.{◌∷◌, ◌++◌, length, drop, refl, ap, arith}
use Rattle.std.proofs.Common.{Err}
use Rattle.std.proofs.lemmas.Bool.Decides.{nat_tests}
use Rattle.std.proofs.lemmas.List.{append_assoc, append-nil, length-append, length-drop}
use Rattle.std.specs.Prelude.{nat_lt, codes}
use Rattle.std.specs.Fmt.{decimal}
use Rattle.std.specs.Int.{div_ceil}
use Rattle.std.specs.List.{concat}
use Rattle.picky_text.specs.Lines.{text_of, end_bytes}
use Rattle.picky_text.specs.Rows.{rows_of, rows_within}
use Rattle.picky_text.proofs.RowLaws.{rows_of_are_rows}
use Rattle.picky_text.specs.declared.lines.LineEnd.{LineEnd}
use Rattle.picky_kv.specs.Output.{LinesOutput, extended, with_lines, with_block, pair_line, block_lines}
use Rattle.picky_kv.specs.declared.error.KvError.TheVariants.{TooLong}

-- a line before others
pub text_of_cons : (end : LineEnd) (line : List ℕ) (more : List (List ℕ))
    → text_of end (line ∷ more) ≡ line ++ end_bytes end ++ text_of end more
unfolding text_of
text_of_cons end line more = refl

-- a line alone
pub text_of_one : (end : LineEnd) (line : List ℕ) → text_of end (line ∷ []) ≡ line ++ end_bytes end
unfolding text_of
text_of_one end line = append-nil (line ++ end_bytes end)

-- so a line's text and that of others, behind a text, are that of all
pub text_of_one_more : (text : List ℕ) (end : LineEnd) (line : List ℕ) (more : List (List ℕ))
    → text ++ text_of end (line ∷ []) ++ text_of end more ≡ text ++ text_of end (line ∷ more)
text_of_one_more text end line more =
    rw (text_of_one end line, text_of_cons end line more) (simp append_assoc)

-- the text of lines is as long as they are, or longer
pub length-text_of-joined : (end : LineEnd) (lines : List (List ℕ))
    → length (concat lines) ≤ length (text_of end lines)
length-text_of-joined end [] = omega arith
length-text_of-joined end (line ∷ more) =
    let later = length-text_of-joined end more in
    let whole = length-append line (concat more) in
    rw (text_of_cons end line more) (omega (
      arith,
      later,
      whole,
      length-append (line ++ end_bytes end) (text_of end more),
      length-append line (end_bytes end),
    ))

-- a piece of 2^32 bytes or more is too long behind any text
pub extended_too_long : (out : LinesOutput) (piece : List ℕ) → 2 ^ 32 ≤ length piece
    → extended out piece ≡ Err TooLong
extended_too_long out piece long =
    let whole = length-append out.text piece in
    let over : 2 ^ 32 ≤ length (out.text ++ piece) = omega arith in
    let test : nat_lt (length (out.text ++ piece)) (2 ^ 32) ≡ false =
    grind (arith, nat_tests, over) in
    rw test refl

-- a line of such a value
pub pair_too_long : (out : LinesOutput) (key value : List ℕ) → 2 ^ 32 ≤ length value
    → with_lines out (pair_line key value ∷ []) ≡ Err TooLong
pair_too_long out key value long =
    let line : List ℕ = pair_line key value in
    let front = length-append (key ++ codes ": ") value in
    let whole = length-append line (end_bytes out.end) in
    extended_too_long out (text_of out.end (line ∷ []))
    (rw (text_of_one out.end line) (omega arith))

-- a block of such a value
pub block_too_long : (out : LinesOutput) (key value : List ℕ) → 2 ^ 32 ≤ length value
    → with_block out key value ≡ Err TooLong
block_too_long out key value long =
    let rows : List (List ℕ) = rows_of value in
    let same : concat rows ≡ value = (rows_of_are_rows value).joined in
    let sized : length (concat rows) ≡ length value = ap length same in
    let later = length-text_of-joined out.end (block_lines key value) in
    let head : List ℕ = pair_line key (decimal (length rows)) in
    let joined = length-append head (concat rows) in
    let over : 2 ^ 32 ≤ length (text_of out.end (block_lines key value)) = omega arith in
    rw (extended_too_long out (text_of out.end (block_lines key value)) over) refl

-- one row takes up to 64 characters
one_row_more : (size left rows : ℕ) → 0 < size → left ≡ size - 64 → rows ≡ div_ceil left 64
    → suc rows ≡ div_ceil size 64
one_row_more size left rows some less is = omega arith

-- so many rows there are within enough steps
length-rows_within : (n : ℕ) (text : List ℕ) → length text ≤ n
    → length (rows_within n text) ≡ div_ceil (length text) 64
length-rows_within zero [] few = refl
length-rows_within zero (b ∷ bs) few = absurd (omega arith)
length-rows_within (suc n) [] few = refl
length-rows_within (suc n) (b ∷ bs) few =
    let rest : List ℕ = drop 64 (b ∷ bs) in
    let shorter : length rest ≡ length (b ∷ bs) - 64 = length-drop 64 (b ∷ bs) in
    let later = length-rows_within n rest (omega arith) in
    one_row_more (length (b ∷ bs)) (length rest) (length (rows_within n rest)) (omega arith)
    shorter later

-- so many rows does a text have
pub length-rows_of : (text : List ℕ) → length (rows_of text) ≡ div_ceil (length text) 64
unfolding rows_of
length-rows_of text = length-rows_within (length text) text (omega arith)
