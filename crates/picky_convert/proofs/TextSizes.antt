-- How long texts are at most: of lines and rows, of base64, decimals, quotes, and of the wire's strings and numbers.
use Rattle.std.proofs.Common.{◌≡◌, ◌≤◌, ◌<◌, ◌+◌, ◌*◌, ◌^◌, ℕ, Bool, true, false, List, [], ◌∷◌, ◌++◌, length, slice_index, ap}
use Rattle.std.proofs.Common.{sym, arith, inl, inr, subst}
use Rattle.std.proofs.lemmas.Bool.{cases_lt}
use Rattle.std.proofs.lemmas.List.{length-append}
use Rattle.std.proofs.lemmas.Fmt.{length-decimal-le_succ}
use Rattle.std.specs.Prelude.{if◌then◌else◌}
use Rattle.std.specs.Fmt.{decimal}
use Rattle.std.specs.List.{concat}
use Rattle.picky_wire_base.specs.Mpint.{mpint_of}
use Rattle.picky_wire_base.proofs.MpintLaws.{mpint_of_high, mpint_of_low}
use Rattle.picky_text.specs.Base64.{base64_of}
use Rattle.picky_text.specs.Lines.{end_bytes, text_of}
use Rattle.picky_text.specs.Quote.{is_special, quote}
use Rattle.picky_text.specs.Rows.{AreRows, rows_of}
use Rattle.picky_text.specs.declared.lines.LineEnd.{LineEnd}
use Rattle.picky_text.specs.declared.lines.LineEnd.TheVariants.{Lf, CrLf}
use Rattle.picky_text.proofs.Base64Laws.{length_base64}
use Rattle.picky_text.proofs.RowLaws.{rows_of_are_rows}
use Rattle.picky_wire_base.proofs.PieceLemmas.{length-string_of}

-- ---- strings and numbers

pub mpint_size : (v : List ℕ) → length (mpint_of v) ≤ length v + 5
mpint_size v = elim (cases_lt (slice_index v 0) 128) [
  | inl low ↦ subst (λ w. length w ≤ length v + 5) (sym (mpint_of_low v low)) (omega (arith, length-string_of v))
  | inr high ↦ subst (λ w. length w ≤ length v + 5) (sym (mpint_of_high v high)) (omega (arith, length-string_of (0 ∷ v)))
]

pub concat_size : (x : List ℕ) (xs : List (List ℕ)) → length (concat (x ∷ xs)) ≡ length x + length (concat xs)
concat_size x xs = length-append x (concat xs)

-- ---- lines

-- what lines come to with their ends, of at most two bytes each
abbrev pub lines_size : List (List ℕ) → ℕ
lines_size [] = 0
lines_size (line ∷ more) = length line + 2 + lines_size more

end_size : (end : LineEnd) → length (end_bytes end) ≤ 2
end_size Lf = omega arith
end_size CrLf = omega arith

pub text_size : (end : LineEnd) (ls : List (List ℕ)) → length (text_of end ls) ≤ lines_size ls
unfolding text_of
text_size end [] = omega arith
text_size end (line ∷ more) =
    omega (
      arith,
      length-append (line ++ end_bytes end) (text_of end more),
      length-append line (end_bytes end),
      end_size end,
      text_size end more,
    )

pub lines_size-append : (xs ys : List (List ℕ)) → lines_size (xs ++ ys) ≡ lines_size xs + lines_size ys
lines_size-append [] ys = omega arith
lines_size-append (x ∷ xs) ys = omega (arith, lines_size-append xs ys)

-- ---- rows

rows_are_short : (rows : List (List ℕ)) → AreRows rows → lines_size rows ≤ 3 * length (concat rows)
rows_are_short [] sized = omega arith
rows_are_short (row ∷ []) sized = omega (arith, sized.0, length-append row [])
rows_are_short (row ∷ next ∷ more) sized =
    omega (arith, sized.0, rows_are_short (next ∷ more) sized.1, length-append row (concat (next ∷ more)))

rows_are_few : (rows : List (List ℕ)) → AreRows rows → length rows ≤ length (concat rows)
rows_are_few [] sized = omega arith
rows_are_few (row ∷ []) sized = omega (arith, sized.0, length-append row [])
rows_are_few (row ∷ next ∷ more) sized =
    omega (arith, sized.0, rows_are_few (next ∷ more) sized.1, length-append row (concat (next ∷ more)))

pub rows_size : (text : List ℕ) → lines_size (rows_of text) ≤ 3 * length text
rows_size text =
    let is = rows_of_are_rows text in
    omega (arith, rows_are_short (rows_of text) is.sized, ap length is.joined)

pub rows_count : (text : List ℕ) → length (rows_of text) ≤ length text
rows_count text =
    let is = rows_of_are_rows text in
    omega (arith, rows_are_few (rows_of text) is.sized, ap length is.joined)

-- ---- words

pub base64_size : (bytes : List ℕ) → length (base64_of bytes) ≤ 2 * length bytes + 8
base64_size bytes = omega (arith, length_base64 bytes)

pub decimal_size : (n : ℕ) → n < 2 ^ 32 → length (decimal n) ≤ n + 1
decimal_size n small = length-decimal-le_succ n (omega arith)

pub quote_size : (bytes : List ℕ) → length (quote bytes) ≤ 2 * length bytes
quote_size [] = omega arith
quote_size (b ∷ bytes) = go (is_special b) (quote_size bytes)
  where
    go : (special : Bool) → length (quote bytes) ≤ 2 * length bytes
        → length (if special then 92 ∷ b ∷ quote bytes else b ∷ quote bytes) ≤ 2 * length (b ∷ bytes)
    go true more = omega (arith, more)
    go false more = omega (arith, more)
