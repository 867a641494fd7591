-- The text of rows, a row at a time.
use Rattle.std.proofs.Common.{◌≡◌, ℕ, ◌<◌, ◌==◌, true, false, List, [], ◌++◌, length, take, drop}
use Rattle.std.proofs.Common.{min, refl, sym, ◌∙◌, ap, arith}
use Rattle.std.proofs.lemmas.List.{append_assoc, take_min, drop_min, nil_from_length}
use Rattle.std.proofs.lemmas.Bool.{eqb-true}
use Rattle.std.proofs.lemmas.Bool.Decides.{nat_tests}
use Rattle.std.specs.List.{flat_map}
use Rattle.picky_text.specs.Lines.{text_of, end_bytes}
use Rattle.picky_text.specs.Rows.{rows_of}
use Rattle.picky_text.proofs.RowLaws.{rows_more}
use Rattle.picky_text.specs.declared.lines.LineEnd.{LineEnd}

-- the first row of a text, its end, and the text of the other rows
pub text_of_first_row : (end : LineEnd) (text row more : List ℕ) (n : ℕ) → 0 < length text
    → n ≡ min (length text) 64 → row ≡ take n text → more ≡ drop n text
    → text_of end (rows_of text) ≡ row ++ (end_bytes end ++ text_of end (rows_of more))
unfolding text_of
text_of_first_row end text row more n some n_is row_is more_is =
    let k : n ≡ min 64 (length text) = omega arith in
    let front : row ≡ take 64 text = row_is ∙ ap (λ m. take m text) k ∙ take_min 64 text in
    let back : more ≡ drop 64 text = more_is ∙ ap (λ m. drop m text) k ∙ drop_min 64 text in
    let first = append_assoc (take 64 text) (end_bytes end)
    (flat_map (λ line. line ++ end_bytes end) (rows_of (drop 64 text))) in
    rw (rows_more text some, front, back) first

-- an empty text has none
pub text_of_no_row : (end : LineEnd) → text_of end (rows_of []) ≡ []
unfolding text_of rows_of
text_of_no_row end = refl

-- what the test says of a text that is not empty
pub some_left : (text : List ℕ) → false ≡ (length text == 0) → 0 < length text
some_left text test = grind (arith, nat_tests)

-- and of one that is
pub none_left : (text : List ℕ) → true ≡ (length text == 0) → text ≡ []
none_left text test = nil_from_length text (eqb-true _ _ (sym test))
