-- Lines behind lines, and how many lines a block has.
use Rattle.std.proofs.Common.{◌≡◌, ◌+◌, ◌*◌, ◌/◌, ◌≤◌, ℕ, List, [], ◌++◌, length}
use Rattle.std.proofs.Common.{true}
use Rattle.std.proofs.Common.{refl, ap, ◌∙◌, arith}
use Rattle.std.proofs.lemmas.Bool.Decides.{nat_tests}
use Rattle.std.proofs.lemmas.List.{append_assoc}
use Rattle.std.proofs.lemmas.Grind.{flat_map-append}
use Rattle.std.specs.Int.{div_ceil}
use Rattle.picky_text.specs.Base64.{base64_of}
use Rattle.picky_text.proofs.Base64Laws.{length_base64}
use Rattle.picky_text.specs.Lines.{text_of, end_bytes}
use Rattle.picky_text.specs.Rows.{rows_of}
use Rattle.picky_text.specs.declared.lines.LineEnd.{LineEnd}
use Rattle.picky_kv.proofs.WriteLemmas.{length-rows_of}
use Rattle.picky_ppk_file.specs.Written.{fits_block}

-- The text of lines and then others is theirs and then the others'.
pub text_of-append : (end : LineEnd) (a b : List (List ℕ)) → text_of end (a ++ b) ≡ text_of end a ++ text_of end b
unfolding text_of
text_of-append end a b = flat_map-append (λ line. line ++ end_bytes end) a b

-- the same before more
pub text_of-then : (end : LineEnd) (a b : List (List ℕ)) (more : List ℕ)
    → text_of end (a ++ b) ++ more ≡ text_of end a ++ (text_of end b ++ more)
text_of-then end a b more =
    ap (λ t. t ++ more) (text_of-append end a b) ∙ append_assoc (text_of end a) (text_of end b) more

-- no lines have no text
pub text_of-nil : (end : LineEnd) → text_of end [] ≡ []
unfolding text_of
text_of-nil end = refl

rows_by_number : (bytes base64 rows : ℕ) → bytes ≤ 3145680 → base64 ≡ 4 * ((bytes + 2) / 3) → rows ≡ div_ceil base64 64
    → rows ≤ 65535
rows_by_number bytes base64 rows few is are = omega arith

fits : (bytes : List ℕ) → fits_block bytes ≡ true → length bytes ≤ 3145680
fits bytes test = grind (arith, nat_tests, test)

-- Bytes that fit a block have so few rows.
pub few_rows : (bytes : List ℕ) → fits_block bytes ≡ true → length (rows_of (base64_of bytes)) ≤ 65535
few_rows bytes test =
    rows_by_number (length bytes) (length (base64_of bytes)) (length (rows_of (base64_of bytes))) (fits bytes test)
    (length_base64 bytes) (length-rows_of (base64_of bytes))
