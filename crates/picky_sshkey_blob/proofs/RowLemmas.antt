-- The base64 of bytes, a row of 48 bytes at a time, and how long its rows are.
use Rattle.std.proofs.Common.{◌≡◌, ◌<◌, ◌≤◌, ◌+◌, ◌-◌, ◌*◌, ◌/◌, ℕ, zero, suc, List, [], ◌∷◌, ◌++◌, length, take, drop, min}
use Rattle.std.proofs.Common.{refl, sym, ap, ◌∙◌, arith, inl, inr}
use Rattle.std.proofs.lemmas.Bool.{cases_lt}
use Rattle.std.proofs.lemmas.List.{append_assoc, length-append, length-take, length-drop, take-append-drop, take_at, drop_at}
use Rattle.std.proofs.lemmas.List.{take_all, drop_all, take_min, drop_min, nil_from_length}
use Rattle.std.specs.List.{flat_map}
use Rattle.picky_text.specs.Base64.{base64_of}
use Rattle.picky_text.specs.Lines.{text_of}
use Rattle.picky_text.specs.Rows.{rows_of}
use Rattle.picky_text.specs.declared.lines.LineEnd.TheVariants.{Lf}
use Rattle.picky_text.proofs.Base64Laws.{length_base64, base64_append, base64_nil}
use Rattle.picky_text.proofs.RowLaws.{rows_more}
use Rattle.picky_text.proofs.RowLemmas.{text_of_no_row}

-- ---- written

-- the base64 of bytes begins with that of the first 48, which is its first row
record IsRowSplit (bytes : List ℕ) : Type 0 where
  front : base64_of (take 48 bytes) ≡ take 64 (base64_of bytes)
  back : base64_of (drop 48 bytes) ≡ drop 64 (base64_of bytes)

row_split : (bytes : List ℕ) → IsRowSplit bytes
row_split bytes = elim (cases_lt 48 (length bytes)) [
  | inl long ↦
      let x : List ℕ = take 48 bytes in
      let y : List ℕ = drop 48 bytes in
      let full : length x ≡ 48 = omega (arith, length-take 48 bytes) in
      let row : length (base64_of x) ≡ 64 = omega (arith, length_base64 x) in
      let both = ap base64_of (sym (take-append-drop 48 bytes)) ∙ base64_append x y (omega (arith, full)) in
      record {
        front = sym (ap (take 64) both ∙ take_at (base64_of x) (base64_of y) 64 row);
        back = sym (ap (drop 64) both ∙ drop_at (base64_of x) (base64_of y) 64 row);
      }
  | inr short ↦
      let row : length (base64_of bytes) ≤ 64 = omega (arith, length_base64 bytes) in
      record {
        front = ap base64_of (take_all 48 bytes short) ∙ sym (take_all 64 (base64_of bytes) row);
        back = ap base64_of (drop_all 48 bytes short) ∙ base64_nil ∙ sym (drop_all 64 (base64_of bytes) row);
      }
]

-- The first row of the base64 of bytes, its LF, and the other rows.
pub rows_of_base64 : (bytes row more : List ℕ) (n : ℕ) → 0 < length bytes → n ≡ min (length bytes) 48
    → row ≡ take n bytes → more ≡ drop n bytes
    → text_of Lf (rows_of (base64_of bytes)) ≡ base64_of row ++ (10 ∷ []) ++ text_of Lf (rows_of (base64_of more))
unfolding text_of
rows_of_base64 bytes row more n some n_is row_is more_is =
    let split = row_split bytes in
    let k : n ≡ min 48 (length bytes) = omega arith in
    let front : base64_of row ≡ take 64 (base64_of bytes) = ap base64_of (row_is ∙ ap (λ m. take m bytes) k ∙ take_min 48 bytes)
    ∙ split.front in
    let back : base64_of more ≡ drop 64 (base64_of bytes) = ap base64_of (more_is ∙ ap (λ m. drop m bytes) k ∙ drop_min 48 bytes)
    ∙ split.back in
    let long : 0 < length (base64_of bytes) = omega (arith, length_base64 bytes) in
    rw (rows_more (base64_of bytes) long, front, back) refl

-- One more row was written.
pub rows_go_on : (now mid next bytes row more all : List ℕ) (n : ℕ) → 0 < length bytes → n ≡ min (length bytes) 48
    → row ≡ take n bytes → more ≡ drop n bytes → mid ≡ now ++ base64_of row → next ≡ mid ++ 10 ∷ []
    → now ++ text_of Lf (rows_of (base64_of bytes)) ≡ all → next ++ text_of Lf (rows_of (base64_of more)) ≡ all
rows_go_on now mid next bytes row more all n some n_is row_is more_is mid_is next_is so_far =
    let rest : List ℕ = text_of Lf (rows_of (base64_of more)) in
    let left = rows_of_base64 bytes row more n some n_is row_is more_is in
    let whole : now ++ (base64_of row ++ (10 ∷ []) ++ rest) ≡ ((now ++ base64_of row) ++ 10 ∷ []) ++ rest = simp append_assoc in
    ap (λ l. l ++ rest) (next_is ∙ ap (λ l. l ++ 10 ∷ []) mid_is) ∙ sym whole ∙ ap (λ l. now ++ l) (sym left) ∙ so_far

-- No bytes have no row.
pub rows_of_nothing : text_of Lf (rows_of (base64_of [])) ≡ []
rows_of_nothing = ap (λ l. text_of Lf (rows_of l)) base64_nil ∙ text_of_no_row Lf

-- ---- how long

-- the first row, its LF and the other rows
length_first : (text : List ℕ) → 0 < length text
    → length (text_of Lf (rows_of text)) ≡ length (take 64 text) + 1 + length (text_of Lf (rows_of (drop 64 text)))
unfolding text_of
length_first text some =
    let row : List ℕ = take 64 text in
    let more : List ℕ = flat_map (λ line. line ++ 10 ∷ []) (rows_of (drop 64 text)) in
    ap (λ rows. length (flat_map (λ line. line ++ 10 ∷ []) rows)) (rows_more text some)
    ∙ length-append (row ++ 10 ∷ []) more ∙ ap (λ n. n + length more) (length-append row (10 ∷ []))

-- the text of rows is a byte longer for each row
length_rows_within : (k : ℕ) (text : List ℕ) → length text ≤ 64 * k
    → length (text_of Lf (rows_of text)) ≡ length text + (length text + 63) / 64
length_rows_within zero text few =
    let none : text ≡ [] = nil_from_length text (omega arith) in
    rw none (ap length (text_of_no_row Lf))
length_rows_within (suc k) text few = elim (cases_lt 0 (length text)) [
  | inl some ↦
      let row : List ℕ = take 64 text in
      let rest : List ℕ = drop 64 text in
      let longer : length rest ≡ length text - 64 = length-drop 64 text in
      let short = length-take 64 text in
      let more = length_rows_within k rest (omega arith) in
      length_first text some ∙ omega (arith, more)
  | inr none ↦
      let nothing : text ≡ [] = nil_from_length text (omega arith) in
      rw nothing (ap length (text_of_no_row Lf))
]

pub length_rows : (text : List ℕ) → length (text_of Lf (rows_of text)) ≡ length text + (length text + 63) / 64
length_rows text = length_rows_within (length text) text (omega arith)
