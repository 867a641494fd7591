-- The laws of rows: each text has them, and has one list of them.
use Rattle.std.proofs.Common.{◌≡◌, ◌≢◌, ℕ, zero, suc, ◌<◌, ◌≤◌, ◌+◌, ◌-◌, List, [], ◌∷◌, ◌++◌, length, take}
use Rattle.std.proofs.Common.{drop, refl, sym, ◌∙◌, ap, arith, inl, inr, subst}
use Rattle.std.proofs.lemmas.Bool.{cases_lt}
use Rattle.std.proofs.lemmas.List.{length-append, length-drop, length-take, take-append-drop, take_at}
use Rattle.std.proofs.lemmas.List.{append_cancel_left}
use Rattle.std.specs.List.{AllByRecursion, concat}
use Rattle.picky_text.specs.Lines.{HasNo}
use Rattle.picky_text.proofs.ListLaws.{all_front, all_back}
use Rattle.picky_text.specs.Rows.{AreRows, IsRowsOf, rows_within, rows_of}

-- ---- each text has rows

-- enough steps are enough
within_enough : (m n : ℕ) (text : List ℕ) → length text ≤ m → length text ≤ n
    → rows_within m text ≡ rows_within n text
within_enough zero zero text few_m few_n = refl
within_enough zero (suc n) [] few_m few_n = refl
within_enough zero (suc n) (b ∷ bs) few_m few_n = absurd (omega arith)
within_enough (suc m) zero [] few_m few_n = refl
within_enough (suc m) zero (b ∷ bs) few_m few_n = absurd (omega arith)
within_enough (suc m) (suc n) [] few_m few_n = refl
within_enough (suc m) (suc n) (b ∷ bs) few_m few_n =
    let rest : List ℕ = drop 64 (b ∷ bs) in
    let shorter : length rest ≡ length (b ∷ bs) - 64 = length-drop 64 (b ∷ bs) in
    ap (λ l. take 64 (b ∷ bs) ∷ l) (within_enough m n rest (omega arith) (omega arith))

-- the first row of a text, and the rows of what follows it
pub rows_more : (text : List ℕ) → 0 < length text
    → rows_of text ≡ take 64 text ∷ rows_of (drop 64 text)
unfolding rows_of
rows_more [] some = absurd (omega arith)
rows_more (b ∷ bs) some =
    let rest : List ℕ = drop 64 (b ∷ bs) in
    let shorter : length rest ≡ length (b ∷ bs) - 64 = length-drop 64 (b ∷ bs) in
    ap (λ l. take 64 (b ∷ bs) ∷ l) (within_enough (length bs) (length rest) rest (omega arith)
    (omega arith))

joined_within : (n : ℕ) (text : List ℕ) → length text ≤ n → concat (rows_within n text) ≡ text
joined_within zero [] few = refl
joined_within zero (b ∷ bs) few = absurd (omega arith)
joined_within (suc n) [] few = refl
joined_within (suc n) (b ∷ bs) few =
    let rest : List ℕ = drop 64 (b ∷ bs) in
    let shorter : length rest ≡ length (b ∷ bs) - 64 = length-drop 64 (b ∷ bs) in
    ap (λ l. take 64 (b ∷ bs) ++ l) (joined_within n rest (omega arith))
    ∙ take-append-drop 64 (b ∷ bs)

-- one more row before others
sized_more : (n : ℕ) (row rest : List ℕ) → 0 < length row → length row ≤ 64
    → (0 < length rest → length row ≡ 64) → length rest ≤ n
    → AreRows (rows_within n rest) → AreRows (row ∷ rows_within n rest)
sized_more zero row [] some short full few are = (some, short)
sized_more zero row (c ∷ cs) some short full few are = absurd (omega arith)
sized_more (suc n) row [] some short full few are = (some, short)
sized_more (suc n) row (c ∷ cs) some short full few are = (full (omega arith), are)

sized_within : (n : ℕ) (text : List ℕ) → length text ≤ n → AreRows (rows_within n text)
sized_within zero text few = tt
sized_within (suc n) [] few = tt
sized_within (suc n) (b ∷ bs) few =
    let text : List ℕ = b ∷ bs in
    let longer : length (drop 64 text) ≡ length text - 64 = length-drop 64 text in
    let short = length-take 64 text in
    sized_more n (take 64 text) (drop 64 text) (omega arith) (omega arith) (λ more. omega arith)
    (omega arith)
    (sized_within n (drop 64 text) (omega arith))

-- `rows_of` gives the rows of a text
pub rows_of_are_rows : (text : List ℕ) → IsRowsOf text (rows_of text)
unfolding rows_of
rows_of_are_rows text = record {
  joined = joined_within (length text) text (omega arith);
  sized = sized_within (length text) text (omega arith);
}

-- ---- and one list of them

-- of the first row of some: its size, and that it is full where others follow
record IsFirstRow (row : List ℕ) (more : List (List ℕ)) : Type 0 where
  some : 0 < length row
  short : length row ≤ 64
  full : 0 < length (concat more) → length row ≡ 64
  rest : AreRows more

first_row : (row : List ℕ) (more : List (List ℕ)) → AreRows (row ∷ more) → IsFirstRow row more
first_row row [] are = record {
  some = are.0;
  short = are.1;
  full = λ none. absurd (omega arith);
  rest = tt;
}
first_row row (next ∷ more) are = record {
  some = omega arith;
  short = omega arith;
  full = λ some.
      are.0;
  rest = are.1;
}

-- so two first rows of one text are equally long
same_length : (a b x y : ℕ) → a ≤ 64 → b ≤ 64 → (0 < x → a ≡ 64) → (0 < y → b ≡ 64) → a + x ≡ b + y
    → a ≡ b
same_length a b x y short_a short_b full_a full_b total = elim (cases_lt 0 x) [
  | inl some_x ↦
      let a_full = full_a some_x in
      elim (cases_lt 0 y) [
        | inl some_y ↦
            let b_full = full_b some_y in
            omega arith
        | inr no_y ↦ omega arith
      ]
  | inr no_x ↦ elim (cases_lt 0 y) [
    | inl some_y ↦
        let b_full = full_b some_y in
        omega arith
    | inr no_y ↦ omega arith
  ]
]

same_rows : (xs ys : List (List ℕ)) → AreRows xs → AreRows ys → concat xs ≡ concat ys → xs ≡ ys
same_rows [] [] are_xs are_ys same = refl
same_rows [] (y ∷ ys) are_xs are_ys same =
    let first = first_row y ys are_ys in
    absurd (omega (arith, first.some, ap length same, length-append y (concat ys)))
same_rows (x ∷ xs) [] are_xs are_ys same =
    let first = first_row x xs are_xs in
    absurd (omega (arith, first.some, ap length same, length-append x (concat xs)))
same_rows (x ∷ xs) (y ∷ ys) are_xs are_ys same =
    let fx = first_row x xs are_xs in
    let fy = first_row y ys are_ys in
    let total : length x + length (concat xs) ≡ length y + length (concat ys) =
    omega (arith, ap length same, length-append x (concat xs), length-append y (concat ys)) in
    let long : length x ≡ length y = same_length _ _ _ _ fx.short fy.short fx.full fy.full total in
    let row : x ≡ y = sym (take_at x (concat xs) (length y) long) ∙ ap (take (length y)) same
    ∙ take_at y (concat ys) (length y) refl in
    let rest : concat xs ≡ concat ys = append_cancel_left y (concat xs) (concat ys)
    (ap (λ l. l ++ concat xs) (sym row) ∙ same) in
    let more = same_rows xs ys fx.rest fy.rest rest in
    cc

-- two lists of rows of one text are one list
pub rows_are_one : (text : List ℕ) (xs ys : List (List ℕ)) → IsRowsOf text xs → IsRowsOf text ys
    → xs ≡ ys
rows_are_one text xs ys of_xs of_ys = same_rows xs ys of_xs.sized of_ys.sized
    (of_xs.joined ∙ sym of_ys.joined)

-- ---- what stands in them

-- what holds of each byte of joined lists holds of each byte of each
pub all_in_parts : (P : ℕ → Type 0) (parts : List (List ℕ)) → AllByRecursion P (concat parts)
    → AllByRecursion (AllByRecursion P) parts
all_in_parts P [] all = tt
all_in_parts P (part ∷ parts) all =
    (all_front P part (concat parts) all, all_in_parts P parts (all_back P part (concat parts) all))

-- a byte that stands nowhere in a text stands in no row of it
pub rows_have_no : (b : ℕ) (text : List ℕ) → HasNo b text → AllByRecursion (HasNo b) (rows_of text)
rows_have_no b text none =
    let Q : List ℕ → Type 0 = HasNo b in
    all_in_parts (λ c. c ≢ b) (rows_of text) (subst Q (sym (rows_of_are_rows text).joined) none)

-- what `laws` states of rows
pub ruleset row_laws = (rows_of_are_rows, rows_are_one, rows_have_no)
