-- The base64 of bytes, by its groups of four: how long it is, where it is cut, and how it ends.
use Rattle.std.proofs.Common.{◌≡◌, ◌≢◌, ◌<◌, ◌≤◌, ◌+◌, ◌-◌, ◌*◌, ◌/◌, ◌%◌, ℕ, zero, suc, List, [], ◌∷◌}
use Rattle.std.proofs.Common.{◌++◌, length, take, drop}
use Rattle.std.proofs.Common.{◌==◌, not, replicate, slice_index, refl, sym, ap, ◌∙◌, subst, arith, inl, inr}
use Rattle.std.proofs.lemmas.Bool.{cases_lt}
use Rattle.std.proofs.lemmas.List.{length-append, length-take-le, length-replicate, take-append-drop}
use Rattle.std.proofs.lemmas.List.{take_at, drop_at, drop_all}
use Rattle.std.proofs.lemmas.List.{append-nil, nil_from_length, get_or-append_right, get_or-replicate}
use Rattle.std.proofs.lemmas.List.{get_or-drop}
use Rattle.std.proofs.lemmas.List.Sums.{AllPass-from_list_all}
use Rattle.std.specs.List.{AllByRecursion}
use Rattle.base64.specs.Engines.{standard}
use Rattle.base64.specs.Rfc4648.{encode_symbols}
use Rattle.picky_wire_base.specs.Numbers.{IsBytes}
use Rattle.picky_text.specs.Base64.{base64_of}
use Rattle.picky_text.proofs.Base64Laws.{base64_of_injective, base64_is_ascii, length_base64, base64_append, base64_nil}

-- ---- bytes

-- a front of bytes
pub bytes_front : (n : ℕ) (xs : List ℕ) → IsBytes xs → IsBytes (take n xs)
bytes_front zero xs small i = omega arith
bytes_front (suc n) [] small i = omega arith
bytes_front (suc n) (x ∷ xs) small zero = small 0
bytes_front (suc n) (x ∷ xs) small (suc i) = bytes_front n xs (λ k. small (suc k)) i

-- what follows it
pub bytes_back : (n : ℕ) (xs : List ℕ) → IsBytes xs → IsBytes (drop n xs)
bytes_back n xs small i = rw (get_or-drop n xs i 0) (small (n + i))

-- two, one behind the other
pub bytes_append : (xs ys : List ℕ) → IsBytes xs → IsBytes ys → IsBytes (xs ++ ys)
bytes_append [] ys left right i = right i
bytes_append (x ∷ xs) ys left right zero = left 0
bytes_append (x ∷ xs) ys left right (suc i) = bytes_append xs ys (λ k. left (suc k)) right i

-- a base64 text is bytes
pub base64_bytes : (bytes : List ℕ) → IsBytes (base64_of bytes)
base64_bytes bytes i = let low = base64_is_ascii bytes i in omega (arith, low)

-- ---- how long, and where it is cut

-- so many groups of four are those of so many groups of three
pub groups_are_cut : (q : ℕ) (y : List ℕ) → 3 * q ≤ length y
    → (take (4 * q) (base64_of y) ≡ base64_of (take (3 * q) y))
    × (drop (4 * q) (base64_of y) ≡ base64_of (drop (3 * q) y))
groups_are_cut q y fits =
    let x : List ℕ = take (3 * q) y in
    let z : List ℕ = drop (3 * q) y in
    let full : length x ≡ 3 * q = length-take-le (3 * q) y fits in
    let row : length (base64_of x) ≡ 4 * q = omega (arith, length_base64 x) in
    let both = ap base64_of (sym (take-append-drop (3 * q) y)) ∙ base64_append x z (omega (arith, full)) in (
      ap (take (4 * q)) both ∙ take_at (base64_of x) (base64_of z) (4 * q) row,
      ap (drop (4 * q)) both ∙ drop_at (base64_of x) (base64_of z) (4 * q) row,
    )

-- what follows the base64 of whole groups of three is base64, where all of it is
pub rest_is_base64 : (x f y : List ℕ) → length x % 3 ≡ 0 → base64_of x ++ f ≡ base64_of y
    → f ≡ base64_of (drop (length x) y)
rest_is_base64 x f y whole is =
    let q : ℕ = length x / 3 in
    let n : length x ≡ 3 * q = omega (arith, whole) in
    let row : length (base64_of x) ≡ 4 * q = omega (arith, length_base64 x) in
    elim (cases_lt (length y) (3 * q)) [
      | inl less ↦
          let none : length f ≡ 0 =
          omega (arith, ap length is, length-append (base64_of x) f, length_base64 y) in
          nil_from_length f none ∙ sym base64_nil
          ∙ ap base64_of (sym (drop_all (length x) y (omega arith)))
      | inr more ↦
          sym (drop_at (base64_of x) f (4 * q) row) ∙ ap (drop (4 * q)) is
          ∙ (groups_are_cut q y more).1 ∙ ap (λ k. base64_of (drop k y)) (sym n)
    ]

-- nothing follows padding
pub padding_is_last : (x f y : List ℕ) → IsBytes x → IsBytes y → length x % 3 ≢ 0
    → base64_of x ++ f ≡ base64_of y → f ≡ []
padding_is_last x f y small_x small_y padded is =
    let q : ℕ = (length x + 2) / 3 in
    let row : length (base64_of x) ≡ 4 * q = length_base64 x in
    elim (cases_lt (3 * q) (length y)) [
      | inl more ↦
          let front = sym (take_at (base64_of x) f (4 * q) row) ∙ ap (take (4 * q)) is
          ∙ (groups_are_cut q y (omega arith)).0 in
          let one = base64_of_injective x (take (3 * q) y) small_x (bytes_front (3 * q) y small_y) front in
          let full = length-take-le (3 * q) y (omega arith) in
          absurd (padded (omega (arith, ap length one, full)))
      | inr less ↦
          nil_from_length f
          (omega (arith, ap length is, length-append (base64_of x) f, length_base64 y))
    ]

-- ---- how it ends

-- each symbol before the padding is another
symbols_are_other : (table bytes : List ℕ)
    → ((i : ℕ) → i < 64 → slice_index table i ≢ 61) → IsBytes bytes
    → AllByRecursion (λ b. b ≢ 61) (encode_symbols table bytes)
unfolding encode_symbols
symbols_are_other table [] other small = tt
symbols_are_other table (a ∷ []) other small =
    let la = small 0 in
    (other (a / 4) (omega arith), (other (a % 4 * 16) (omega arith), tt))
symbols_are_other table (a ∷ b ∷ []) other small =
    let la = small 0 in
    let lb = small 1 in (
      other (a / 4) (omega arith),
      (other (a % 4 * 16 + b / 16) (omega arith), (other (b % 16 * 4) (omega arith), tt)),
    )
symbols_are_other table (a ∷ b ∷ c ∷ rest) other small =
    let la = small 0 in
    let lb = small 1 in
    let lc = small 2 in
    let more = symbols_are_other table rest other (λ i. small (suc (suc (suc i)))) in (
      other (a / 4) (omega arith),
      (
        other (a % 4 * 16 + b / 16) (omega arith),
        (other (b % 16 * 4 + c / 64) (omega arith), (other (c % 64) (omega arith), more)),
      ),
    )

-- the last of other bytes is another, and where there is none the place has 0
last_is_other : (xs : List ℕ) → AllByRecursion (λ b. b ≢ 61) xs → slice_index xs (length xs - 1) ≢ 61
last_is_other [] all same = cc same
last_is_other (x ∷ []) all same = all.0 same
last_is_other (x ∷ y ∷ xs) all same =
    let at : length (x ∷ y ∷ xs) - 1 ≡ suc (length (y ∷ xs) - 1) = omega arith in
    last_is_other (y ∷ xs) all.1 (sym (ap (slice_index (x ∷ y ∷ xs)) at) ∙ same)

-- no symbol of the table is `=`
table_is_other : (i : ℕ) → i < 64 → slice_index standard.encode_table i ≢ 61
table_is_other i below same =
    let pass = AllPass-from_list_all (λ b. not (b == 61)) standard.encode_table refl i 0 below in
    cc (rw same at pass)

-- the base64 of whole groups of three doesn't end with padding
pub whole_ends_otherwise : (bytes : List ℕ) → IsBytes bytes → length bytes % 3 ≡ 0
    → slice_index (base64_of bytes) (length (base64_of bytes) - 1) ≢ 61
unfolding base64_of
whole_ends_otherwise bytes small whole =
    let symbols : List ℕ = encode_symbols standard.encode_table bytes in
    let none : (3 - length bytes % 3) % 3 ≡ 0 = omega (arith, whole) in
    let same = ap (λ k. symbols ++ replicate k 61) none ∙ append-nil symbols in
    let P : List ℕ → Type 0 = λ text. slice_index text (length text - 1) ≢ 61 in
    subst P (sym same)
    (last_is_other symbols (symbols_are_other standard.encode_table bytes table_is_other small))

-- all other base64 does
pub others_end_padded : (bytes : List ℕ) → length bytes % 3 ≢ 0
    → slice_index (base64_of bytes) (length (base64_of bytes) - 1) ≡ 61
unfolding base64_of
others_end_padded bytes padded =
    let symbols : List ℕ = encode_symbols standard.encode_table bytes in
    let pad : ℕ = (3 - length bytes % 3) % 3 in
    let tail : List ℕ = replicate pad 61 in
    let some : 0 < pad = omega (arith, padded) in
    let tail_len : length tail ≡ pad = length-replicate pad 61 in
    let all_len : length (symbols ++ tail) ≡ length symbols + pad = omega (arith, length-append symbols tail) in
    let last : ℕ = length (symbols ++ tail) - 1 in
    get_or-append_right symbols tail (length symbols) last 0 refl (omega arith)
    ∙ get_or-replicate pad (last - length symbols) 61 0 (omega arith)
