-- Lemmas on reading so many bytes in pieces.
use Rattle.std.proofs.Common.{◌≡◌, ℕ, ◌+◌, ◌-◌, ◌≤◌, ◌<◌, List, ◌++◌, length, take, drop, sym, ap, ◌∙◌, arith, refl, Ok, Err}
use Rattle.std.proofs.lemmas.List.{take_at, drop_at, length-append, length-drop, length-take-le, take-append-le, take_all, append_assoc}
use Rattle.std.proofs.Math.Seq.{take-add}
use Rattle.picky_wire_base.specs.Flaw.{Flaw, Short}
use Rattle.picky_wire_base.specs.Wire.{byte_array}
use Rattle.picky_wire_base.specs.ByteArray.{read_byte_array}
use Rattle.picky_wire_base.proofs.Short.{byte_array_short, byte_array_refused}

-- a front of the right length is read
pub byte_array-read : (n : ℕ) (v rest bytes : List ℕ) → length v ≡ n → bytes ≡ v ++ rest
    → (byte_array n).read bytes ≡ Ok (v, rest)
unfolding byte_array
byte_array-read n v rest bytes len same =
    ap (read_byte_array n) same ∙ (byte_array n).complete v v rest (len, refl)

-- too few bytes are no front
pub byte_array-short : (n : ℕ) (bytes : List ℕ) → length bytes < n → (byte_array n).read bytes ≡ Err Short
unfolding byte_array
byte_array-short n bytes short = byte_array_short n bytes short

-- what was read stands in front
pub byte_array-front : (n : ℕ) (bytes v rest : List ℕ) → (byte_array n).read bytes ≡ Ok (v, rest)
    → bytes ≡ v ++ rest
unfolding byte_array
byte_array-front n bytes v rest read =
    let fits = (byte_array n).sound bytes v rest read in
    fits.2 ∙ ap (λ f. f ++ rest) fits.1.1

-- a refusal says that there are too few bytes
pub byte_array-refused : (n : ℕ) (bytes : List ℕ) (f : Flaw) → (byte_array n).read bytes ≡ Err f
    → (f ≡ Short) × (length bytes < n)
unfolding byte_array
byte_array-refused n bytes f refused = byte_array_refused n bytes f refused

-- a buffer whose front was filled, after one more read into its rest
pub more_taken : (at n : ℕ) (xs ys tail : List ℕ) → at ≤ length xs → n ≤ length ys
    → take (at + n) (take at xs ++ (ys ++ tail)) ≡ take at xs ++ take n ys
more_taken at n xs ys tail in_buffer in_piece =
    let len = length-take-le at xs in_buffer in
    let back = drop_at (take at xs) (ys ++ tail) at len in
    take-add at n (take at xs ++ (ys ++ tail))
    ∙ ap (λ f. f ++ take n (drop at (take at xs ++ (ys ++ tail)))) (take_at (take at xs) (ys ++ tail) at len)
    ∙ ap (λ r. take at xs ++ take n r) back
    ∙ ap (λ r. take at xs ++ r) (take-append-le n ys tail in_piece)

-- the whole buffer was filled
pub filled : (n at : ℕ) (xs before after : List ℕ) → length xs ≡ n → length xs ≤ at
    → before ≡ take at xs ++ after → (byte_array n).read before ≡ Ok (xs, after)
filled n at xs before after len whole same =
    byte_array-read n xs after before len (same ∙ ap (λ f. f ++ after) (take_all at xs whole))

-- what is left of the buffer
pub tail_len : (at : ℕ) (xs : List ℕ) → length (take (length xs - at) (drop at xs)) ≡ length xs - at
tail_len at xs = length-take-le (length xs - at) (drop at xs) (omega (arith, length-drop at xs))

-- the buffer is at least its front and what was read
pub put_len : (at k : ℕ) (xs ys tail : List ℕ) → at ≤ length xs → k ≤ length ys
    → at + k ≤ length (take at xs ++ (ys ++ tail))
put_len at k xs ys tail in_buffer in_piece =
    omega (arith, length-append (take at xs) (ys ++ tail), length-append ys tail, length-take-le at xs in_buffer)

-- one more read filled the next bytes of the buffer
pub more_filled : (at k : ℕ) (xs ys tail before now after : List ℕ) → at ≤ length xs → k ≤ length ys
    → before ≡ take at xs ++ now → now ≡ take k ys ++ after
    → before ≡ take (at + k) (take at xs ++ (ys ++ tail)) ++ after
more_filled at k xs ys tail before now after in_buffer in_piece same next =
    same ∙ ap (λ r. take at xs ++ r) next ∙ sym (append_assoc (take at xs) (take k ys) after)
    ∙ ap (λ f. f ++ after) (sym (more_taken at k xs ys tail in_buffer in_piece))

-- one more piece was taken
pub piece_taken : (n : ℕ) (taken before now v after : List ℕ) → before ≡ taken ++ now
    → (byte_array n).read now ≡ Ok (v, after) → before ≡ (taken ++ v) ++ after
piece_taken n taken before now v after same read =
    same ∙ ap (λ r. taken ++ r) (byte_array-front n now v after read) ∙ sym (append_assoc taken v after)

-- a vector whose tail was filled holds what it had, and what was filled in
pub tail_filled : (n at : ℕ) (old zeros xs ys tail rest : List ℕ) → xs ≡ old ++ zeros → length old ≡ at
    → at + length ys ≡ n → take n (take at xs ++ (ys ++ tail) ++ rest) ≡ old ++ ys
tail_filled n at old zeros xs ys tail rest is len all =
    let front : take at xs ≡ old = ap (take at) is ∙ take_at old zeros at len in
    ap (λ f. take n (f ++ (ys ++ tail) ++ rest)) front
    ∙ ap (λ f. take n (f ++ rest)) (sym (append_assoc old ys tail))
    ∙ ap (take n) (append_assoc (old ++ ys) tail rest)
    ∙ take_at (old ++ ys) (tail ++ rest) n (omega (arith, length-append old ys, len, all))
