-- Lemmas on the pieces of fields, and on pieces joined.
use Rattle.std.proofs.Common.{◌≡◌, ℕ, ◌<◌, ◌+◌, ◌-◌, List, ◌++◌, length, take, sym, ap, ◌∙◌, arith, [], ◌∷◌, get_or, refl, add-one}
use Rattle.std.proofs.lemmas.List.{append_assoc, length-append, append-nil}
use Rattle.std.proofs.Math.Seq.{take-suc}
use Rattle.std.specs.Int.{w32, to_be_bytes}
use Rattle.picky_wire_base.specs.Wire.{string_of}
use Rattle.picky_wire_base.proofs.MpintLaws.{mpint_of_high, mpint_of_low}
use Rattle.std.proofs.lemmas.Grind.{flat_map-append}
use Rattle.std.specs.List.{concat, flat_map}

-- a string is its bytes and four more
pub length-string_of : (v : List ℕ) → length (string_of v) ≡ length v + 4
unfolding string_of
length-string_of v = omega (arith, length-append (to_be_bytes w32 (length v)) v)

-- a number's string, by its first byte
pub ruleset numbers = (mpint_of_high, mpint_of_low)

-- the pieces of a table, joined
pub pieces_joined : (xs : List (List ℕ)) → concat xs ≡ flat_map (λ x. x) xs
pieces_joined [] = refl
pieces_joined (x ∷ xs) = ap (λ r. x ++ r) (pieces_joined xs)

next_piece : (xs : List (List ℕ)) (i : ℕ) (x : List ℕ) → i < length xs → x ≡ get_or xs i x
    → concat (take (i + 1) xs) ≡ concat (take i xs) ++ x
next_piece xs i x within is =
    pieces_joined (take (i + 1) xs)
    ∙ ap (flat_map (λ y. y)) (ap (λ k. take k xs) (add-one i) ∙ take-suc xs i x within ∙ ap (λ y. take i xs ++ y ∷ []) (sym is))
    ∙ flat_map-append (λ y. y) (take i xs) (x ∷ [])
    ∙ ap (λ r. flat_map (λ y. y) (take i xs) ++ r) (append-nil x)
    ∙ ap (λ r. r ++ x) (sym (pieces_joined (take i xs)))

-- one more piece
pub one_more_piece : (xs : List (List ℕ)) (i : ℕ) (x before : List ℕ) → i < length xs → x ≡ get_or xs i x
    → (before ++ concat (take i xs)) ++ x ≡ before ++ concat (take (i + 1) xs)
one_more_piece xs i x before within is =
    append_assoc before (concat (take i xs)) x ∙ ap (λ r. before ++ r) (sym (next_piece xs i x within is))

pub one_more_len : (xs : List (List ℕ)) (i : ℕ) (x : List ℕ) → i < length xs → x ≡ get_or xs i x
    → length (concat (take (i + 1) xs)) ≡ length (concat (take i xs)) + length x
one_more_len xs i x within is = ap length (next_piece xs i x within is) ∙ length-append (concat (take i xs)) x
