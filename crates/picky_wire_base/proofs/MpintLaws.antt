-- The laws of an mpint: its spellings, the one that is written, and that no other bytes are a piece.
use Rattle.std.specs.Prelude.{◌≡◌, List, ◌∷◌, ℕ, ◌+◌, ◌++◌, ◌<◌, ◌≤◌, ◌^◌, length, replicate}
use Rattle.std.specs.Prelude.{slice_index, if◌then◌else◌, Ok}
use Rattle.std.proofs.Common.{sym, ◌∙◌, ap, subst, refl, arith, inl, inr}
use Rattle.std.proofs.lemmas.Bool.{lt-leb, le-leb, cases_lt}
use Rattle.picky_wire_base.specs.Wire.{string_of}
use Rattle.picky_wire_base.specs.Numbers.{IsBytes}
use Rattle.picky_wire_base.proofs.Strings.{string_spells, string_exact}
use Rattle.picky_wire_base.proofs.Zeros.{length_with_zeros}
use Rattle.picky_wire_base.specs.Magnitude.{IsMagnitude}
use Rattle.picky_wire_base.specs.Mpint.{mpint, mpint_of, IsMpintPiece}

-- The zero byte stands exactly before a first byte of 128 or more.
pub mpint_of_high : (v : List ℕ) → 128 ≤ slice_index v 0 → mpint_of v ≡ string_of (0 ∷ v)
unfolding mpint_of
mpint_of_high v high =
    ap (λ t. string_of (if t then 0 ∷ v else v)) (le-leb 128 (slice_index v 0) high)

-- No zero byte stands before a smaller first byte, or where there is none.
pub mpint_of_low : (v : List ℕ) → slice_index v 0 < 128 → mpint_of v ≡ string_of v
unfolding mpint_of
mpint_of_low v low =
    ap (λ t. string_of (if t then 0 ∷ v else v)) (lt-leb 128 (slice_index v 0) low)

-- Each number of zeros that fits a string may stand in front.
pub mpint_spells_with : (zeros : ℕ) (v : List ℕ) → IsMagnitude v → zeros + length v < 2 ^ 32
    → mpint.piece v (string_of (replicate zeros 0 ++ v))
unfolding mpint
mpint_spells_with zeros v number short =
    let bytes = replicate zeros 0 ++ v in
    let fits = subst (λ n. n < 2 ^ 32) (sym (length_with_zeros zeros v)) short in
    (bytes, string_spells bytes fits, record { mpint = number; zeros = zeros; are = refl })

-- The spelling that is written is a piece.
pub mpint_spells : (v : List ℕ) → IsMagnitude v → mpint.piece v (mpint_of v)
mpint_spells v number =
    let is_piece = mpint.piece v in
    elim (cases_lt (slice_index v 0) 128) [
      | inl low ↦
          subst is_piece (sym (mpint_of_low v low)) (mpint_spells_with 0 v number (omega arith))
      | inr high ↦
          subst is_piece (sym (mpint_of_high v high)) (mpint_spells_with 1 v number (omega arith))
    ]

-- It is read back whatever follows.
pub mpint_reads_back : (v rest : List ℕ) → IsMagnitude v
    → mpint.read (mpint_of v ++ rest) ≡ Ok (v, rest)
mpint_reads_back v rest number = mpint.complete v (mpint_of v) rest (mpint_spells v number)

-- Nothing else is a piece.
pub mpint_exact : (v bytes : List ℕ) → IsBytes bytes → mpint.piece v bytes → IsMpintPiece v bytes
unfolding mpint
mpint_exact v bytes each (a, spells, stands) =
    let exact = string_exact a bytes each spells in
    let len = ap length stands.are ∙ length_with_zeros stands.zeros v in
    record {
      mpint = stands.mpint;
      zeros = stands.zeros;
      are = exact.0 ∙ ap string_of stands.are;
      short = subst (λ n. n < 2 ^ 32) len exact.1;
    }
