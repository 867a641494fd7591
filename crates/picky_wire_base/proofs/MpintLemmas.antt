-- Lemmas on the zeros in front of a number.
use Rattle.std.proofs.Common.{◌≡◌, ℕ, ◌≤◌, ◌<◌, ◌^◌, ◌-◌, List, ◌++◌, length, take, drop, replicate, sym, ap, ◌∙◌, arith, subst}
use Rattle.std.proofs.Math.Seq.{take-append_seam, drop-append_seam}
use Rattle.std.proofs.lemmas.List.{length-append}
use Rattle.picky_wire_base.specs.Zeros.{without_zeros}
use Rattle.picky_wire_base.specs.carried.Zeros.{zeros_in_front, no_zero_begins}
use Rattle.picky_wire_base.proofs.Zeros.{length_with_zeros}
use Rattle.picky_wire_base.specs.Magnitude.{IsMagnitude}

-- no more bytes are kept than there are
pub kept_within : (v w : List ℕ) → w ≡ without_zeros v → length w ≤ length v
kept_within v w is =
    let front = zeros_in_front v in
    omega (arith, ap length front.1, length_with_zeros front.0 (without_zeros v), ap length is)

-- with the zeros put behind it, the number stands in front
pub zeros_behind : (v w rotated : List ℕ) (count : ℕ) → w ≡ without_zeros v → count ≡ length v
    → rotated ≡ drop (count - length w) v ++ take (count - length w) v → take (length w) rotated ≡ without_zeros v
zeros_behind v w rotated count is all turned =
    let front = zeros_in_front v in
    let zeros : List ℕ = replicate front.0 0 in
    let behind : List ℕ = take (count - length w) v in
    let number : count - length w ≡ length zeros =
    omega (arith, ap length front.1, length-append zeros (without_zeros v), all, ap length is) in
    let dropped : drop (count - length w) v ≡ without_zeros v =
    ap (λ n. drop n v) number ∙ ap (λ l. drop (length zeros) l) front.1 ∙ drop-append_seam zeros (without_zeros v) in
    ap (take (length w)) (turned ∙ ap (λ l. l ++ behind) dropped)
    ∙ ap (λ n. take n (without_zeros v ++ behind)) (ap length is)
    ∙ take-append_seam (without_zeros v) behind

-- what is left after the zeros is a number where it is short enough
pub rest_is_mpint : (v w : List ℕ) → w ≡ without_zeros v → length w < 2 ^ 32 - 1 → IsMagnitude w
rest_is_mpint v w is short =
    subst (λ u. IsMagnitude u) (sym is)
    (record { begins = no_zero_begins v; short = omega (arith, ap length is) })
