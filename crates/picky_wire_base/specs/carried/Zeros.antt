-- Zeros in front are dropped, and nothing else.
use Rattle.std.specs.Prelude.{◌≡◌, List, [], ◌∷◌, ℕ, zero, suc, ◌++◌, replicate}
use Rattle.std.proofs.Common.{ap, refl, arith}
use Rattle.picky_wire_base.specs.Zeros.{BeginsWithNoZero, without_zeros}

-- Zeros in front make no difference.
pub zeros_are_dropped : (n : ℕ) (v : List ℕ) → without_zeros (replicate n 0 ++ v) ≡ without_zeros v
zeros_are_dropped zero v = refl
zeros_are_dropped (suc n) v = zeros_are_dropped n v

-- Where no zero begins the bytes, all are kept.
pub all_is_kept : (v : List ℕ) → BeginsWithNoZero v → without_zeros v ≡ v
all_is_kept [] begins = refl
all_is_kept (zero ∷ v) begins = absurd (omega (arith, begins (omega arith)))
all_is_kept (suc b ∷ v) begins = refl

-- What is dropped is zeros.
pub zeros_in_front : (bytes : List ℕ) → (n : ℕ) × (bytes ≡ replicate n 0 ++ without_zeros bytes)
zeros_in_front [] = (0, refl)
zeros_in_front (zero ∷ bytes) =
    let more = zeros_in_front bytes in
    (suc more.0, ap (λ r. 0 ∷ r) more.1)
zeros_in_front (suc b ∷ bytes) = (0, refl)

-- No zero begins what is kept.
pub no_zero_begins : (bytes : List ℕ) → BeginsWithNoZero (without_zeros bytes)
no_zero_begins [] some = some
no_zero_begins (zero ∷ bytes) some = no_zero_begins bytes some
no_zero_begins (suc b ∷ bytes) some = omega arith
