-- Zero bytes are so many, and bytes.
use Rattle.std.proofs.Common.{◌≡◌, ℕ, zero, suc, length, arith}
use Rattle.std.proofs.lemmas.List.{length-replicate}
use Rattle.picky_wire_base.specs.Numbers.{IsBytes}
use Rattle.picky_suite.specs.Zeros.{zeros}

pub length-zeros : (n : ℕ) → length (zeros n) ≡ n
unfolding zeros
length-zeros n = length-replicate n 0

pub zeros_bytes : (n : ℕ) → IsBytes (zeros n)
unfolding zeros
zeros_bytes zero i = omega arith
zeros_bytes (suc n) zero = omega arith
zeros_bytes (suc n) (suc i) = zeros_bytes n i
