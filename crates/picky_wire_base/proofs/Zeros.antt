-- How long a number is with the zeros in front.
use Rattle.std.specs.Prelude.{◌≡◌, List, ℕ, ◌+◌, ◌++◌, length, replicate}
use Rattle.std.proofs.Common.{◌∙◌, ap}
use Rattle.std.proofs.lemmas.List.{length-append, length-replicate}

-- Each zero is one byte.
pub length_with_zeros : (zeros : ℕ) (v : List ℕ)
    → length (replicate zeros 0 ++ v) ≡ zeros + length v
length_with_zeros zeros v =
    length-append (replicate zeros 0) v ∙ ap (λ n. n + length v) (length-replicate zeros 0)
