-- Lemmas on where a byte stands first.
use Rattle.std.proofs.Common.{◌≡◌, ℕ, Bool, true, false, List, length, Option, Some, None}
use Rattle.std.proofs.Common.{refl, sym, arith, get_or}
use Rattle.std.proofs.lemmas.List.Sums.{position_or_len_is}
use Rattle.std.specs.List.{position_or_len}
use Rattle.std.specs.Option.{unwrap_or}
use Rattle.memchr.specs.Find.{IsFirstByte}

fails : (b : Bool) → (b ≡ true → ⊥) → b ≡ false
fails true not = absurd (not refl)
fails false not = refl

-- the first byte that passes, or the end, stands where `position_or_len` says
pub first_or_len : (test : ℕ → Bool) (hay : List ℕ) (r : Option ℕ) → IsFirstByte test hay r
    → unwrap_or r (length hay) ≡ position_or_len test hay
first_or_len test hay None first =
    sym (position_or_len_is test hay (length hay) 0 (omega arith)
    (λ k below. fails (test (get_or hay k 0)) (first k (omega arith) below))
    (λ same. absurd (omega (arith, same))))
first_or_len test hay (Some k) first =
    sym (position_or_len_is test hay k 0 (omega (arith, first.0.high))
    (λ j below. fails (test (get_or hay j 0)) (first.0.before j (omega arith) below))
    (λ inside. first.1))
