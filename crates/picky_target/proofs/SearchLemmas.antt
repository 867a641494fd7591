-- Lemmas on whether a byte stands in a text.
use Rattle.std.proofs.Common.{◌≡◌, ℕ, zero, suc, ◌<◌, Bool, true, false, ◌||◌, List, [], ◌∷◌, length, get_or, Option, Some}
use Rattle.std.proofs.Common.{None, refl, arith}
use Rattle.std.specs.List.{list_any}
use Rattle.std.specs.Prelude.{is_some}
use Rattle.memchr.specs.Find.{IsFirstByte}

fails : (b : Bool) → (b ≡ true → ⊥) → b ≡ false
fails true not = absurd (not refl)
fails false not = refl

any_none : (test : ℕ → Bool) (hay : List ℕ) → ((k : ℕ) → k < length hay → test (get_or hay k 0) ≡ false)
    → list_any test hay ≡ false
any_none test [] each = refl
any_none test (b ∷ hay) each =
    rw (each 0 (omega arith)) (any_none test hay (λ k below. each (suc k) (omega (arith, below))))

or_right : (x y : Bool) → y ≡ true → (x || y) ≡ true
or_right true y is = refl
or_right false y is = is

any_at : (test : ℕ → Bool) (hay : List ℕ) (k : ℕ) → k < length hay → test (get_or hay k 0) ≡ true
    → list_any test hay ≡ true
any_at test [] k inside is = absurd (omega (arith, inside))
any_at test (b ∷ hay) zero inside is = rw is refl
any_at test (b ∷ hay) (suc k) inside is =
    or_right (test b) (list_any test hay) (any_at test hay k (omega (arith, inside)) is)

-- a search finds a byte where one passes
pub found_is_any : (test : ℕ → Bool) (hay : List ℕ) (r : Option ℕ) → IsFirstByte test hay r
    → is_some r ≡ list_any test hay
found_is_any test hay None first =
    rw (any_none test hay (λ k below. fails (test (get_or hay k 0)) (first k (omega arith) below))) refl
found_is_any test hay (Some k) first = rw (any_at test hay k first.0.high first.1) refl
