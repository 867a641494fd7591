-- Tests on lists of bytes, and what follows from them.
use Rattle.std.proofs.Common.{◌≡◌, ◌<◌, ℕ, zero, suc, Bool, true, false, List, [], ◌∷◌, refl, arith}
use Rattle.std.specs.Prelude.{◌&&◌, nat_lt, if◌then◌else◌}
use Rattle.std.specs.Str.{bytes_eq}
use Rattle.std.proofs.lemmas.Slice.Eq.{bytes_eq-Decides}
use Rattle.picky_wire_base.specs.Numbers.{IsBytes}
use Rattle.picky_ask.specs.Lookup.{all_bytes}

pub by_test : {X : Type 0} (P : X → Type 0) (b : Bool) (x y : X) → (b ≡ true → P x) → (b ≡ false → P y)
    → P (if b then x else y)
by_test P true x y one other = one refl
by_test P false x y one other = other refl

pub first_of_and : (a b : Bool) → a && b ≡ true → a ≡ true
first_of_and true b is = refl
first_of_and false b is = cc is

pub second_of_and : (a b : Bool) → a && b ≡ true → b ≡ true
second_of_and true b is = is
second_of_and false b is = cc is

pub both_true : (a b : Bool) → a ≡ true → b ≡ true → a && b ≡ true
both_true true b one other = other
both_true false b one other = cc one

pub all_four : (a b c d : Bool) → a && b && c && d ≡ true → (a ≡ true) × (b ≡ true) × (c ≡ true) × (d ≡ true)
all_four true true true true is = (refl, refl, refl, refl)
all_four true true true false is = cc is
all_four true true false d is = cc is
all_four true false c d is = cc is
all_four false b c d is = cc is

pub both_ways : (b : Bool) → b ≡ true → b ≡ false → ⊥
both_ways true is other = cc other
both_ways false is other = cc is

byte_of : (b : ℕ) → nat_lt b 256 ≡ true → b < 256
byte_of b is = grind (arith, is)

test_of : (b : ℕ) → b < 256 → nat_lt b 256 ≡ true
test_of b is = grind (arith, is)

pub bytes_of : (bytes : List ℕ) → all_bytes bytes ≡ true → IsBytes bytes
bytes_of [] is i = omega arith
bytes_of (b ∷ more) is zero = byte_of b (first_of_and (nat_lt b 256) (all_bytes more) is)
bytes_of (b ∷ more) is (suc i) = bytes_of more (second_of_and (nat_lt b 256) (all_bytes more) is) i

pub all_bytes_of : (bytes : List ℕ) → IsBytes bytes → all_bytes bytes ≡ true
all_bytes_of [] each = refl
all_bytes_of (b ∷ more) each = both_true (nat_lt b 256) (all_bytes more) (test_of b (each 0)) (all_bytes_of more (λ i. each (suc i)))

pub same_of : (x y : List ℕ) → bytes_eq x y ≡ true → x ≡ y
same_of x y is = (bytes_eq-Decides x y).0 is
