-- A number of bytes has the bits that are counted.
use Rattle.std.specs.Prelude.{◌≡◌, ◌≤◌, ◌<◌, List, [], ◌∷◌, ℕ, zero, suc, ◌+◌, ◌*◌, ◌^◌, length}
use Rattle.std.proofs.Common.{arith, ap, inl, inr, refl, subst, sym, ◌∙◌}
use Rattle.std.proofs.Math.Nat.{mul-le-mul_right, pow-suc}
use Rattle.std.proofs.Math.Pow.{pow_mono}
use Rattle.std.proofs.lemmas.Bool.{cases_lt}
use Rattle.std.proofs.lemmas.Nat.{leading_top, pow-add}
use Rattle.picky_wire_base.specs.Numbers.{IsBytes}
use Rattle.picky_keys.specs.Key.{IsNumber}
use Rattle.picky_shown.specs.Bits.{HasBits, bit_len, number_of}

-- bytes have so many values
byte_power : (n : ℕ) → 256 ^ n ≡ 2 ^ (8 * n)
byte_power zero = refl
byte_power (suc n) =
    let eight : 8 * n + 8 ≡ 8 * suc n = omega arith in
    pow-suc 256 n ∙ ap (λ p. p * 256) (byte_power n) ∙ sym (pow-add 2 (8 * n) 8) ∙ ap (λ k. 2 ^ k) eight

-- a digit and what is less than its unit
digit_below : (b r p d : ℕ) → b < d → r < p → b * p + r < d * p
digit_below b r p d digit small =
    let more : b + 1 ≤ d = omega arith in
    let times = mul-le-mul_right p more in omega (arith, times)

number_below : (v : List ℕ) → IsBytes v → number_of v < 256 ^ length v
number_below [] each = omega arith
number_below (b ∷ more) each =
    let rest = number_below more (λ i. each (suc i)) in
    let whole : b * 256 ^ length more + number_of more < 256 * 256 ^ length more =
    digit_below b (number_of more) (256 ^ length more) 256 (each 0) rest
    in
    rw (pow-suc 256 (length more)) (omega (arith, whole))

-- a first byte and those that follow
digit_has_bits : (b r n j : ℕ) → 2 ^ j ≤ b → b < 2 ^ suc j → r < 256 ^ n → HasBits (b * 256 ^ n + r) (suc j + 8 * n)
digit_has_bits b r n j low high rest = record {
  below =
      let power : 2 ^ (suc j + 8 * n) ≡ 2 ^ suc j * 256 ^ n =
      pow-add 2 (suc j) (8 * n) ∙ ap (λ p. 2 ^ suc j * p) (sym (byte_power n))
      in
      let small = digit_below b r (256 ^ n) (2 ^ suc j) high rest in
      subst (λ p. b * 256 ^ n + r < p) (sym power) small;
  least = λ k small. elim (cases_lt k (suc j + 8 * n)) [
    | inr enough ↦ enough
    | inl few ↦
        let within : k ≤ j + 8 * n = omega arith in
        let power : 2 ^ (j + 8 * n) ≡ 2 ^ j * 256 ^ n = pow-add 2 j (8 * n) ∙ ap (λ p. 2 ^ j * p) (sym (byte_power n)) in
        let grows = pow_mono within in
        let times = mul-le-mul_right (256 ^ n) low in
        absurd (omega (arith, small, grows, power, times))
  ];
}

pub bits_of_number : (v : List ℕ) → IsNumber v → HasBits (number_of v) (bit_len v)
bits_of_number [] is = record { below = omega arith; least = λ k small. omega arith }
bits_of_number (b ∷ more) is =
    let begins : 0 < length (b ∷ more) = omega arith in
    let top = leading_top 8 b (is.mpint.begins begins) (is.bytes 0) in
    let bits : suc top.0 + 8 * length more ≡ bit_len (b ∷ more) = omega (arith, top.1) in
    let rest = number_below more (λ i. is.bytes (suc i)) in
    subst (HasBits (number_of (b ∷ more))) bits (digit_has_bits b (number_of more) (length more) top.0 top.2 top.3 rest)
