-- The parts of a sample key: what is drawn is bytes, so many, and numbers without their zeros are numbers.
use Rattle.std.proofs.Common.{◌≡◌, ◌≤◌, ◌<◌, ◌+◌, ◌^◌, ◌-◌, ℕ, zero, suc, List, [], ◌∷◌, length, slice_index, refl, ap, arith}
use Rattle.std.proofs.Common.{◌↔◌, Err, IfErr, Ok, Result}
use Rattle.std.proofs.lemmas.Str.{IsUtf8-from_ascii}
use Rattle.std.specs.Result.{IsErrOf}
use Rattle.picky_wire_base.specs.declared.error.SizeError.{SizeError}
use Rattle.picky_wire_base.specs.declared.error.SizeError.TheVariants as size
use Rattle.picky_wire_base.specs.Numbers.{IsBytes}
use Rattle.picky_wire_base.specs.Zeros.{without_zeros}
use Rattle.picky_wire_base.specs.carried.Zeros.{no_zero_begins}
use Rattle.picky_keys.specs.Key.{IsEdKey, IsNumber, IsString, IsText}
use Rattle.picky_keys.proofs.ByteLaws.{bytes_first, no_bytes}
use Rattle.picky_convert.specs.Generator.{state_after}
use Rattle.picky_convert.specs.SampleKeys.{application, exponent, sample_field, sample_number, point}
use Rattle.picky_convert.proofs.GeneratorLemmas.{drawn_is_bytes, length-drawn}

-- ---- numbers

zeros_bytes : (bytes : List ℕ) → IsBytes bytes → IsBytes (without_zeros bytes)
zeros_bytes [] each = no_bytes
zeros_bytes (zero ∷ bytes) each = zeros_bytes bytes (λ i. each (suc i))
zeros_bytes (suc b ∷ bytes) each = each

pub zeros_size : (bytes : List ℕ) → length (without_zeros bytes) ≤ length bytes
zeros_size [] = omega arith
zeros_size (zero ∷ bytes) = omega (arith, zeros_size bytes)
zeros_size (suc b ∷ bytes) = omega arith

pub number_size : (s behind len : ℕ) → length (sample_number s behind len) ≤ len
number_size s behind len = omega (arith, zeros_size (sample_field s behind len), length-drawn len (state_after behind s))

pub number_is : (s behind len : ℕ) → len ≤ 256 → IsNumber (sample_number s behind len)
number_is s behind len few = record {
  bytes = zeros_bytes (sample_field s behind len) (drawn_is_bytes len (state_after behind s));
  mpint = record {
    begins = no_zero_begins (sample_field s behind len);
    short = omega (arith, few, number_size s behind len);
  };
}

pub exponent_is : IsNumber exponent
exponent_is = record {
  bytes = bytes_first 1 (0 ∷ 1 ∷ []) (omega arith) (bytes_first 0 (1 ∷ []) (omega arith) (bytes_first 1 [] (omega arith) no_bytes));
  mpint = record { begins = λ some. omega arith; short = omega arith };
}

-- ---- strings

pub field_size : (s behind len : ℕ) → length (sample_field s behind len) ≡ len
field_size s behind len = length-drawn len (state_after behind s)

pub field_is : (s behind len : ℕ) → len ≤ 256 → IsString (sample_field s behind len)
field_is s behind len few = record {
  bytes = drawn_is_bytes len (state_after behind s);
  short = omega (arith, field_size s behind len);
}

pub point_size : (s len : ℕ) → length (point s len) ≡ len + 1
point_size s len = omega (arith, field_size s 0 len)

pub point_is : (s len : ℕ) → len ≤ 256 → IsString (point s len)
point_is s len few = record {
  bytes = bytes_first 4 (sample_field s 0 len) (omega arith) (drawn_is_bytes len (state_after 0 s));
  short = omega (arith, point_size s len);
}

pub ed_is : (s behind : ℕ) → IsEdKey (sample_field s behind 32)
ed_is s behind = record { bytes = drawn_is_bytes 32 (state_after behind s); len = field_size s behind 32 }

-- ---- the application

application_is_ascii : (k : ℕ) → slice_index application k < 128
unfolding application
application_is_ascii zero = omega arith
application_is_ascii (suc zero) = omega arith
application_is_ascii (suc (suc zero)) = omega arith
application_is_ascii (suc (suc (suc zero))) = omega arith
application_is_ascii (suc (suc (suc (suc k)))) = omega arith

pub application_size : length application ≡ 4
unfolding application
application_size = refl

pub application_is : IsText application
application_is = record {
  string = record {
    bytes = λ k. let low = application_is_ascii k in omega (arith, low);
    short = omega (arith, application_size);
  };
  utf8 = IsUtf8-from_ascii application application_is_ascii;
}

-- ---- short bytes are no number that is too long

pub too_long : (result : Result (List ℕ) SizeError) (e : SizeError) (bytes : List ℕ) → result ≡ Err e
    → IfErr result (λ e. e ≡ size.TooLong)
    → (IsErrOf result size.TooLong ↔ (2 ^ 32 - 1 ≤ length (without_zeros bytes))) → length bytes < 2 ^ 32 - 1 → ⊥
too_long (Ok made) e bytes is only when short = cc is
too_long (Err f) e bytes is only when short =
    let long : 2 ^ 32 - 1 ≤ length (without_zeros bytes) = when.0 (ap (λ x. Err x) only) in
    omega (arith, long, short, zeros_size bytes)
