-- When each field is read or refused (RFC 4251, section 5).
use Rattle.std.specs.Prelude.{◌≡◌, ◌↔◌, List, ℕ, ◌+◌, ◌-◌, ◌<◌, ◌≤◌, ◌^◌, nat_lt, length, take, drop, ◌⊎◌, IsUtf8, if◌then◌else◌, Ok, Err}
use Rattle.std.specs.Int.{Width, w8, w32, w64, byte_len, from_be_bytes}
use Rattle.std.specs.Str.{is_utf8}
use Rattle.std.proofs.Common.{sym, ◌∙◌, ap, subst, refl, arith, inl, inr}
use Rattle.std.proofs.lemmas.Bool.{le-ltb, lt-ltb, ltb-false, cases_lt}
use Rattle.std.proofs.lemmas.List.{length-append, length-drop}
use Rattle.picky_wire_base.specs.Outcome.{and_then}
use Rattle.picky_wire_base.specs.carried.Outcome.{guard_ok, pass_ok, same_pair}
use Rattle.picky_wire_base.specs.Flaw.{Flaw, Short, NotUtf8, Big}
use Rattle.picky_wire_base.specs.Combine.{each}
use Rattle.picky_wire_base.specs.Narrowed.{meant}
use Rattle.picky_wire_base.specs.Wire.{byte_array, number, uint32, string, text, utf8}
use Rattle.picky_wire_base.specs.carried.Wire.{IsUtf8-Decides}
use Rattle.picky_wire_base.specs.Numbers.{byte, uint64}
use Rattle.picky_wire_base.proofs.Strings.{text_refuses, text_stuck}
use Rattle.picky_wire_base.specs.Short.{EndsInString}
use Rattle.picky_wire_base.proofs.Short.{byte_array_short, byte_array_refused, string_short, string_refused}
use Rattle.picky_wire_base.specs.Zeros.{without_zeros}
use Rattle.picky_wire_base.specs.carried.Zeros.{zeros_in_front}
use Rattle.picky_wire_base.proofs.Zeros.{length_with_zeros}
use Rattle.picky_wire_base.specs.Mpint.{as_mpint, mpint}
use Rattle.picky_wire_base.specs.When.{IsShortWhere, HoldsString}
use Rattle.picky_wire_base.proofs.Narrowed.{fits_is_read, narrow_cases, narrow_keeps, narrow_refuses, allowed_refused, passed_err}

-- ---- byte[n]

-- byte[n] is refused exactly where fewer bytes are left.
pub byte_array_are_short : (n : ℕ) → IsShortWhere (byte_array n).read (λ bytes. length bytes < n)
unfolding byte_array
byte_array_are_short n = record {
  short = λ bytes. (λ is. (byte_array_refused n bytes Short is).1, byte_array_short n bytes);
  only = λ bytes e is. (byte_array_refused n bytes e is).0;
}

-- Where as many are left, they are read.
pub byte_array_are_read : (n : ℕ) (bytes : List ℕ) → n ≤ length bytes
    → (byte_array n).read bytes ≡ Ok (take n bytes, drop n bytes)
unfolding byte_array
byte_array_are_read n bytes enough =
    pass_ok (nat_lt (length bytes) n) Short (take n bytes, drop n bytes)
    (take n bytes, drop n bytes) (le-ltb (length bytes) n enough) refl

-- What is read is that many bytes.
pub byte_array_read_front : (n : ℕ) (bytes v rest : List ℕ) → (byte_array n).read bytes ≡ Ok (v, rest)
    → (n ≤ length bytes) × (take n bytes ≡ v)
unfolding byte_array
byte_array_read_front n bytes v rest is =
    let short = nat_lt (length bytes) n in
    let passed = guard_ok short Short (take n bytes, drop n bytes) (v, rest) is in
    (ltb-false (length bytes) n passed.0, ap (λ p. p.0) passed.1)

-- ---- byte, uint32 and uint64

-- A number is refused as its bytes are.
number_refused : (w : Width) (bytes : List ℕ) (e : Flaw) → (number w).read bytes ≡ Err e
    → (byte_array (byte_len w)).read bytes ≡ Err e
number_refused w bytes e refused =
    elim (narrow_cases (byte_array (byte_len w)) (each (from_be_bytes w)) bytes e refused) [
      | inl is ↦ is
      | inr v ↦ cc v.refused
    ]

-- So it is short exactly where they are.
number_is_short : (w : Width) → IsShortWhere (number w).read (λ bytes. length bytes < byte_len w)
number_is_short w =
    let G = byte_array (byte_len w) in
    let kind = byte_array_are_short (byte_len w) in
    record {
      short = λ bytes. (
        λ is. (kind.short bytes).0 (number_refused w bytes Short is),
        λ few. narrow_keeps G (each (from_be_bytes w)) bytes Short ((kind.short bytes).1 few),
      );
      only = λ bytes e is. kind.only bytes e (number_refused w bytes e is);
    }

-- Where they are read, it is their number.
number_is_read : (w : Width) (bytes : List ℕ) → byte_len w ≤ length bytes
    → (number w).read bytes
    ≡ Ok (from_be_bytes w (take (byte_len w) bytes), drop (byte_len w) bytes)
number_is_read w bytes enough =
    ap (λ r. and_then r (meant (each (from_be_bytes w)))) (byte_array_are_read (byte_len w) bytes enough)

-- A byte is refused exactly where no byte is left.
pub byte_is_short : IsShortWhere byte.read (λ bytes. length bytes < 1)
unfolding byte
byte_is_short = number_is_short w8

-- Else it is the first one.
pub byte_is_read : (bytes : List ℕ) → 1 ≤ length bytes
    → byte.read bytes ≡ Ok (from_be_bytes w8 (take 1 bytes), drop 1 bytes)
unfolding byte
byte_is_read bytes enough = number_is_read w8 bytes enough

-- A uint32 is refused exactly where fewer than four bytes are left.
pub uint32_is_short : IsShortWhere uint32.read (λ bytes. length bytes < 4)
unfolding uint32
uint32_is_short = number_is_short w32

-- Else it is the number of the first four.
pub uint32_is_read : (bytes : List ℕ) → 4 ≤ length bytes
    → uint32.read bytes ≡ Ok (from_be_bytes w32 (take 4 bytes), drop 4 bytes)
unfolding uint32
uint32_is_read bytes enough = number_is_read w32 bytes enough

-- What is read is that number.
pub uint32_read_front : (bytes : List ℕ) (n : ℕ) (rest : List ℕ) → uint32.read bytes ≡ Ok (n, rest)
    → (4 ≤ length bytes) × (from_be_bytes w32 (take 4 bytes) ≡ n)
uint32_read_front bytes n rest is =
    elim (cases_lt (length bytes) 4) [
      | inl few ↦ let both = sym is ∙ (uint32_is_short.short bytes).1 few in cc both
      | inr enough ↦
          let m = from_be_bytes w32 (take 4 bytes) in
          let whole = uint32_is_read bytes enough in
          (enough, (same_pair (uint32.read bytes) m n (drop 4 bytes) rest whole is).0)
    ]

-- A uint64 is refused exactly where fewer than eight bytes are left.
pub uint64_is_short : IsShortWhere uint64.read (λ bytes. length bytes < 8)
unfolding uint64
uint64_is_short = number_is_short w64

-- Else it is the number of the first eight.
pub uint64_is_read : (bytes : List ℕ) → 8 ≤ length bytes
    → uint64.read bytes ≡ Ok (from_be_bytes w64 (take 8 bytes), drop 8 bytes)
unfolding uint64
uint64_is_read bytes enough = number_is_read w64 bytes enough

-- ---- string

-- A string is refused exactly where the bytes end inside it.
pub string_is_short : IsShortWhere string.read EndsInString
string_is_short = record {
  short = λ bytes. (λ is. (string_refused bytes Short is).1, string_short bytes);
  only = λ bytes e is. (string_refused bytes e is).0;
}

-- Else it is as many bytes as its first four say.
pub string_is_read : (bytes : List ℕ) → (EndsInString bytes → ⊥)
    → string.read bytes
    ≡ Ok (
      take (from_be_bytes w32 (take 4 bytes)) (drop 4 bytes),
      drop (from_be_bytes w32 (take 4 bytes)) (drop 4 bytes),
    )
unfolding string
string_is_read bytes whole =
    let n = from_be_bytes w32 (take 4 bytes) in
    let enough : 4 + n ≤ length bytes = omega arith in
    let len = uint32_is_read bytes (omega arith) in
    ap (λ r. and_then r (λ first. (byte_array first.0).read first.1)) len
    ∙ byte_array_are_read n (drop 4 bytes) (omega (arith, length-drop 4 bytes))

-- A string's piece is four bytes longer than what it holds.
pub string_len : (v bytes : List ℕ) → string.piece v bytes → length bytes ≡ 4 + length v
unfolding string uint32 byte_array
string_len v bytes (n, x, y, (a, (four, is_a), means), (len, is), joined) =
    omega (arith, ap length joined, length-append x y, ap length is_a, ap length is)

-- ---- text

-- What can refuse a text.
text_refused : (bytes : List ℕ) (e : Flaw) → text.read bytes ≡ Err e
    → ((e ≡ Short) × EndsInString bytes)
    ⊎ ((e ≡ NotUtf8) × HoldsString bytes (λ v. IsUtf8 v → ⊥))
unfolding text
text_refused bytes e refused =
    elim (narrow_cases string (utf8 NotUtf8) bytes e refused) [
      | inl is ↦ inl (string_refused bytes e is)
      | inr w ↦
          let why = λ (v : List ℕ). NotUtf8 in
          let other = allowed_refused IsUtf8 is_utf8 why IsUtf8-Decides w.value e w.refused in
          inr (other.1, (w.value, w.rest, w.whole, other.0))
    ]

-- A text is short exactly where the bytes end inside its string.
pub text_is_short : (bytes : List ℕ) → text.read bytes ≡ Err Short ↔ EndsInString bytes
text_is_short bytes = (
  λ refused. elim (text_refused bytes Short refused) [
    | inl ends ↦ ends.1
    | inr other ↦ cc other.0
  ],
  λ ends. text_stuck bytes Short (string_short bytes ends),
)

-- It is no UTF-8 exactly where its string is whole and isn't.
pub text_is_not_utf8 : (bytes : List ℕ)
    → text.read bytes ≡ Err NotUtf8 ↔ HoldsString bytes (λ v. IsUtf8 v → ⊥)
text_is_not_utf8 bytes = (
  λ refused. elim (text_refused bytes NotUtf8 refused) [
    | inl ends ↦ cc ends.0
    | inr other ↦ other.1
  ],
  λ (v, rest, is, other). text_refuses bytes v rest is other,
)

-- It is refused for nothing else.
pub text_only : (bytes : List ℕ) (e : Flaw) → text.read bytes ≡ Err e
    → (e ≡ Short) ⊎ (e ≡ NotUtf8)
text_only bytes e refused = elim (text_refused bytes e refused) [
  | inl ends ↦ inl ends.0
  | inr other ↦ inr other.0
]

-- A text's piece is a string's, and UTF-8.
text_parts : (v bytes : List ℕ) → text.piece v bytes → string.piece v bytes × IsUtf8 v
unfolding text
text_parts v bytes (a, spells, (utf8, same)) =
    (subst (λ w. string.piece w bytes) (sym same) spells, subst IsUtf8 (sym same) utf8)

-- What is read as a text is a string, and UTF-8.
pub text_read_string : (bytes v rest : List ℕ) → text.read bytes ≡ Ok (v, rest)
    → (string.read bytes ≡ Ok (v, rest)) × IsUtf8 v
text_read_string bytes v rest is =
    let fits = text.sound bytes v rest is in
    let parts = text_parts v fits.0 fits.1 in
    (fits_is_read string bytes v rest (fits.0, parts.0, fits.2), parts.1)

-- ---- mpint

-- What can refuse an mpint.
mpint_refused : (bytes : List ℕ) (e : Flaw) → mpint.read bytes ≡ Err e
    → ((e ≡ Short) × EndsInString bytes)
    ⊎ ((e ≡ Big) × HoldsString bytes (λ v. 2 ^ 32 - 1 ≤ length (without_zeros v)))
unfolding mpint
mpint_refused bytes e refused =
    elim (narrow_cases string as_mpint bytes e refused) [
      | inl is ↦ inl (string_refused bytes e is)
      | inr w ↦
          let v = without_zeros w.value in
          let cut = passed_err (nat_lt (length v) (2 ^ 32 - 1)) Big e v w.refused in
          let long = ltb-false (length v) (2 ^ 32 - 1) cut.0 in
          inr (cut.1, (w.value, w.rest, w.whole, long))
    ]

-- What a string holds may be too big a number.
mpint_refuses : (bytes v rest : List ℕ) → string.read bytes ≡ Ok (v, rest)
    → 2 ^ 32 - 1 ≤ length (without_zeros v) → mpint.read bytes ≡ Err Big
unfolding mpint
mpint_refuses bytes v rest is long =
    let w = without_zeros v in
    let big = ap (λ t. if t then Ok w else Err Big) (le-ltb (length w) (2 ^ 32 - 1) long) in
    narrow_refuses string as_mpint bytes Big
    (record { value = v; rest = rest; whole = is; refused = big })

-- What is refused as a string is refused as an mpint.
mpint_stuck : (bytes : List ℕ) (e : Flaw) → string.read bytes ≡ Err e → mpint.read bytes ≡ Err e
unfolding mpint
mpint_stuck bytes e is = narrow_keeps string as_mpint bytes e is

-- An mpint is short exactly where the bytes end inside its string.
pub mpint_is_short : (bytes : List ℕ) → mpint.read bytes ≡ Err Short ↔ EndsInString bytes
mpint_is_short bytes = (
  λ refused. elim (mpint_refused bytes Short refused) [
    | inl ends ↦ ends.1
    | inr other ↦ cc other.0
  ],
  λ ends. mpint_stuck bytes Short (string_short bytes ends),
)

-- It is too big exactly where its string is whole and no string can hold it and a zero byte.
pub mpint_is_big : (bytes : List ℕ)
    → mpint.read bytes ≡ Err Big
    ↔ HoldsString bytes (λ v. 2 ^ 32 - 1 ≤ length (without_zeros v))
mpint_is_big bytes = (
  λ refused. elim (mpint_refused bytes Big refused) [
    | inl ends ↦ cc ends.0
    | inr other ↦ other.1
  ],
  λ (v, rest, is, long). mpint_refuses bytes v rest is long,
)

-- It is refused for nothing else.
pub mpint_only : (bytes : List ℕ) (e : Flaw) → mpint.read bytes ≡ Err e
    → (e ≡ Short) ⊎ (e ≡ Big)
mpint_only bytes e refused = elim (mpint_refused bytes e refused) [
  | inl ends ↦ inl ends.0
  | inr other ↦ inr other.0
]

-- Fewer than 2^32 bytes hold no mpint that is too big.
pub mpint_within_is_not_big : (bytes : List ℕ) → length bytes < 2 ^ 32
    → mpint.read bytes ≡ Err Big → ⊥
mpint_within_is_not_big bytes few refused =
    let held = (mpint_is_big bytes).0 refused in
    let v = held.0 in
    let fits = string.sound bytes v held.1 held.2 in
    let len = string_len v fits.0 fits.1 in
    let zeros = zeros_in_front v in
    let whole = ap length fits.2 ∙ length-append fits.0 held.1 in
    let kept = ap length zeros.1 ∙ length_with_zeros zeros.0 (without_zeros v) in
    omega (arith, held.3, len, whole, kept)

-- What a string holds is read as the number after its zeros.
pub mpint_reads : (bytes v rest : List ℕ) → string.read bytes ≡ Ok (v, rest)
    → length (without_zeros v) < 2 ^ 32 - 1 → mpint.read bytes ≡ Ok (without_zeros v, rest)
unfolding mpint
mpint_reads bytes v rest is small =
    let w = without_zeros v in
    let fits = lt-ltb (length w) (2 ^ 32 - 1) small in
    ap (λ r. and_then r (meant as_mpint)) is
    ∙ ap (λ t. and_then (if t then Ok w else Err Big) (λ b. Ok (b, rest))) fits
