-- The laws of numbers of the wire, and of fronts of bytes.
use Rattle.std.specs.Prelude.{◌≡◌, List, [], ◌∷◌, ℕ, zero, suc, ◌+◌, ◌++◌, ◌<◌, ◌^◌, ◌%◌, length, take, drop, Ok}
use Rattle.std.specs.List.{AllByRecursion}
use Rattle.std.specs.Int.{Width, w8, w32, w64, byte_len, from_be_bytes, to_be_bytes}
use Rattle.std.proofs.Common.{sym, ◌∙◌, ap, subst, refl, arith, inl, inr}
use Rattle.std.proofs.lemmas.Bool.{cases_lt}
use Rattle.std.proofs.lemmas.List.{get_or_append_left, get_or-append-add, get_or_past, take-append-drop}
use Rattle.std.proofs.lemmas.Nat.{be_bytes_4, be_bytes_8, from_be_bytes-to_be_bytes_4}
use Rattle.std.proofs.lemmas.Nat.{from_be_bytes-to_be_bytes_8}
use Rattle.picky_wire_base.specs.Wire.{byte_array, number, uint32}
use Rattle.picky_wire_base.specs.Numbers.{byte, uint64, IsBytes}

-- What bytes are made of is bytes.
pub bytes_in_front : (x y : List ℕ) → IsBytes (x ++ y) → IsBytes x
bytes_in_front x y each i = elim (cases_lt i (length x)) [
  | inl inside ↦ subst (λ b. b < 256) (get_or_append_left x y 0 i inside) (each i)
  | inr past ↦ subst (λ b. b < 256) (sym (get_or_past x i 0 past)) (omega arith)
]

pub bytes_behind : (x y : List ℕ) → IsBytes (x ++ y) → IsBytes y
bytes_behind x y each i =
    subst (λ b. b < 256) (get_or-append-add x y i 0) (each (length x + i))

pub front_bytes : (n : ℕ) (bytes : List ℕ) → IsBytes bytes → IsBytes (take n bytes)
front_bytes n bytes each =
    bytes_in_front (take n bytes) (drop n bytes) (subst IsBytes (sym (take-append-drop n bytes)) each)

pub back_bytes : (n : ℕ) (bytes : List ℕ) → IsBytes bytes → IsBytes (drop n bytes)
back_bytes n bytes each =
    bytes_behind (take n bytes) (drop n bytes) (subst IsBytes (sym (take-append-drop n bytes)) each)

-- each is a byte, in turn and by its place
abbrev pub EachByte : List ℕ → Type 0
EachByte bytes = AllByRecursion (λ b. b < 256) bytes

pub each_by_place : (bytes : List ℕ) → EachByte bytes → IsBytes bytes
each_by_place [] each i = omega arith
each_by_place (b ∷ bytes) each zero = each.0
each_by_place (b ∷ bytes) each (suc i) = each_by_place bytes each.1 i

-- ---- the spelling is a piece, and is read back whatever follows

number_spells : (w : Width) (n : ℕ) → length (to_be_bytes w n) ≡ byte_len w
    → from_be_bytes w (to_be_bytes w n) ≡ n → (number w).piece n (to_be_bytes w n)
unfolding byte_array
number_spells w n len same = (to_be_bytes w n, (len, refl), same)

byte_from_spelling : (n : ℕ) → n < 2 ^ 8 → from_be_bytes w8 (to_be_bytes w8 n) ≡ n
byte_from_spelling n small = omega arith

-- A number below 2^8 is spelled by its byte.
pub byte_spells : (n : ℕ) → n < 2 ^ 8 → byte.piece n (to_be_bytes w8 n)
unfolding byte
byte_spells n small = number_spells w8 n refl (byte_from_spelling n small)

-- That byte is read back whatever follows.
pub byte_reads_back : (n : ℕ) (rest : List ℕ) → n < 2 ^ 8
    → byte.read (to_be_bytes w8 n ++ rest) ≡ Ok (n, rest)
byte_reads_back n rest small = byte.complete n (to_be_bytes w8 n) rest (byte_spells n small)

-- A number below 2^32 is spelled by its four bytes.
pub uint32_spells : (n : ℕ) → n < 2 ^ 32 → uint32.piece n (to_be_bytes w32 n)
unfolding uint32
uint32_spells n small = number_spells w32 n refl (from_be_bytes-to_be_bytes_4 n small)

-- Those four bytes are read back whatever follows.
pub uint32_reads_back : (n : ℕ) (rest : List ℕ) → n < 2 ^ 32
    → uint32.read (to_be_bytes w32 n ++ rest) ≡ Ok (n, rest)
uint32_reads_back n rest small = uint32.complete n (to_be_bytes w32 n) rest (uint32_spells n small)

-- A number below 2^64 is spelled by its eight bytes.
pub uint64_spells : (n : ℕ) → n < 2 ^ 64 → uint64.piece n (to_be_bytes w64 n)
unfolding uint64
uint64_spells n small = number_spells w64 n refl (from_be_bytes-to_be_bytes_8 n small)

-- Those eight bytes are read back whatever follows.
pub uint64_reads_back : (n : ℕ) (rest : List ℕ) → n < 2 ^ 64
    → uint64.read (to_be_bytes w64 n ++ rest) ≡ Ok (n, rest)
uint64_reads_back n rest small = uint64.complete n (to_be_bytes w64 n) rest (uint64_spells n small)

-- ---- no other bytes are a piece

byte_is_spelling : (bytes : List ℕ) (n : ℕ) → length bytes ≡ 1 → IsBytes bytes
    → n ≡ from_be_bytes w8 bytes → to_be_bytes w8 n ≡ bytes
byte_is_spelling [] n len each same = absurd (omega arith)
byte_is_spelling (b ∷ []) n len each same =
    let is : n % 256 ≡ b = omega (arith, each 0) in
    ap (λ c. c ∷ []) is
byte_is_spelling (b ∷ c ∷ rest) n len each same = absurd (omega arith)

byte_below : (bytes : List ℕ) → IsBytes bytes → from_be_bytes w8 bytes < 2 ^ 8
byte_below bytes each = each 0

uint32_below : (bytes : List ℕ) → IsBytes bytes → from_be_bytes w32 bytes < 2 ^ 32
uint32_below bytes each = omega (arith, each 0, each 1, each 2, each 3)

uint64_below : (bytes : List ℕ) → IsBytes bytes → from_be_bytes w64 bytes < 2 ^ 64
uint64_below bytes each =
    omega (arith, each 0, each 1, each 2, each 3, each 4, each 5, each 6, each 7)

-- A piece is the number's one byte, and the number is below 2^8.
pub byte_exact : (n : ℕ) (bytes : List ℕ) → IsBytes bytes → byte.piece n bytes
    → (bytes ≡ to_be_bytes w8 n) × (n < 2 ^ 8)
unfolding byte byte_array
byte_exact n bytes each (v, (len, is), same) =
    let whole : n ≡ from_be_bytes w8 bytes = sym same ∙ ap (from_be_bytes w8) (sym is) in (
      sym (byte_is_spelling bytes n (ap length is ∙ len) each whole),
      subst (λ m. m < 2 ^ 8) (sym whole) (byte_below bytes each),
    )

-- A piece is the number's four bytes, and the number is below 2^32.
pub uint32_exact : (n : ℕ) (bytes : List ℕ) → IsBytes bytes → uint32.piece n bytes
    → (bytes ≡ to_be_bytes w32 n) × (n < 2 ^ 32)
unfolding uint32 byte_array
uint32_exact n bytes each (v, (len, is), same) =
    let whole : n ≡ from_be_bytes w32 bytes = sym same ∙ ap (from_be_bytes w32) (sym is) in (
      sym (be_bytes_4 bytes n (ap length is ∙ len) each whole),
      subst (λ m. m < 2 ^ 32) (sym whole) (uint32_below bytes each),
    )

-- A piece is the number's eight bytes, and the number is below 2^64.
pub uint64_exact : (n : ℕ) (bytes : List ℕ) → IsBytes bytes → uint64.piece n bytes
    → (bytes ≡ to_be_bytes w64 n) × (n < 2 ^ 64)
unfolding uint64 byte_array
uint64_exact n bytes each (v, (len, is), same) =
    let whole : n ≡ from_be_bytes w64 bytes = sym same ∙ ap (from_be_bytes w64) (sym is) in (
      sym (be_bytes_8 bytes n (ap length is ∙ len) each whole),
      subst (λ m. m < 2 ^ 64) (sym whole) (uint64_below bytes each),
    )
