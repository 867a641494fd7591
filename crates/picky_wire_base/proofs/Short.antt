-- Bytes and strings are refused as Short exactly where the bytes end inside them.
use Rattle.std.specs.Prelude.{◌≡◌, Bool, List, ℕ, ◌<◌, ◌≤◌, nat_lt, length, take, drop, if◌then◌else◌, Result}
use Rattle.std.specs.Prelude.{Ok, Err}
use Rattle.std.specs.Int.{w32, from_be_bytes}
use Rattle.std.proofs.Common.{sym, ◌∙◌, ap, refl, arith, inl, inr}
use Rattle.std.proofs.lemmas.Bool.{ltb-true, lt-ltb, le-ltb, cases_lt}
use Rattle.std.proofs.lemmas.List.{length-drop}
use Rattle.picky_wire_base.specs.Outcome.{and_then}
use Rattle.picky_wire_base.proofs.Outcome.{guard_err}
use Rattle.picky_wire_base.specs.Flaw.{Flaw, Short}
use Rattle.picky_wire_base.specs.Combine.{each}
use Rattle.picky_wire_base.specs.Narrowed.{meant}
use Rattle.picky_wire_base.specs.Wire.{byte_array, uint32, string}
use Rattle.picky_wire_base.specs.ByteArray.{read_byte_array}
use Rattle.picky_wire_base.specs.Short.{EndsInString}

-- reading a string, where the first test says whether its length is cut off
abbrev read_by : Bool → List ℕ → Result (List ℕ × List ℕ) Flaw
unfolding byte_array
read_by cut bytes =
    and_then (and_then (if cut then Err Short else Ok (take 4 bytes, drop 4 bytes))
    (meant (each (from_be_bytes w32)))) (λ first. (byte_array first.0).read first.1)

read_by_is : (bytes : List ℕ) → string.read bytes ≡ read_by (nat_lt (length bytes) 4) bytes
unfolding string uint32 byte_array
read_by_is bytes = refl

read_short : (bytes : List ℕ) → length bytes < 4 → string.read bytes ≡ Err Short
unfolding byte_array
read_short bytes short =
    read_by_is bytes ∙ ap (λ cut. read_by cut bytes) (lt-ltb (length bytes) 4 short)

read_long : (bytes : List ℕ) → 4 ≤ length bytes
    → string.read bytes ≡ read_byte_array (from_be_bytes w32 (take 4 bytes)) (drop 4 bytes)
unfolding byte_array
read_long bytes long =
    read_by_is bytes ∙ ap (λ cut. read_by cut bytes) (le-ltb (length bytes) 4 long)

-- Too few bytes are refused as short, and for nothing else.
pub byte_array_short : (n : ℕ) (bytes : List ℕ) → length bytes < n → read_byte_array n bytes ≡ Err Short
byte_array_short n bytes short =
    ap (λ cut. if cut then Err Short else Ok (take n bytes, drop n bytes))
    (lt-ltb (length bytes) n short)

pub byte_array_refused : (n : ℕ) (bytes : List ℕ) (e : Flaw) → read_byte_array n bytes ≡ Err e
    → (e ≡ Short) × (length bytes < n)
byte_array_refused n bytes e refused =
    let cut = guard_err (nat_lt (length bytes) n) Short e (take n bytes, drop n bytes) refused in
    (cut.1, ltb-true (length bytes) n cut.0)

-- A string is refused as short, where the bytes end inside it.
pub string_short : (bytes : List ℕ) → EndsInString bytes → string.read bytes ≡ Err Short
string_short bytes ends =
    let n = from_be_bytes w32 (take 4 bytes) in
    elim (cases_lt (length bytes) 4) [
      | inl short ↦ read_short bytes short
      | inr long ↦
          read_long bytes long
          ∙ byte_array_short n (drop 4 bytes) (omega (arith, length-drop 4 bytes))
    ]

-- It is refused for no other reason.
pub string_refused : (bytes : List ℕ) (e : Flaw) → string.read bytes ≡ Err e
    → (e ≡ Short) × EndsInString bytes
string_refused bytes e refused =
    let n = from_be_bytes w32 (take 4 bytes) in
    elim (cases_lt (length bytes) 4) [
      | inl short ↦ let same = sym refused ∙ read_short bytes short in (cc same, omega arith)
      | inr long ↦
          let cut = byte_array_refused n (drop 4 bytes) e (sym (read_long bytes long) ∙ refused) in
          (cut.0, omega (arith, length-drop 4 bytes))
    ]
