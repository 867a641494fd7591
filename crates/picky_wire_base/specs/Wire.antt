-- The fields of SSH's wire: numbers and strings (RFC 4251, section 5).
use Rattle.std.specs.Prelude.{◌≡◌, List, ℕ, ◌++◌, length, ◌==◌}
use Rattle.std.specs.Int.{Width, w32, byte_len, from_be_bytes, to_be_bytes}
use Rattle.std.specs.Cmp.{unsigned_Decides}
use Rattle.std.specs.Str.{IsUtf8, is_utf8, bytes_eq}
use Rattle.std.proofs.lemmas.Slice.Eq.{bytes_eq-Decides}
use Rattle.picky_wire_base.specs.Flaw.{Flaw, NotUtf8}
use Rattle.picky_wire_base.specs.Grammar.{Grammar}
use Rattle.picky_wire_base.specs.Narrowed.{Narrowing}
use Rattle.picky_wire_base.specs.Combine.{narrow, allowed, each, ◌>>=◌}
use Rattle.picky_wire_base.specs.ByteArray.{IsByteArray, read_byte_array}
use Rattle.picky_wire_base.specs.carried.Wire.{byte_array_sound, byte_array_complete, byte_array_takes, IsUtf8-Decides}

unfoldable pub byte_array : ℕ → Grammar Flaw (List ℕ)
byte_array n = record {
  piece = IsByteArray n;
  read = read_byte_array n;
  used = λ bytes. n;
  sound = byte_array_sound n;
  complete = byte_array_complete n;
  takes = byte_array_takes n;
}

-- ---- byte, uint32 and uint64: a number, most significant byte first

abbrev pub number : Width → Grammar Flaw ℕ
number w = narrow (byte_array (byte_len w)) (each (from_be_bytes w))

unfoldable pub uint32 : Grammar Flaw ℕ
uint32 = number w32

-- ---- string: its length as a uint32, and then that many bytes

unfoldable pub string : Grammar Flaw (List ℕ)
string = do
  len ← uint32
  byte_array len

-- the string of these bytes
unfoldable pub string_of : List ℕ → List ℕ
string_of bytes = to_be_bytes w32 (length bytes) ++ bytes

-- a string whose bytes are UTF-8
abbrev pub utf8 : {E : Type 0} → E → Narrowing E (List ℕ) (List ℕ)
utf8 e = allowed IsUtf8 is_utf8 (λ _. e) IsUtf8-Decides

unfoldable pub text : Grammar Flaw (List ℕ)
text = narrow string (utf8 NotUtf8)

-- a string of one fixed length
abbrev pub of_length : {E : Type 0} → E → ℕ → Narrowing E (List ℕ) (List ℕ)
of_length e n = allowed (λ bytes. length bytes ≡ n) (λ bytes. length bytes == n) (λ _. e)
    (λ bytes. unsigned_Decides (length bytes) n)

-- a string that is fixed whole
abbrev pub equal_to : {E : Type 0} → (List ℕ → E) → List ℕ → Narrowing E (List ℕ) (List ℕ)
equal_to why fixed = allowed (λ bytes. bytes ≡ fixed) (λ bytes. bytes_eq bytes fixed) why
    (λ bytes. bytes_eq-Decides bytes fixed)
