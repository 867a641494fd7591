-- Fields of which the layout fixes the value or the length: raw bytes, a number, a string.
use Rattle.std.specs.Prelude.{◌≡◌, List, ℕ, length, ◌==◌}
use Rattle.std.specs.Cmp.{unsigned_Decides}
use Rattle.picky_wire_base.specs.Flaw.{Reason, Magic, Length, Number}
use Rattle.picky_wire_base.specs.Grammar.{Grammar}
use Rattle.picky_wire_base.specs.Narrowed.{Narrowing}
use Rattle.picky_wire_base.specs.Combine.{narrow, allowed, at}
use Rattle.picky_wire_base.specs.Wire.{byte_array, uint32, string, of_length, equal_to}

-- byte[n], of one fixed value, as field i
unfoldable pub raw : ℕ → List ℕ → Grammar Reason (List ℕ)
raw i fixed = narrow (at i (byte_array (length fixed))) (equal_to (λ _. (i, Magic)) fixed)

-- ---- a number

-- a number that must be this one
abbrev pub is_number : {E : Type 0} → (ℕ → E) → ℕ → Narrowing E ℕ ℕ
is_number why n = allowed (λ m. m ≡ n) (λ m. m == n) why (λ m. unsigned_Decides m n)

-- uint32, of one fixed value, as field i
abbrev pub fixed_uint32 : ℕ → ℕ → Grammar Reason ℕ
fixed_uint32 i n = narrow (at i uint32) (is_number (λ m. (i, Number m)) n)

-- ---- a string

-- string, of n bytes, as field i
abbrev pub sized : ℕ → ℕ → Grammar Reason (List ℕ)
sized i n = narrow (at i string) (of_length (i, Length) n)
