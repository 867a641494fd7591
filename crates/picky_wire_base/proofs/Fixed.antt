-- The laws of fields of one value or one length.
use Rattle.std.specs.Prelude.{◌≡◌, List, ℕ, ◌++◌, ◌<◌, ◌^◌, length, Ok}
use Rattle.std.specs.Int.{w32, to_be_bytes}
use Rattle.std.proofs.Common.{refl, ◌∙◌, sym, ap, subst}
use Rattle.picky_wire_base.specs.Wire.{byte_array, string_of}
use Rattle.picky_wire_base.specs.Numbers.{IsBytes}
use Rattle.picky_wire_base.proofs.Numbers.{uint32_spells, uint32_exact}
use Rattle.picky_wire_base.proofs.Strings.{string_spells, string_exact}
use Rattle.picky_wire_base.specs.Fixed.{raw, fixed_uint32, sized}

-- The fixed bytes are a piece.
pub raw_spells : (i : ℕ) (fixed : List ℕ) → (raw i fixed).piece fixed fixed
unfolding raw byte_array
raw_spells i fixed = (fixed, (refl, refl), (refl, refl))

-- They are read whatever follows.
pub raw_reads_back : (i : ℕ) (fixed rest : List ℕ)
    → (raw i fixed).read (fixed ++ rest) ≡ Ok (fixed, rest)
raw_reads_back i fixed rest = (raw i fixed).complete fixed fixed rest (raw_spells i fixed)

-- No other bytes are a piece.
pub raw_exact : (i : ℕ) (fixed v bytes : List ℕ) → (raw i fixed).piece v bytes
    → (v ≡ fixed) × (bytes ≡ fixed)
unfolding raw byte_array
raw_exact i fixed v bytes (a, (len, is), (fits, same)) = (same ∙ fits, is ∙ fits)

-- The number's four bytes are a piece.
pub fixed_uint32_spells : (i n : ℕ) → n < 2 ^ 32 → (fixed_uint32 i n).piece n (to_be_bytes w32 n)
fixed_uint32_spells i n small = (n, uint32_spells n small, (refl, refl))

-- They are read whatever follows.
pub fixed_uint32_reads_back : (i n : ℕ) (rest : List ℕ) → n < 2 ^ 32
    → (fixed_uint32 i n).read (to_be_bytes w32 n ++ rest) ≡ Ok (n, rest)
fixed_uint32_reads_back i n rest small =
    (fixed_uint32 i n).complete n (to_be_bytes w32 n) rest (fixed_uint32_spells i n small)

-- No other bytes are a piece.
pub fixed_uint32_exact : (i n v : ℕ) (bytes : List ℕ) → IsBytes bytes → (fixed_uint32 i n).piece v bytes
    → (v ≡ n) × (bytes ≡ to_be_bytes w32 n)
fixed_uint32_exact i n v bytes each (a, spells, (fits, same)) =
    (same ∙ fits, (uint32_exact a bytes each spells).0 ∙ ap (to_be_bytes w32) fits)

-- Bytes of that length are spelled by their string.
pub sized_spells : (i n : ℕ) (v : List ℕ) → length v ≡ n → n < 2 ^ 32 → (sized i n).piece v (string_of v)
sized_spells i n v len short = (v, string_spells v (subst (λ m. m < 2 ^ 32) (sym len) short), (len, refl))

-- That string is read back whatever follows.
pub sized_reads_back : (i n : ℕ) (v rest : List ℕ) → length v ≡ n → n < 2 ^ 32
    → (sized i n).read (string_of v ++ rest) ≡ Ok (v, rest)
sized_reads_back i n v rest len short =
    (sized i n).complete v (string_of v) rest (sized_spells i n v len short)

-- Nothing else is a piece.
pub sized_exact : (i n : ℕ) (v bytes : List ℕ) → IsBytes bytes → (sized i n).piece v bytes
    → (bytes ≡ string_of v) × (length v ≡ n)
sized_exact i n v bytes each (a, spells, (len, same)) =
    ((string_exact a bytes each spells).0 ∙ ap string_of (sym same), ap length same ∙ len)
