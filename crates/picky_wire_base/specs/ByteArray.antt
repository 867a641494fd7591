-- A fixed number of bytes, as a relation and as a reading.
use Rattle.std.specs.Prelude.{◌≡◌, List, ℕ, nat_lt, length, take, drop, Result, Ok, Err, if◌then◌else◌}
use Rattle.picky_wire_base.specs.Flaw.{Flaw, Short}

-- ---- byte[n]: that many bytes as they are

abbrev pub IsByteArray : ℕ → List ℕ → List ℕ → Type 0
IsByteArray n v bytes = (length v ≡ n) × (bytes ≡ v)

abbrev pub read_byte_array : ℕ → List ℕ → Result (List ℕ × List ℕ) Flaw
read_byte_array n bytes = if nat_lt (length bytes) n then Err Short else Ok (take n bytes, drop n bytes)
