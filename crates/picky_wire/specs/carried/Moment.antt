-- What an element of the wire promises of its layout, for timestamps.
use Rattle.std.specs.Prelude.{◌≡◌, ◌≢◌, List, ℕ, ◌<◌, ◌^◌, Result, Ok, Err}
use Rattle.std.specs.Int.{w64, to_be_bytes}
use Rattle.std.proofs.Common.{ap, refl}
use Rattle.picky_wire_base.specs.Outcome.{and_then, map_err}
use Rattle.picky_wire_base.specs.Combine.{each}
use Rattle.picky_wire_base.specs.Narrowed.{meant}
use Rattle.picky_wire_base.specs.Numbers.{uint64}
use Rattle.picky_wire_base.proofs.Numbers.{uint64_spells}
use Rattle.picky_wire_base.specs.Row.{Solid}
use Rattle.picky_wire_base.proofs.Solid.{refuses_empty}
use Rattle.picky_wire_base.specs.Wire.{byte_array}
use Rattle.picky_wire.specs.declared.error.WireError.{WireError}
use Rattle.picky_wire.specs.declared.error.WireError.TheVariants as errors
use Rattle.picky_wire.specs.declared.timestamp.Timestamp.{Timestamp}
use Rattle.picky_wire.specs.Flaws.{wire_error}
use Rattle.picky_wire.specs.carried.Flaws.{wire_own}
use Rattle.picky_wire.specs.Moment.{timestamp_at, timestamp}

-- A moment is spelled by its eight bytes.
pub timestamp_spells : (t : Timestamp) → t.0 < 2 ^ 64 → timestamp.piece t (to_be_bytes w64 t.0)
unfolding timestamp
timestamp_spells t small = (t.0, uint64_spells t.0 small, refl)

-- What is read as another value is refused as it is.
each_refused : {A B E : Type 0} (r : Result (A × List ℕ) E) (f : A → B) (e : E)
    → and_then r (meant (each f)) ≡ Err e → r ≡ Err e
each_refused (Ok found) f e refused = cc refused
each_refused (Err g) f e refused = ap Err (cc refused)

-- Each piece has at least one byte.
pub timestamp_solid : Solid timestamp.piece
unfolding timestamp uint64 byte_array
timestamp_solid = refuses_empty timestamp errors.UnexpectedEnd refl

-- No bytes are refused for a fault or for want of memory.
pub timestamp_own : (bytes : List ℕ) (e : WireError) → timestamp.read bytes ≡ Err e
    → (e ≢ errors.ReadFault) × (e ≢ errors.NoMemory)
unfolding timestamp
timestamp_own bytes e refused =
    wire_own (uint64.read bytes) e (each_refused (map_err wire_error (uint64.read bytes)) timestamp_at e refused)
