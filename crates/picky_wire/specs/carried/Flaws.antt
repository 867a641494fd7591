-- Errors of the wire as an element carries them.
use Rattle.std.specs.Prelude.{◌≡◌, ℕ, List, Result, Ok, Err}
use Rattle.picky_wire_base.specs.Outcome.{map_err}
use Rattle.picky_wire_base.specs.Flaw.{Flaw, Short, NotUtf8, Big}
use Rattle.picky_wire.specs.declared.error.WireError.{WireError}
use Rattle.picky_wire.specs.declared.error.WireError.TheVariants as errors
use Rattle.picky_wire.specs.Flaws.{wire_error}
use Rattle.picky_wire.specs.OfWire.{IsErrorOfBytes}

-- No flaw is a fault or want of memory.
pub wire_own : {A : Type 0} (r : Result (A × List ℕ) Flaw) (e : WireError) → map_err wire_error r ≡ Err e
    → IsErrorOfBytes (λ d. d) e
wire_own (Ok found) e is = cc is
wire_own (Err Short) e is = (λ other. cc (is, other), λ other. cc (is, other))
wire_own (Err NotUtf8) e is = (λ other. cc (is, other), λ other. cc (is, other))
wire_own (Err Big) e is = (λ other. cc (is, other), λ other. cc (is, other))
