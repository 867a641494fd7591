-- A moment on the wire: a uint64 of seconds (PROTOCOL.certkeys, "valid after").
use Rattle.std.specs.Prelude.{ℕ}
use Rattle.picky_wire_base.specs.Grammar.{Grammar}
use Rattle.picky_wire_base.specs.Combine.{narrow, each, tag}
use Rattle.picky_wire_base.specs.Numbers.{uint64}
use Rattle.picky_wire.specs.declared.error.WireError.{WireError}
use Rattle.picky_wire.specs.declared.timestamp.Timestamp.{Timestamp}
use Rattle.picky_wire.specs.Flaws.{wire_error}

-- the moment after so many seconds
abbrev pub timestamp_at : ℕ → Timestamp
timestamp_at secs = record { 0 = secs }

unfoldable pub timestamp : Grammar WireError Timestamp
timestamp = narrow (tag wire_error uint64) (each timestamp_at)
