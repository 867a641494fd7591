-- What the source and the sink in memory are made of, and what each call of them does.
use Rattle.std.specs.Prelude.{ℕ, ◌++◌, ◌-◌, List, length, take, drop, min, nat_lt, nat_le, ◌&&◌, ◌||◌, Bool}
use Rattle.picky_wire.specs.Count.{Calls, next_fails, passed}

-- the bytes to come, how many a call gives at most, and the calls that fail
pub record MemorySourceState : Type 0 where
  pub left : List ℕ
  pub step : ℕ
  pub calls : Calls

-- what a call gives of the bytes for a buffer of so many
abbrev pub given : MemorySourceState → ℕ → List ℕ
given s room = take (min s.step room) s.left

-- the source after a call that gives them
abbrev pub after_given : MemorySourceState → ℕ → MemorySourceState
after_given s room = record s { left = drop (min s.step room) s.left; calls = passed s.calls }

-- the bytes that were taken, how many there can be, how many a call takes at most, and the calls that fail
pub record Taken : Type 0 where
  pub written : List ℕ
  pub room : ℕ
  pub step : ℕ
  pub calls : Calls

-- a call fails by its number, or where it brings bytes and there is no room
abbrev pub is_refused : Taken → List ℕ → Bool
is_refused s piece = next_fails s.calls || (nat_lt 0 (length piece) && nat_le s.room (length s.written))

-- how many bytes of the piece a call takes
abbrev pub taken_len : Taken → List ℕ → ℕ
taken_len s piece = min (length piece) (min s.step (s.room - length s.written))

-- the sink after a call that takes them
abbrev pub after_taken : Taken → List ℕ → Taken
after_taken s piece =
    record s { written = s.written ++ take (taken_len s piece) piece; calls = passed s.calls }
