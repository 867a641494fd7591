-- Why bytes fit no layout: the field at which reading is stuck, and what is wrong there.
use Rattle.std.specs.Prelude.{ℕ, List}

-- what can be wrong with a field by itself
pub data Flaw : Type 0 where
  -- the bytes end inside the field
  Short : Flaw
  -- a whole string that must be UTF-8 and isn't
  NotUtf8 : Flaw
  -- a multiple precision integer whose bytes without leading zeros reach 2^32 - 1
  Big : Flaw

-- what can be wrong with a field in a layout
pub data Why : Type 0 where
  Flawed : Flaw → Why
  -- a whole string whose length the layout forbids
  Length : Why
  -- whole bytes that differ from the ones that the layout fixes
  Magic : Why
  -- a whole name outside its table
  Name : List ℕ → Why
  -- a number that the layout forbids
  Number : ℕ → Why

-- the place of the field, counted from 0, and what is wrong there
abbrev pub Reason : Type 0
Reason = ℕ × Why
