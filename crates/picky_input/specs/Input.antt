-- What is taken of a source that is read to its end.
use Rattle.std.specs.Prelude.{◌≡◌, ◌+◌, ◌++◌, ◌≤◌, List, ℕ, length}

-- how many bytes a source may have
abbrev pub input_limit : ℕ
input_limit = 16777216

-- a front of the source's bytes was taken, and of those past the limit no more than one
pub record TakesInput (before after : List ℕ) : Type 0 where
  pub taken : List ℕ
  pub are : before ≡ taken ++ after
  pub few : length taken ≤ input_limit + 1
