-- How long a message may be: its type and its contents.
use Rattle.std.specs.Prelude.{◌≤◌, ℕ, List, length}

abbrev pub message_limit : ℕ
message_limit = 262144

pub record IsMessage (message : List ℕ) : Type 0 where
  pub some : 1 ≤ length message
  pub few : length message ≤ message_limit
