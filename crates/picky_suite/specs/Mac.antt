-- What every message authentication code is.
use Rattle.std.specs.Prelude.{◌≡◌, ◌<◌, ℕ, List, length}
use Rattle.std.specs.List.{AllByRecursion}

-- so many bytes
pub record IsMac (size : ℕ) (mac : List ℕ) : Type 0 where
  pub len : length mac ≡ size
  pub each : AllByRecursion (λ b. b < 256) mac
