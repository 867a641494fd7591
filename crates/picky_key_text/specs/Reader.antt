-- What a key text is read under.
use Rattle.std.specs.Prelude.{List, ℕ, Option}
use Rattle.picky_suite.specs.Meanings.{Meanings}

-- what a suite's calls mean, and a passphrase, where one is given
pub record Reader : Type 0 where
  pub meanings : Meanings
  pub pass : Option (List ℕ)
