-- How long the strings are that the private bytes of an algorithm begin with; the rest is padding.
use Rattle.std.specs.Prelude.{List, [], ◌∷◌, ℕ, zero, suc, ◌-◌, length, Result, Ok}
use Rattle.picky_wire_base.specs.Flaw.{Flaw}
use Rattle.picky_wire_base.specs.Grammar.{Grammar}
use Rattle.picky_wire_base.specs.Combine.{done, ◌>>=◌}
use Rattle.picky_wire_base.specs.Outcome.{and_then, map_err}
use Rattle.picky_wire_base.specs.Wire.{string}
use Rattle.picky_kv.specs.declared.algorithm.PpkKeyAlgorithmValue.{PpkKeyAlgorithmValue}
use Rattle.picky_kv.specs.Algorithm.{mpint_values_count}
use Rattle.picky_ppk_parts.specs.declared.error.PuttyError.{PuttyError}
use Rattle.picky_ppk_parts.specs.PartsRefusal.{parts_flaw_error}

-- so many strings, one after another
abbrev pub strings : ℕ → Grammar Flaw (List (List ℕ))
strings zero = done []
strings (suc more) = do
  first ← string
  others ← strings more
  done (first ∷ others)

-- how many bytes the counted strings take
unfoldable pub counted : PpkKeyAlgorithmValue → List ℕ → Result ℕ PuttyError
counted algorithm private =
    and_then (map_err parts_flaw_error ((strings (mpint_values_count algorithm)).read private))
    (λ found. Ok (length private - length found.1))
