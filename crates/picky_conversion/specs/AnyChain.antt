-- Conversions to any targets, one after another.
use Rattle.std.specs.Prelude.{◌≡◌, List, [], ◌∷◌, ℕ, Option}
use Rattle.std.specs.Option.{IfSome}
use Rattle.std.specs.Str.{IsUtf8}
use Rattle.picky_wire_base.specs.Numbers.{IsBytes}
use Rattle.picky_target.specs.Output.{Output}
use Rattle.picky_conversion.specs.Certified.{SignRelation}
use Rattle.picky_conversion.specs.Made.{WritesMade}
use Rattle.picky_conversion.specs.Outside.{Outside}
use Rattle.picky_conversion.specs.To.{IsWay, Way, converted}

-- a target, whose numbers are a value's, and what it is written under
pub record AnyStep : Type 0 where
  pub way : Way
  pub output : Output
  pub fits : IsWay way
  pub pass : IfSome output.pass IsUtf8
  pub fresh : IsBytes output.fresh

-- each text is read under the passphrase that it was written under
abbrev pub Through : SignRelation → Outside → List AnyStep → (from to : List ℕ) → Type 0
Through signs o [] from to = to ≡ from
Through signs o (step ∷ more) from to =
    (next : List ℕ) × WritesMade signs (converted (record o { output = step.output }) step.way from) next
    × Through signs (record o { pass_in = step.output.pass }) more next to

-- the passphrase that the last text was written under
abbrev pub pass_after : Option (List ℕ) → List AnyStep → Option (List ℕ)
pass_after pass [] = pass
pass_after pass (step ∷ more) = pass_after step.output.pass more
