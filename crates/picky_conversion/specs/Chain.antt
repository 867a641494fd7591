-- Conversions through private targets, one after another.
use Rattle.std.specs.Prelude.{◌≡◌, true, List, [], ◌∷◌, ℕ, Result, Ok}
use Rattle.std.specs.Option.{IfSome}
use Rattle.picky_wire_base.specs.Numbers.{IsBytes}
use Rattle.picky_wire_base.specs.Outcome.{and_then}
use Rattle.std.specs.Str.{IsUtf8}
use Rattle.picky_target.specs.declared.error.ConvertError.{ConvertError}
use Rattle.picky_target.specs.declared.target.KeyTarget.{KeyTarget}
use Rattle.picky_target.specs.Output.{Output}
use Rattle.picky_target.specs.ReadBack.{IsTarget}
use Rattle.picky_target.specs.Written.{keeps_secret}
use Rattle.picky_conversion.specs.Convert.{conversion}
use Rattle.picky_conversion.specs.Outside.{Outside}

-- what is given from outside is what a program's values are: passphrases are UTF-8, and fresh
-- bytes are bytes
pub record IsGiven (o : Outside) : Type 0 where
  pub pass_in : IfSome o.pass_in IsUtf8
  pub pass : IfSome o.output.pass IsUtf8
  pub fresh : IsBytes o.output.fresh

-- a target that keeps the secret, whose numbers are a value's, and what it is written under
pub record ChainStep : Type 0 where
  pub target : KeyTarget
  pub output : Output
  pub fits : IsTarget target
  pub private : keeps_secret target ≡ true
  pub pass : IfSome output.pass IsUtf8
  pub fresh : IsBytes output.fresh

abbrev pub last_of : ChainStep → List ChainStep → ChainStep
last_of step [] = step
last_of step (next ∷ more) = last_of next more

-- each text is read under the passphrase that it was written under
abbrev pub through : Outside → List ChainStep → List ℕ → Result (List ℕ) ConvertError
through o [] text = Ok text
through o (step ∷ more) text =
    and_then (conversion (record o { output = step.output }) step.target text) (λ next.
    through (record o { pass_in = step.output.pass }) more next)
