-- What a caller gives.
use Rattle.std.specs.Prelude.{List, [], ◌∷◌, ℕ, Option, None, Some, Result, Ok, Err, if◌then◌else◌, map}
use Rattle.std.specs.Str.{is_utf8}
use Rattle.picky_suite.specs.Meanings.{Meanings, plain}
use Rattle.picky_key_text.specs.Reader.{Reader}
use Rattle.picky_conversion.specs.Outside.{Outside}
use Rattle.picky_c.specs.declared.error.PickyError.{PickyError}
use Rattle.picky_c.specs.declared.given.Given.{Given as Slices}
use Rattle.picky_c.specs.declared.given.PickyBytes.{PickyBytes}

-- what a conversion has beside its target, as bytes
pub record Given : Type 0 where
  pub text : List ℕ
  pub pass_in : List ℕ
  pub pass_out : List ℕ
  pub fresh : List ℕ
  pub answers : List ℕ

abbrev pub given : (text pass_in pass_out fresh answers : List ℕ) → Given
given text pass_in pass_out fresh answers =
    record { text = text; pass_in = pass_in; pass_out = pass_out; fresh = fresh; answers = answers }

-- the same of slices
abbrev pub given_in : Slices → Given
given_in g = given g.text.now g.pass_in.now g.pass_out.now g.fresh.now g.answers.now

-- the bytes of each that is given
abbrev pub bytes_given : List PickyBytes → List (List ℕ)
bytes_given given = map (λ it. it.bytes.now) given

-- a passphrase; no bytes are none
abbrev pub pass_of : List ℕ → Option (List ℕ)
pass_of [] = None
pass_of (b ∷ more) = Some (b ∷ more)

-- bytes that are UTF-8, or why they are none
abbrev pub utf8 : PickyError → List ℕ → Result (List ℕ) PickyError
utf8 e bytes = if is_utf8 bytes then Ok bytes else Err e

-- a conversion has these beside its key text
abbrev pub outside : Meanings → Given → Outside
outside m g =
    record { meanings = m; pass_in = pass_of g.pass_in; output = record { pass = pass_of g.pass_out; fresh = g.fresh } }

-- and who only reads has no passphrase, and a suite without ciphers
abbrev pub plain_reader : Reader
plain_reader = record { meanings = plain; pass = None }
