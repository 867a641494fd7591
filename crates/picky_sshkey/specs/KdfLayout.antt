-- The options of a key derivation as an element of the wire: how they are read, and which aren't written.
use Rattle.std.specs.Prelude.{◌<◌, ◌-◌, ◌^◌, List, ℕ, nat_lt, length, Option, None, Some, Result, Ok, if◌then◌else◌}
use Rattle.picky_wire_base.specs.Grammar.{Grammar}
use Rattle.picky_wire_base.specs.Combine.{tag}
use Rattle.picky_wire_base.specs.Outcome.{and_then, map_err}
use Rattle.picky_wire_base.specs.Wire.{string}
use Rattle.picky_wire.specs.Flaws.{wire_error}
use Rattle.picky_wire.specs.declared.error.WireError.{WireError}
use Rattle.picky_wire.specs.declared.error.WireError.TheVariants as errors
use Rattle.picky_keys.specs.Key.{IsString}
use Rattle.picky_sshkey.specs.declared.kdf.KdfOption.{KdfOption}
use Rattle.picky_sshkey.specs.Kdf.{kdf_option, option_inside}

-- the layout, with the wire's errors
abbrev pub kdf_layout : Grammar WireError KdfOption
kdf_layout = tag wire_error kdf_option

-- what the bytes of the string say
abbrev pub option_said : List ℕ → Result KdfOption WireError
option_said block = map_err wire_error (option_inside.decide block)

-- the string in front, and what it says
unfoldable pub read_option : List ℕ → Result (KdfOption × List ℕ) WireError
read_option bytes =
    and_then ((tag wire_error string).read bytes) (λ block.
    and_then (option_said block.0) (λ option. Ok (option, block.1)))

-- what each value keeps
pub record IsKdfOption (option : KdfOption) : Type 0 where
  pub salt : IsString option.salt
  pub rounds : option.rounds < 2 ^ 32

-- a salt that leaves no room in the string isn't written
abbrev pub unwritten : KdfOption → Option WireError
unwritten option = if nat_lt (length option.salt) (2 ^ 32 - 8) then None else Some errors.TooLong
