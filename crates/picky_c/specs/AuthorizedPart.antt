-- A field of authorized keys, by its number.
use Rattle.std.specs.Prelude.{List, ℕ, Result}
use Rattle.std.specs.Option.{ok_or}
use Rattle.picky_wire_base.specs.Outcome.{and_then, map_err}
use Rattle.picky_authorized_field.specs.Call.{field_in}
use Rattle.picky_authorized_field.specs.Numbered.{field_numbered}
use Rattle.picky_authorized_field.specs.declared.error.AuthFieldError.{AuthFieldError}
use Rattle.picky_authorized_field.specs.declared.error.AuthFieldError.TheVariants as fields
use Rattle.picky_target.specs.declared.error.ConvertError.TheVariants as refusals
use Rattle.picky_c.specs.declared.error.PickyError.{PickyError}
use Rattle.picky_c.specs.declared.error.PickyError.TheVariants as errors

-- a field's refusal as a call's
abbrev pub keys_refusal : AuthFieldError → PickyError
keys_refusal fields.NotUtf8 = errors.TextNotUtf8
keys_refusal fields.TooLong = errors.Refused refusals.TooLong
keys_refusal fields.NoSuchPlace = errors.NoSuchPlace
keys_refusal fields.NoKey = errors.NoKey
keys_refusal fields.NoSuchItem = errors.NoSuchOption
keys_refusal fields.NoMemory = errors.NoMemory

-- the field with a number, or the first reason why there is none
abbrev pub authorized_part_in : (text : List ℕ) → (part place option : ℕ) → Result (List ℕ) PickyError
authorized_part_in text part place option =
    and_then (ok_or (field_numbered part) errors.NoSuchPart) (λ field. map_err keys_refusal (field_in field place option text))
