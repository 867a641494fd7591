-- The fields of authorized keys, by number.
use Rattle.std.specs.Prelude.{◌==◌, ℕ, Option, None, Some, if◌then◌else◌}
use Rattle.picky_authorized_field.specs.declared.field.AuthField.{AuthField}
use Rattle.picky_authorized_field.specs.declared.field.AuthField.TheVariants as fields
use Rattle.picky_authorized_field.specs.declared.field.EntryField.TheVariants as entries
use Rattle.picky_authorized_field.specs.declared.field.KeyField.{KeyField}
use Rattle.picky_authorized_field.specs.declared.field.KeyField.TheVariants as keys
use Rattle.picky_authorized_field.specs.declared.field.OptionField.{OptionField}
use Rattle.picky_authorized_field.specs.declared.field.OptionField.TheVariants as options

-- a field of a key, and of an option
abbrev pub of_key : KeyField → Option AuthField
of_key field = Some (fields.OfEntry (entries.OfKey field))

abbrev pub of_option : OptionField → Option AuthField
of_option field = of_key (keys.OfOption field)

abbrev pub field_numbered : ℕ → Option AuthField
field_numbered number =
    if number == 1 then Some fields.Entries
    else if number == 2 then Some (fields.OfEntry entries.LineNumber)
    else if number == 3 then Some (fields.OfEntry entries.State)
    else if number == 4 then of_key keys.KeyLine
    else if number == 5 then of_key keys.KeyType
    else if number == 6 then of_key keys.KeyBlob
    else if number == 7 then of_key keys.Comment
    else if number == 8 then of_key keys.Options
    else if number == 9 then of_option options.OptionName
    else if number == 10 then of_option options.OptionValue
    else if number == 11 then of_option options.OptionHasValue
    else if number == 12 then of_key keys.OptionList
    else if number == 13 then Some fields.AllEntries
    else None
