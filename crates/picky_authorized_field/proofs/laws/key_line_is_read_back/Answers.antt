use Rattle.std.proofs.Common.{◌∙◌, ap}
use Rattle.std.specs.Option.{ok_or}
use Rattle.picky_wire_base.specs.Outcome.{and_then}
use Rattle.picky_authorized_field.specs.Call.{content_field, entries_field, entry_field}
use Rattle.picky_authorized_field.specs.declared.error.AuthFieldError.TheVariants as errors
use Rattle.picky_authorized_field.specs.declared.field.AuthField.TheVariants as fields
use Rattle.picky_authorized_field.specs.declared.field.EntryField.TheVariants as entry_fields
use Rattle.picky_authorized_field.specs.declared.field.KeyField.TheVariants as key_fields
use Rattle.picky_authorized_field.proofs.KeyLineLaws.{key_line_reads_back}
use Rattle.picky_authorized_field.proofs.laws.key_line_is_read_back.Goals as goal

pub returns-clause-says : goal.returns-clause-says
returns-clause-says c = λ text entries place item e options key is stands content.
    ap (λ r. and_then r (entries_field (fields.OfEntry (entry_fields.OfKey key_fields.KeyLine)) place item)) is
    ∙ ap (λ o. and_then (ok_or o errors.NoSuchPlace) (entry_field (entry_fields.OfKey key_fields.KeyLine) item)) stands
    ∙ ap (content_field key_fields.KeyLine item) content

pub returns-clause-read : goal.returns-clause-read
returns-clause-read c = key_line_reads_back
