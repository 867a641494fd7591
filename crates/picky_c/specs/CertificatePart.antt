-- A field of a certificate's line, by its number.
use Rattle.std.specs.Prelude.{◌≡◌, List, ℕ, Some, Result}
use Rattle.std.specs.Option.{ok_or}
use Rattle.picky_wire_base.specs.Outcome.{and_then, map_err}
use Rattle.picky_cert_field.specs.FieldNumbers.{field_numbered}
use Rattle.picky_cert_field.specs.Fields.{IsFieldOfLine, field_in}
use Rattle.picky_cert_field.specs.declared.error.CertFieldError.{CertFieldError}
use Rattle.picky_cert_field.specs.declared.error.CertFieldError.TheVariants as fields
use Rattle.picky_cert_field.specs.declared.field.CertField.{CertField}
use Rattle.picky_key_text.specs.declared.error.ReadError.TheVariants as input
use Rattle.picky_target.specs.declared.error.ConvertError.TheVariants as refusals
use Rattle.picky_c.specs.declared.error.PickyError.{PickyError}
use Rattle.picky_c.specs.declared.error.PickyError.TheVariants as errors

-- a field's refusal as a call's
abbrev pub field_refusal : CertFieldError → PickyError
field_refusal fields.NotUtf8 = errors.TextNotUtf8
field_refusal (fields.Certificate e) = errors.Refused (refusals.Input (input.Certificate e))
field_refusal fields.NoSuchPlace = errors.NoSuchPlace
field_refusal fields.NoMemory = errors.NoMemory

-- the field with a number, or the first reason why there is none
abbrev pub certificate_part_in : (line : List ℕ) → (part place : ℕ) → Result (List ℕ) PickyError
certificate_part_in line part place =
    and_then (ok_or (field_numbered part) errors.NoSuchPart) (λ field. map_err field_refusal (field_in field line place))

-- the line says a certificate, of which this is the field
abbrev pub IsCertificatePart : (line : List ℕ) → (part place : ℕ) → (bytes : List ℕ) → Type 0
IsCertificatePart line part place bytes =
    (field : CertField) × (field_numbered part ≡ Some field) × IsFieldOfLine field line place bytes
