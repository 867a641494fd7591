-- Each field has a number.
use Rattle.std.specs.Prelude.{◌≡◌, ℕ, Some}
use Rattle.std.proofs.Common.{refl}
use Rattle.picky_cert_field.specs.FieldNumbers.{field_numbered}
use Rattle.picky_cert_field.specs.declared.field.CertField.{CertField}
use Rattle.picky_cert_field.specs.declared.field.CertField.TheVariants as fields

pub number_of : (field : CertField) → (number : ℕ) × (field_numbered number ≡ Some field)
number_of fields.Type = (1, refl)
number_of fields.Kind = (2, refl)
number_of fields.Serial = (3, refl)
number_of fields.ValidAfter = (4, refl)
number_of fields.ValidBefore = (5, refl)
number_of fields.KeyId = (6, refl)
number_of fields.Comment = (7, refl)
number_of fields.Nonce = (8, refl)
number_of fields.Subject = (9, refl)
number_of fields.Issuer = (10, refl)
number_of fields.IssuerLine = (11, refl)
number_of fields.SignatureFormat = (12, refl)
number_of fields.SignatureBlob = (13, refl)
number_of fields.Signature = (14, refl)
number_of fields.Signed = (15, refl)
number_of fields.Principals = (16, refl)
number_of fields.CriticalOptions = (17, refl)
number_of fields.Extensions = (18, refl)
number_of fields.Principal = (19, refl)
number_of fields.CriticalOptionName = (20, refl)
number_of fields.CriticalOptionPayload = (21, refl)
number_of fields.ExtensionName = (22, refl)
number_of fields.ExtensionPayload = (23, refl)
number_of fields.PrincipalList = (24, refl)
number_of fields.CriticalOptionList = (25, refl)
number_of fields.ExtensionList = (26, refl)
