-- The fields of a certificate, by number.
use Rattle.std.specs.Prelude.{◌==◌, ℕ, Option, None, Some, if◌then◌else◌}
use Rattle.picky_cert_field.specs.declared.field.CertField.{CertField}
use Rattle.picky_cert_field.specs.declared.field.CertField.TheVariants as fields

abbrev pub field_numbered : ℕ → Option CertField
field_numbered number =
    if number == 1 then Some fields.Type
    else if number == 2 then Some fields.Kind
    else if number == 3 then Some fields.Serial
    else if number == 4 then Some fields.ValidAfter
    else if number == 5 then Some fields.ValidBefore
    else if number == 6 then Some fields.KeyId
    else if number == 7 then Some fields.Comment
    else if number == 8 then Some fields.Nonce
    else if number == 9 then Some fields.Subject
    else if number == 10 then Some fields.Issuer
    else if number == 11 then Some fields.IssuerLine
    else if number == 12 then Some fields.SignatureFormat
    else if number == 13 then Some fields.SignatureBlob
    else if number == 14 then Some fields.Signature
    else if number == 15 then Some fields.Signed
    else if number == 16 then Some fields.Principals
    else if number == 17 then Some fields.CriticalOptions
    else if number == 18 then Some fields.Extensions
    else if number == 19 then Some fields.Principal
    else if number == 20 then Some fields.CriticalOptionName
    else if number == 21 then Some fields.CriticalOptionPayload
    else if number == 22 then Some fields.ExtensionName
    else if number == 23 then Some fields.ExtensionPayload
    else if number == 24 then Some fields.PrincipalList
    else if number == 25 then Some fields.CriticalOptionList
    else if number == 26 then Some fields.ExtensionList
    else None
