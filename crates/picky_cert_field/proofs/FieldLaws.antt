-- A field is handed out exactly where the line says a certificate with it.
use Rattle.std.specs.Prelude.{◌≡◌, ℕ, List, Bool, true, false, Result, Ok, Err, IfOk, IsUtf8, if◌then◌else◌}
use Rattle.std.proofs.Common.{refl, sym, ap, ◌∙◌}
use Rattle.std.proofs.lemmas.Str.{IsUtf8-from_is_utf8, is_utf8-from_IsUtf8}
use Rattle.std.specs.Str.{is_utf8}
use Rattle.picky_wire_base.specs.Gives.{Gives}
use Rattle.picky_wire_base.specs.Numbers.{IsBytes}
use Rattle.picky_wire_base.specs.Outcome.{and_then, map_err}
use Rattle.picky_text.specs.Base64.{base64_of, decoded}
use Rattle.picky_text.specs.Words.{body_word}
use Rattle.picky_text.proofs.Base64Laws.{base64_is_read_back}
use Rattle.picky_keys.proofs.ByteLaws.{utf8_is_bytes}
use Rattle.picky_cert_parts.specs.declared.error.SshCertificateError.{SshCertificateError}
use Rattle.picky_cert.specs.Certificate.{signed_in}
use Rattle.picky_cert.specs.LineRefusal.{cert_line_meaning}
use Rattle.picky_cert.specs.declared.certificate.SshCertificate.{SshCertificate}
use Rattle.picky_cert.proofs.LineLaws.{line_meaning_of, line_meaning_says}
use Rattle.picky_cert_field.specs.declared.error.CertFieldError.{CertFieldError}
use Rattle.picky_cert_field.specs.declared.error.CertFieldError.TheVariants as errors
use Rattle.picky_cert_field.specs.declared.field.CertField.{CertField}
use Rattle.picky_cert_field.specs.Fields.{IsFieldOfLine, certificate_refusal, field_in, field_of, signed_in_line, signed_or_none}

-- what is signed of a line whose body says these bytes
pub signed_is : (line blob : List ℕ) → IsBytes blob → body_word line ≡ base64_of blob → signed_in_line line ≡ signed_in blob
unfolding signed_in_line
signed_is line blob each body = ap (λ b. signed_or_none (decoded b)) body ∙ ap signed_or_none (base64_is_read_back blob each)

-- the field of a certificate that a line means
pub meant_field : (field : CertField) (line : List ℕ) (place : ℕ) (c : SshCertificate) (signed : List ℕ) → IsUtf8 line
    → cert_line_meaning line ≡ Ok c → signed_in_line line ≡ signed → field_in field line place ≡ field_of field c signed place
meant_field field line place c signed utf8 means is = rw (is_utf8-from_IsUtf8 line utf8, means, is) refl

-- what was handed out of the tests of a line
record Passed (field : CertField) (line : List ℕ) (place : ℕ) (bytes : List ℕ) : Type 0 where
  utf8 : is_utf8 line ≡ true
  certificate : SshCertificate
  means : cert_line_meaning line ≡ Ok certificate
  is : field_of field certificate (signed_in_line line) place ≡ Ok bytes

read_passed : (field : CertField) (line : List ℕ) (place : ℕ) (bytes : List ℕ) (read : Result SshCertificate SshCertificateError)
    → is_utf8 line ≡ true → cert_line_meaning line ≡ read
    → and_then (map_err certificate_refusal read) (λ c. field_of field c (signed_in_line line) place) ≡ Ok bytes
    → Passed field line place bytes
read_passed field line place bytes (Ok c) utf8 means is = record { utf8 = utf8; certificate = c; means = means; is = is }
read_passed field line place bytes (Err e) utf8 means is = absurd (cc is)

passed : (field : CertField) (line : List ℕ) (place : ℕ) (bytes : List ℕ) (b : Bool) → is_utf8 line ≡ b
    → and_then (if b then Ok line else Err errors.NotUtf8) (λ text.
    and_then (map_err certificate_refusal (cert_line_meaning text)) (λ c. field_of field c (signed_in_line text) place)) ≡ Ok bytes
    → Passed field line place bytes
passed field line place bytes true utf8 is = read_passed field line place bytes (cert_line_meaning line) utf8 refl is
passed field line place bytes false utf8 is = absurd (cc is)

pub field_says : (field : CertField) (line : List ℕ) (place : ℕ) (bytes : List ℕ) → field_in field line place ≡ Ok bytes
    → IsFieldOfLine field line place bytes
field_says field line place bytes gives =
    let found = passed field line place bytes (is_utf8 line) refl gives in
    let utf8 = IsUtf8-from_is_utf8 line found.utf8 in
    let says = line_meaning_says line found.certificate (utf8_is_bytes line utf8) found.means in
    record {
      certificate = found.certificate;
      blob = says.blob_bytes;
      utf8 = utf8;
      says = says;
      are_bytes = says.are_bytes;
      body = says.body;
      is = ap (λ s. field_of field found.certificate s place) (sym (signed_is line says.blob_bytes says.are_bytes says.body)) ∙ found.is;
    }

pub field_means : (field : CertField) (line : List ℕ) (place : ℕ) (bytes : List ℕ) → IsFieldOfLine field line place bytes
    → field_in field line place ≡ Ok bytes
field_means field line place bytes is =
    meant_field field line place is.certificate _ is.utf8 (line_meaning_of line is.certificate is.says)
    (signed_is line is.blob is.are_bytes is.body) ∙ is.is

-- what a call hands out is such a field
pub given_is_field : {X : Type 0} (view : X → List ℕ) (r : Result X CertFieldError) (field : CertField) (line : List ℕ) (place : ℕ)
    → Gives errors.NoMemory view r (field_in field line place) → IfOk r (λ x. IsFieldOfLine field line place (view x))
given_is_field view (Ok x) field line place gives = field_says field line place (view x) gives
given_is_field view (Err e) field line place gives = tt

pub ruleset field_laws = (field_says, field_means)
