-- The order in which a request is refused for a key and a comment before a device signs, and what is signed.
use Rattle.std.specs.Prelude.{◌≡◌, ◌<◌, ◌≤◌, ◌^◌, ◌++◌, ◌∷◌, [], List, ℕ, Result, Ok, Err, length, take, nat_le}
use Rattle.std.specs.Prelude.{if◌then◌else◌}
use Rattle.picky_wire_base.specs.Outcome.{and_then, map_err}
use Rattle.picky_text.specs.Base64.{base64_of}
use Rattle.picky_keys.specs.LineRefusal.{is_short}
use Rattle.picky_cert_parts.specs.CertNames.{cert_key_type_name}
use Rattle.picky_cert.specs.declared.certificate.SshCertificate.{SshCertificate}
use Rattle.picky_cert.specs.Spelled.{signed_of}
use Rattle.picky_cert_builder.specs.declared.builder.SshCertificateBuilder.{SshCertificateBuilder}
use Rattle.picky_cert_builder.specs.declared.error.SshCertificateGenerationError.{SshCertificateGenerationError}
use Rattle.picky_cert_builder.specs.declared.error.SshCertificateGenerationError.TheVariants as requests
use Rattle.picky_cert_builder.specs.Draft.{Unsigned, requested}
use Rattle.picky_cert_builder.specs.Request.{terms_of}
use Rattle.picky_cert_builder.specs.Terms.{judged_terms}
use Rattle.picky_key_text.specs.declared.meaning.Meaning.{Meaning}
use Rattle.picky_target.specs.declared.error.ConvertError.{ConvertError}
use Rattle.picky_target.specs.declared.error.ConvertError.TheVariants as errors
use Rattle.picky_target.specs.declared.target.KeyTarget.TheVariants as targets
use Rattle.picky_target.specs.Carried.{LineCarries}
use Rattle.picky_target.specs.Judged.{carries_comment}
use Rattle.picky_conversion.specs.declared.request.CertRequest.{CertRequest}
use Rattle.picky_conversion.specs.Request.{builder_asked}

-- ---- the order: the comment, which a line must carry; the terms; 32 fresh bytes, the nonce; the lengths

-- a refusal of the terms is the request's, and what is too long is the text
abbrev pub request_refusal : SshCertificateGenerationError → ConvertError
request_refusal requests.TooLong = errors.TooLong
request_refusal requests.NoMemory = errors.NoMemory
request_refusal e = errors.Request e

-- the first fresh bytes
abbrev pub nonce_in : (fresh : List ℕ) → Result (List ℕ) ConvertError
nonce_in fresh = if nat_le 32 (length fresh) then Ok (take 32 fresh) else Err errors.FreshTooShort

-- the certificate that is to be signed of what is asked for, or the first reason why there is none
unfoldable pub drafted_of : SshCertificateBuilder → (fresh : List ℕ) → Result Unsigned ConvertError
drafted_of b fresh =
    and_then (map_err request_refusal (judged_terms (terms_of b))) (λ _.
    and_then (nonce_in fresh) (λ nonce. map_err request_refusal (requested b nonce)))

-- the same of a key and a comment
unfoldable pub drafted : CertRequest → Meaning → (fresh : List ℕ) → Result Unsigned ConvertError
drafted request meaning fresh =
    if carries_comment targets.OpenSshPublic meaning.comment
    then drafted_of (builder_asked request meaning) fresh
    else Err errors.CommentNotCarried

-- its line without a signature
abbrev pub unsigned_line : SshCertificate → List ℕ
unsigned_line c = cert_key_type_name c.cert_key_type ++ 32 ∷ base64_of (signed_of c) ++ 32 ∷ c.comment ++ 13 ∷ 10 ∷ []

abbrev pub if_line_fits : Unsigned → Result Unsigned ConvertError
if_line_fits u = if is_short (unsigned_line u.certificate) then Ok u else Err errors.TooLong

-- the same for its line
unfoldable pub line_drafted : CertRequest → Meaning → (fresh : List ℕ) → Result Unsigned ConvertError
line_drafted request meaning fresh = and_then (drafted request meaning fresh) if_line_fits

-- ---- where there is one

-- a line carries the comment, there are fresh bytes enough, and the request comes to this certificate
pub record IsDrafted (request : CertRequest) (meaning : Meaning) (fresh : List ℕ) (u : Unsigned) : Type 0 where
  pub comment : LineCarries meaning.comment
  pub enough : 32 ≤ length fresh
  pub is : requested (builder_asked request meaning) (take 32 fresh) ≡ Ok u

-- so it does, and the line has room for it
pub record IsLineDrafted (request : CertRequest) (meaning : Meaning) (fresh : List ℕ) (u : Unsigned) : Type 0 where
  pub drafted : IsDrafted request meaning fresh u
  pub short : length (unsigned_line u.certificate) < 2 ^ 32
