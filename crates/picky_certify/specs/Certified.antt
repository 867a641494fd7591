-- What a round of certifying comes to: a line, or the question that the answers lack.
use Rattle.std.specs.Prelude.{◌≡◌, ◌⊎◌, List, ℕ, None, Option, Some, Result, Ok, Err}
use Rattle.picky_keys.specs.Key.{public_key_of}
use Rattle.picky_cert.specs.Spelled.{signed_of}
use Rattle.picky_cert_builder.specs.Draft.{Unsigned}
use Rattle.picky_ask.specs.Lookup.{answer_to}
use Rattle.picky_ask.specs.Question.{IsQuestion, question_of}
use Rattle.picky_ask.specs.Signing.{SignsByTable, fresh_signer, sign_question}
use Rattle.picky_ask.specs.declared.missing.Missing.{Missing}
use Rattle.picky_ask.specs.declared.missing.Missing.TheVariants as missings
use Rattle.picky_ask.specs.declared.question.Entry.{Entry}
use Rattle.picky_ask.specs.declared.question.Question.{Question}
use Rattle.picky_target.specs.declared.error.ConvertError.TheVariants as conversions
use Rattle.picky_conversion.specs.Certified.{IsLineOf, IsLineTooLong, SignRelation}
use Rattle.picky_certify.specs.declared.error.CertifyError.{CertifyError}
use Rattle.picky_certify.specs.declared.error.CertifyError.TheVariants as errors
use Rattle.picky_certify.specs.declared.signing.Certified.{Certified}
use Rattle.picky_certify.specs.declared.signing.Certified.TheVariants as rounds

-- a signature is good where it is the table's first answer to the question for it
abbrev pub SignedBy : List Entry → SignRelation
SignedBy entries = SignsByTable (fresh_signer entries)

-- the question for the signature of a certificate
abbrev pub question_for : Unsigned → Question
question_for u = sign_question (public_key_of u.certificate.signature_key.inner_key) u.algorithm (signed_of u.certificate)

-- why a certificate that is to be signed has neither: with the table's signature its line is too long, or no bytes say the question
abbrev pub IsUnsigned : List Entry → Unsigned → CertifyError → Type 0
IsUnsigned entries u e =
    ((e ≡ errors.Refused conversions.TooLong) × IsLineTooLong (SignedBy entries) u)
    ⊎ ((e ≡ errors.TooLong) × (IsQuestion (question_for u) → ⊥))

-- what is come to of a certificate that is to be signed
abbrev pub Signs : List Entry → Unsigned → Result Certified CertifyError → Type 0
Signs entries u (Ok (rounds.Line bytes)) = IsLineOf (SignedBy entries) u bytes.items
Signs entries u (Ok (rounds.Question bytes)) =
    (answer_to (question_for u) entries ≡ None) × (bytes.items ≡ question_of (question_for u))
Signs entries u (Err e) = (e ≡ errors.NoMemory) ⊎ IsUnsigned entries u e

-- the certificate's line with the table's signature, or the question for it, which no entry answers; or the first reason why
-- nothing is to be signed, where there is one; and in place of any want of memory
abbrev pub GivesCertified : (says : Result Unsigned CertifyError) → List Entry → Result Certified CertifyError → Type 0
GivesCertified (Ok u) entries result = Signs entries u result
GivesCertified (Err f) entries (Ok certified) = ⊥
GivesCertified (Err f) entries (Err e) = (e ≡ errors.NoMemory) ⊎ (e ≡ f)

-- this holds of the line, where there is one
abbrev pub IfLine : Result Certified CertifyError → (List ℕ → Type 0) → Type 0
IfLine (Ok (rounds.Line bytes)) P = P bytes.items
IfLine (Ok (rounds.Question bytes)) P = Unit {0}
IfLine (Err e) P = Unit {0}

-- what is come to where a signer of answers failed, by why it did
abbrev pub AsksFor : Question → Result Certified CertifyError → Type 0
AsksFor q (Ok (rounds.Line bytes)) = ⊥
AsksFor q (Ok (rounds.Question bytes)) = bytes.items ≡ question_of q
AsksFor q (Err e) = (e ≡ errors.NoMemory) ⊎ ((e ≡ errors.TooLong) × (IsQuestion q → ⊥))

abbrev pub IsUnanswered : Option Missing → Result Certified CertifyError → Type 0
IsUnanswered (Some (missings.Asked q)) result = AsksFor q result
IsUnanswered missing result = result ≡ Err errors.TooLong
