-- Certificates that are asked for: what is handed out of one.
use Rattle.std.specs.Prelude.{List, ℕ, Result, Ok, Err}
use Rattle.picky_wire_base.specs.Outcome.{map_err}
use Rattle.picky_ask.specs.Table.{table_of}
use Rattle.picky_certify.specs.Certify.{Given, IsCertifiedLine, certified_in, draft_in, entries_in}
use Rattle.picky_certify.specs.Certified.{GivesCertified, IfLine, SignedBy}
use Rattle.picky_certify.specs.declared.error.CertifyError.{CertifyError}
use Rattle.picky_certify.specs.declared.error.CertifyError.TheVariants as certify
use Rattle.picky_certify.specs.declared.signing.Certified.{Certified}
use Rattle.picky_certify.specs.declared.signing.Certified.TheVariants as rounds
use Rattle.picky_target.specs.declared.error.ConvertError.TheVariants as refusals
use Rattle.picky_c.specs.Answer.{HandsAs, RefusesCall}
use Rattle.picky_c.specs.Calls.{table_refusal}
use Rattle.picky_c.specs.Number.{error_number}
use Rattle.picky_c.specs.declared.answer.PickyAnswer.{PickyAnswer}
use Rattle.picky_c.specs.declared.error.PickyError.{PickyError}
use Rattle.picky_c.specs.declared.error.PickyError.TheVariants as errors

-- a refusal of certifying as a call's
abbrev pub certify_refusal : CertifyError → PickyError
certify_refusal certify.WordNotUtf8 = errors.WordNotUtf8
certify_refusal certify.IssuerNotUtf8 = errors.IssuerNotUtf8
certify_refusal certify.KeyNotUtf8 = errors.TextNotUtf8
certify_refusal (certify.Answers e) = table_refusal e
certify_refusal certify.Words = errors.BadWords
certify_refusal (certify.Refused e) = errors.Refused e
certify_refusal certify.TooLong = errors.Refused refusals.TooLong
certify_refusal certify.NoMemory = errors.NoMemory

-- the bytes that are to be signed, or the first reason why there are none
abbrev pub certificate_draft_in : Given → Result (List ℕ) PickyError
certificate_draft_in g = map_err certify_refusal (draft_in g)

-- the line is handed out, the question for its signature, or neither
abbrev pub HandsCertified : Result Certified CertifyError → PickyAnswer → (old new : List ℕ) → Type 0
HandsCertified (Ok (rounds.Line bytes)) answer old new = HandsAs 0 bytes.items answer old new
HandsCertified (Ok (rounds.Question bytes)) answer old new = HandsAs (error_number errors.Asked) bytes.items answer old new
HandsCertified (Err e) answer old new = RefusesCall (certify_refusal e) answer old new

-- what is handed out is the line with the answers' signature, which is the certificate that is asked for, or the question for one
pub record AnswersCertified (g : Given) (answers : List ℕ) (answer : PickyAnswer) (old new : List ℕ) : Type 0 where
  pub outcome : Result Certified CertifyError
  pub handed : HandsCertified outcome answer old new
  pub gives : GivesCertified (certified_in g answers) (entries_in (table_of answers)) outcome
  pub means : IfLine outcome (IsCertifiedLine (SignedBy (entries_in (table_of answers))) g)
