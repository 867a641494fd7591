-- What is come to before a device signs, and the text that is written of it.
use Rattle.std.specs.Prelude.{◌≡◌, ◌≢◌, ◌↔◌, ◌⊎◌, List, ℕ, Bool, true, false, Result, Ok, Err}
use Rattle.picky_keys.specs.declared.algorithm.SignatureAlgorithm.{SignatureAlgorithm}
use Rattle.picky_keys.specs.declared.public_key.PublicKey.{PublicKey}
use Rattle.picky_cert_builder.specs.declared.error.SshCertificateGenerationError.TheVariants as requests
use Rattle.picky_cert_builder.specs.Draft.{Unsigned}
use Rattle.picky_target.specs.declared.error.ConvertError.{ConvertError}
use Rattle.picky_target.specs.declared.error.ConvertError.TheVariants as errors
use Rattle.picky_conversion.specs.Certified.{IsLineOf, IsLineTooLong, IsUnsigned, SignRelation}

-- a text, or a certificate whose line is to be signed
pub data Made : Type 0 where
  Whole : List ℕ → Made
  ToSign : Unsigned → Made

-- the text is the one, or the line with a good signature
abbrev pub IsMadeText : SignRelation → Made → List ℕ → Type 0
IsMadeText signs (Whole text) written = written ≡ text
IsMadeText signs (ToSign u) written = IsLineOf signs u written

-- there is a good signature with which the line is too long
abbrev pub CanBeTooLong : SignRelation → Made → Type 0
CanBeTooLong signs (Whole text) = ⊥
CanBeTooLong signs (ToSign u) = IsLineTooLong signs u

-- why there is no text of it: the device's fault, or a signature with which the line is too long
abbrev pub IsUnwritten : SignRelation → Made → Type 0 → ConvertError → Type 0
IsUnwritten signs (Whole text) rose e = ⊥
IsUnwritten signs (ToSign u) rose e = IsUnsigned signs u rose e

-- a device is asked to sign it
abbrev pub is_signed : {E : Type 0} → Result Made E → Bool
is_signed (Ok (Whole text)) = false
is_signed (Ok (ToSign u)) = true
is_signed (Err e) = false

-- its text is written
abbrev pub WritesMade : {E : Type 0} → SignRelation → Result Made E → List ℕ → Type 0
WritesMade signs says text = (made : Made) × (says ≡ Ok made) × IsMadeText signs made text

-- it has none
abbrev pub IsLeft : {E : Type 0} → SignRelation → Result Made E → Type 0 → ConvertError → Type 0
IsLeft signs says rose e = (made : Made) × (says ≡ Ok made) × IsUnwritten signs made rose e

-- what is answered where no device signs: what is said; or the first reason why there is nothing; in its place want of memory
-- may come, or the suite's fault
abbrev pub AnswersPlain : {X A : Type 0} → (X → A) → Result A ConvertError → (IsFault : ConvertError → Type 0)
    → Result X ConvertError → Type 0
AnswersPlain view says IsFault (Ok x) = says ≡ Ok (view x)
AnswersPlain view says IsFault (Err e) = (e ≡ errors.NoMemory) ⊎ IsFault e ⊎ (says ≡ Err e)

-- what is answered where a device may sign: the text; or the first reason why there is none; in its place want of memory may
-- come, or the suite's fault
abbrev pub AnswersMade : {X : Type 0} → SignRelation → (X → List ℕ) → Result Made ConvertError
    → (IsFault : ConvertError → Type 0) → (signer_rose : Type 0) → Result X ConvertError → Type 0
AnswersMade signs view says IsFault signer_rose (Ok text) = WritesMade signs says (view text)
AnswersMade signs view says IsFault signer_rose (Err e) =
    (e ≡ errors.NoMemory) ⊎ IsFault e ⊎ IsLeft signs says signer_rose e ⊎ (says ≡ Err e)

-- which signatures are good stays; a fault is counted only where it is answered; a device that isn't asked is as it was
pub record LeavesAskedSigner {S A : Type 0} (signs : S → SignRelation) (faults : S → ℕ) (asked : Bool)
    (result : Result A ConvertError) (old new : S) : Type 0 where
  pub kept : (k : PublicKey) (a : SignatureAlgorithm) (m s : List ℕ) → signs new k a m s ↔ signs old k a m s
  pub calm : result ≢ Err (errors.Request requests.SignatureError) → faults new ≡ faults old
  pub unasked : asked ≡ false → new ≡ old
