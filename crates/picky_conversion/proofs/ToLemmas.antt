-- What the conversion to any target answers.
use Rattle.std.proofs.Common.{◌≡◌, ℕ, List, Result, Ok, Err, refl, sym, ap, subst, ◌⊎◌, inl, inr, IfOk, IsOk}
use Rattle.std.specs.Str.{IsUtf8}
use Rattle.picky_wire_base.specs.Outcome.{map_ok}
use Rattle.picky_key_text.specs.declared.meaning.Meaning.{Meaning}
use Rattle.picky_key_text.specs.Reads.{Reads}
use Rattle.picky_target.specs.declared.error.ConvertError.{ConvertError}
use Rattle.picky_target.specs.declared.error.ConvertError.TheVariants as errors
use Rattle.picky_conversion.specs.Certified.{SignRelation}
use Rattle.picky_conversion.specs.Certify.{certification}
use Rattle.picky_conversion.specs.Binds.{Binds, BindsTo}
use Rattle.picky_conversion.specs.Chain.{IsGiven}
use Rattle.picky_conversion.specs.Convert.{AnswersKeyText, IsConversion, IsFaultOf, conversion}
use Rattle.picky_conversion.specs.declared.target.Target.{Target}
use Rattle.picky_target.specs.declared.target.KeyTarget.{KeyTarget}
use Rattle.picky_target.specs.ReadBack.{IsTarget}
use Rattle.picky_conversion.proofs.CertifyLemmas.{plain_made}
use Rattle.picky_conversion.specs.Made.{AnswersMade, IsLeft, Made, ToSign, Whole, WritesMade}
use Rattle.picky_conversion.specs.Outside.{Outside, reader}
use Rattle.picky_conversion.specs.To.{CanConvert, Certified, IsConverted, IsFaultTo, IsWay, Way, Written, converted, way_to}
use Rattle.picky_conversion.proofs.IssuedLemmas.{certification_from, certified_is, signed_of_it, whole_of}
use Rattle.picky_conversion.proofs.ConvertLemmas.{conversion_is, conversion_valid}
use Rattle.picky_conversion.proofs.KeptLemmas.{text_binds}

pub converted_is : (signs : SignRelation) (o : Outside) (way : Way) (input text : List ℕ) → IsGiven o → IsWay way → IsUtf8 input
    → WritesMade signs (converted o way input) text → IsConverted signs o way input text
converted_is signs o (Written target) input text given fits utf8 done =
    conversion_is o target input text given fits utf8 (whole_of signs (conversion o target input) text done)
converted_is signs o (Certified request) input text given fits utf8 done =
    let line = signed_of_it signs (certification o request input) text done in
    certified_is signs o request input text line.0 given utf8 line.1 line.2

pub can_convert : (o : Outside) (way : Way) (input : List ℕ) (meaning : Meaning) → Reads (reader o) input meaning
    → CanConvert o way meaning → (made : Made) × (converted o way input ≡ Ok made)
can_convert o (Written target) input meaning reads can =
    let text = conversion_valid o target input meaning reads can in
    (Whole text.0, ap (map_ok Whole) text.1)
can_convert o (Certified request) input meaning reads can =
    (ToSign can.0, ap (map_ok ToSign) (certification_from o request input meaning can.0 reads can.1))

pub answered_converts : (signs : SignRelation) (o : Outside) (way : Way) (input : List ℕ) (Faults : ConvertError → Type 0)
    (rose : Type 0) (r : Result (List ℕ) ConvertError) → IsGiven o → IsWay way → IsUtf8 input
    → AnswersMade signs (λ text. text) (converted o way input) Faults rose r → IfOk r (λ text. IsConverted signs o way input text)
answered_converts signs o way input Faults rose (Ok text) given fits utf8 answers = converted_is signs o way input text given fits utf8 answers
answered_converts signs o way input Faults rose (Err e) given fits utf8 answers = tt

binds_to : (signs : SignRelation) (o : Outside) (way : Way) (input text : List ℕ) → IsGiven o → IsWay way → IsUtf8 input
    → WritesMade signs (converted o way input) text → BindsTo o way input text
binds_to signs o (Written target) input text given fits utf8 done =
    text_binds o target input text given fits utf8 (whole_of signs (conversion o target input) text done)
binds_to signs o (Certified request) input text given fits utf8 done = tt

pub answered_binds : (signs : SignRelation) (o : Outside) (way : Way) (input : List ℕ) (Faults : ConvertError → Type 0)
    (rose : Type 0) (r : Result (List ℕ) ConvertError) → IsGiven o → IsWay way → IsUtf8 input
    → AnswersMade signs (λ text. text) (converted o way input) Faults rose r → IfOk r (BindsTo o way input)
answered_binds signs o way input Faults rose (Ok text) given fits utf8 answers = binds_to signs o way input text given fits utf8 answers
answered_binds signs o way input Faults rose (Err e) given fits utf8 answers = tt

pub answered_whole : (signs : SignRelation) (o : Outside) (way : Way) (input : List ℕ) (Faults : ConvertError → Type 0)
    (rose : Type 0) (r : Result (List ℕ) ConvertError) (meaning : Meaning)
    → AnswersMade signs (λ text. text) (converted o way input) Faults rose r → Reads (reader o) input meaning → CanConvert o way meaning
    → IsOk r ⊎ (r ≡ Err errors.NoMemory)
    ⊎ ((e : ConvertError) × (r ≡ Err e) × (Faults e ⊎ IsLeft signs (converted o way input) rose e))
answered_whole signs o way input Faults rose (Ok text) meaning answers reads can = inl refl
answered_whole signs o way input Faults rose (Err e) meaning (inl want) reads can = inr (inl (ap Err want))
answered_whole signs o way input Faults rose (Err e) meaning (inr (inl fault)) reads can = inr (inr (e, refl, inl fault))
answered_whole signs o way input Faults rose (Err e) meaning (inr (inr (inl left))) reads can = inr (inr (e, refl, inr left))
answered_whole signs o way input Faults rose (Err e) meaning (inr (inr (inr refused))) reads can =
    let found = (can_convert o way input meaning reads can).1 in cc (refused, found)

-- by the key alone
pub key_converted : (signs : SignRelation) (o : Outside) (to : Target) (target : KeyTarget) (input : List ℕ) (suite_rose signer_rose : Type 0)
    (r : Result (List ℕ) ConvertError) → way_to to ≡ Written target → AnswersKeyText (λ text. text) o target input suite_rose r
    → AnswersMade signs (λ text. text) (converted o (way_to to) input) (λ e. IsFaultTo o (way_to to) input e suite_rose) signer_rose r
key_converted signs o to target input suite_rose signer_rose r is answers =
    subst (λ way. AnswersMade signs (λ text. text) (converted o way input) (λ e. IsFaultTo o way input e suite_rose) signer_rose r) (sym is)
    (plain_made signs (λ text. text) (conversion o target input) (λ e. IsFaultOf o target input e suite_rose) signer_rose r answers)

pub key_answered : (o : Outside) (target : KeyTarget) (input : List ℕ) (rose : Type 0) (r : Result (List ℕ) ConvertError)
    → IsGiven o → IsTarget target → IsUtf8 input → AnswersKeyText (λ text. text) o target input rose r
    → IfOk r (λ text. IsConversion o target input text × Binds o target input text)
key_answered o target input rose (Ok text) given fits utf8 answers =
    (conversion_is o target input text given fits utf8 answers, text_binds o target input text given fits utf8 answers)
key_answered o target input rose (Err e) given fits utf8 answers = tt
