-- What is read without a passphrase: no suite is asked, so what is refused is the text.
use Rattle.std.proofs.Common.{◌≡◌, ◌⊎◌, ◌∙◌, true, ℕ, List, None, Some, Result, Ok, Err, ap, sym, subst, inl, inr}
use Rattle.picky_wire_base.specs.Outcome.{and_then, map_err}
use Rattle.picky_suite.specs.Failures.{IsAskedFault}
use Rattle.picky_key_text.specs.Order.{asks, fault_of as input_fault, reading}
use Rattle.picky_key_text.specs.declared.error.ReadError.{ReadError}
use Rattle.picky_key_text.specs.declared.error.ReadError.TheVariants as input
use Rattle.picky_key_text.specs.declared.meaning.Meaning.{Meaning}
use Rattle.picky_key_text.proofs.UnaskedLaws.{unasked}
use Rattle.picky_suite.specs.Meanings.{Meanings, plain}
use Rattle.picky_conversion.specs.Certify.{IsInputFault}
use Rattle.picky_conversion.specs.Outside.{Outside}
use Rattle.picky_target.specs.declared.error.ConvertError.{ConvertError}
use Rattle.picky_target.specs.declared.error.ConvertError.TheVariants as conversions
use Rattle.picky_certify.specs.Refusal.{conversion_refusal}
use Rattle.picky_certify.specs.declared.error.CertifyError.{CertifyError}
use Rattle.picky_certify.specs.declared.error.CertifyError.TheVariants as errors

-- reading refuses for want of memory, or the text
pub text_is_refused : (m : Meanings) (text : List ℕ) (e : ReadError) (rose : Type 0) → m ≡ plain
    → (e ≡ input.NoMemory) ⊎ ((e ≡ input_fault text) × IsAskedFault (asks None text) rose)
    ⊎ (reading (record { meanings = m; pass = None }) text ≡ Err e)
    → (e ≡ input.NoMemory) ⊎ (reading (record { meanings = plain; pass = None }) text ≡ Err e)
text_is_refused m text e rose is (inl want) = inl want
text_is_refused m text e rose is (inr (inl fault)) = cc (sym (unasked text) ∙ fault.1.0)
text_is_refused m text e rose is (inr (inr refused)) = inr (rw is at refused)

-- a refusal, as a call's
pub refused_as : {A : Type 0} (of : ReadError → ConvertError) (r : Result A ReadError) (e : ReadError) (g : CertifyError)
    → conversion_refusal (of e) ≡ g → (e ≡ input.NoMemory → ⊥) → (e ≡ input.NoMemory) ⊎ (r ≡ Err e)
    → (g ≡ errors.NoMemory) ⊎ (map_err conversion_refusal (map_err of r) ≡ Err g)
refused_as of r e g is other (inl want) = absurd (other want)
refused_as of r e g is other (inr refused) = inr (ap (λ s. map_err conversion_refusal (map_err of s)) refused ∙ ap Err is)

pub refused_issuer : (r : Result Meaning ReadError) (g : CertifyError)
    → (g ≡ errors.NoMemory) ⊎ (map_err conversion_refusal (map_err conversions.Issuer r) ≡ Err g)
    → (g ≡ errors.NoMemory)
    ⊎ (map_err conversion_refusal (and_then (map_err conversions.Issuer r) (λ meaning. Ok (Some meaning.key))) ≡ Err g)
refused_issuer r g (inl want) = inl want
refused_issuer (Ok meaning) g (inr refused) = cc refused
refused_issuer (Err f) g (inr refused) = let same : conversion_refusal (conversions.Issuer f) ≡ g = cc refused in inr (ap Err same)

-- what bytes_to_sign and draft_line answer, as a call's
pub plain_refused : {A : Type 0} (says other : Result A ConvertError) (fault : Type 0) (e : ConvertError) (g : CertifyError)
    → says ≡ other → (fault → ⊥) → g ≡ conversion_refusal e → (e ≡ conversions.NoMemory) ⊎ fault ⊎ (says ≡ Err e)
    → (g ≡ errors.NoMemory) ⊎ (map_err conversion_refusal other ≡ Err g)
plain_refused says other fault e g same none is (inl want) = inl (is ∙ ap conversion_refusal want)
plain_refused says other fault e g same none is (inr (inl at)) = absurd (none at)
plain_refused says other fault e g same none is (inr (inr refused)) =
    inr (ap (map_err conversion_refusal) (sym same ∙ refused) ∙ ap Err (sym is))

pub no_fault : (o : Outside) (key : List ℕ) (e : ConvertError) (rose : Type 0) → o.pass_in ≡ None → IsInputFault o key e rose → ⊥
no_fault o key e rose none fault =
    let asked = subst (λ pass. asks pass key ≡ true) none fault.1.0 in
    cc (sym (unasked key) ∙ asked)
