-- What the calls below answer, as what a call here answers.
use Rattle.std.proofs.Common.{◌≡◌, ◌⊎◌, ◌∙◌, true, ℕ, List, None, Result, Ok, Err, ap, sym, subst, inl}
use Rattle.std.proofs.Common.{inr, refl}
use Rattle.std.specs.Str.{is_utf8}
use Rattle.picky_wire_base.specs.Outcome.{and_then, map_err}
use Rattle.picky_suite.specs.{Failures.{IsAskedFault}, Meanings.{Meanings, plain}}
use Rattle.picky_keys.specs.declared.key.SshPublicKey.{SshPublicKey}
use Rattle.picky_key_text.specs.{Key.{public_key as public_key_of}}
use Rattle.picky_key_text.specs.Order.{asks, fault_as, fault_of as input_fault, reading}
use Rattle.picky_key_text.specs.{declared.error.ReadError.{ReadError}, declared.form.Form.{Form}}
use Rattle.picky_key_text.specs.declared.meaning.Meaning.{Meaning}
use Rattle.picky_key_text.specs.declared.error.ReadError.TheVariants as input
use Rattle.picky_key_text.specs.declared.form.Form.TheVariants as forms
use Rattle.picky_target.specs.{Written.{target_fault}, declared.error.ConvertError.{ConvertError}}
use Rattle.picky_target.specs.declared.target.KeyTarget.{KeyTarget}
use Rattle.picky_target.specs.declared.error.ConvertError.TheVariants as errors
use Rattle.picky_target.specs.declared.target.KeyTarget.TheVariants as targets
use Rattle.picky_conversion.specs.Refusal.{input_refusal}
use Rattle.picky_c.specs.{Calls.{public_key}, Given.{plain_reader}, Refusal.{refusal_of}}
use Rattle.picky_c.specs.declared.error.PickyError.{PickyError}
use Rattle.picky_c.specs.declared.error.PickyError.TheVariants as calls
use Rattle.picky_key_text.proofs.UnaskedLaws.{unasked}

-- ---- a conversion

-- the suite's fault, in reading and in writing, is the want of a cipher
pub input_fault_is : (form : Form) → refusal_of (errors.Input (fault_as form)) ≡ calls.NoCipher
input_fault_is forms.Envelope = refl
input_fault_is forms.Ppk = refl
input_fault_is forms.PuttyPublic = refl
input_fault_is forms.Certificate = refl
input_fault_is forms.PublicLine = refl

pub output_fault_is : (target : KeyTarget) → refusal_of (target_fault target) ≡ calls.NoCipher
output_fault_is (targets.OpenSsh rounds) = refl
output_fault_is (targets.Ppk version config layout) = refl
output_fault_is targets.OpenSshPublic = refl
output_fault_is targets.PuttyPublic = refl

-- ---- a public key

read_refusal : (text : List ℕ) (e : ReadError) (says : Result Meaning ReadError) (rose : Type 0)
    → (e ≡ input.NoMemory) ⊎ ((e ≡ input_fault text) × IsAskedFault (asks None text) rose) ⊎ (says ≡ Err e)
    → (refusal_of (input_refusal e) ≡ calls.NoMemory)
    ⊎ (map_err (λ e. refusal_of (input_refusal e)) says ≡ Err (refusal_of (input_refusal e)))
read_refusal text e says rose (inl want) = inl (ap (λ e. refusal_of (input_refusal e)) want)
read_refusal text e says rose (inr (inl fault)) = cc (sym (unasked text) ∙ fault.1.0)
read_refusal text e says rose (inr (inr refused)) = inr (ap (map_err (λ e. refusal_of (input_refusal e))) refused)

-- what a text comes to that is UTF-8
abbrev keyed : Result Meaning ReadError → Result SshPublicKey PickyError
keyed says = and_then (map_err (λ e. refusal_of (input_refusal e)) says) (λ meaning. Ok (public_key_of meaning))

utf8_key : (text : List ℕ) → is_utf8 text ≡ true → public_key text ≡ keyed (reading plain_reader text)
utf8_key text is = rw is refl

refused_key : (says : Result Meaning ReadError) (g : PickyError) → map_err (λ e. refusal_of (input_refusal e)) says ≡ Err g
    → keyed says ≡ Err g
refused_key (Ok meaning) g same = cc same
refused_key (Err e) g same = let one : refusal_of (input_refusal e) ≡ g = cc same in ap Err one

-- how reading refuses
abbrev Refuses : Meanings → (text : List ℕ) → ReadError → Type 0 → Type 0
Refuses m text e rose =
    (e ≡ input.NoMemory) ⊎ ((e ≡ input_fault text) × IsAskedFault (asks None text) rose)
    ⊎ (reading (record plain_reader { meanings = m }) text ≡ Err e)

key_refused : (text : List ℕ) (g : PickyError) → is_utf8 text ≡ true
    → (g ≡ calls.NoMemory) ⊎ (map_err (λ e. refusal_of (input_refusal e)) (reading plain_reader text) ≡ Err g)
    → (g ≡ calls.NoMemory) ⊎ (public_key text ≡ Err g)
key_refused text g is (inl want) = inl want
key_refused text g is (inr refused) = inr (utf8_key text is ∙ refused_key (reading plain_reader text) g refused)

pub key_refusal : (m : Meanings) (bytes text : List ℕ) (e : ReadError) (f : ConvertError) (g : PickyError) (rose : Type 0) → m ≡ plain
    → text ≡ bytes → is_utf8 bytes ≡ true → f ≡ input_refusal e → g ≡ refusal_of f → Refuses m text e rose
    → (g ≡ calls.NoMemory) ⊎ (public_key bytes ≡ Err g)
key_refusal m bytes text e f g rose means same is input_is is_g refuses =
    let here = subst (λ t. Refuses plain t e rose) same (subst (λ n. Refuses n text e rose) means refuses) in
    let is_refusal : g ≡ refusal_of (input_refusal e) = is_g ∙ ap refusal_of input_is in
    let refused = read_refusal bytes e (reading plain_reader bytes) rose here in
    key_refused bytes g is (subst (λ d. (d ≡ calls.NoMemory)
    ⊎ (map_err (λ e. refusal_of (input_refusal e)) (reading plain_reader bytes) ≡ Err d)) (sym is_refusal) refused)
