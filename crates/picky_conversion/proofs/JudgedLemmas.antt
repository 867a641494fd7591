-- What a target's refusals are not: want of memory, or a device's fault.
use Rattle.std.proofs.Common.{◌≡◌, List, [], ◌∷◌, ℕ, Bool, true, false, Result, Ok, Err, if◌then◌else◌, refl, subst, ◌⊎◌, inl, inr}
use Rattle.picky_wire_base.specs.Outcome.{and_then, map_err}
use Rattle.picky_suite.specs.Meanings.{Meanings}
use Rattle.picky_key_text.specs.declared.error.ReadError.{ReadError}
use Rattle.picky_key_text.specs.declared.meaning.Meaning.{Meaning}
use Rattle.picky_key_text.specs.Order.{reading}
use Rattle.picky_key_text.specs.Reader.{Reader}
use Rattle.picky_target.specs.declared.error.ConvertError.{ConvertError}
use Rattle.picky_target.specs.declared.error.ConvertError.TheVariants as errors
use Rattle.picky_target.specs.declared.target.KeyTarget.{KeyTarget}
use Rattle.picky_target.specs.declared.target.KeyTarget.TheVariants as targets
use Rattle.picky_target.specs.Carried.{Place, places, PrivateKey, Kind, Comment, Derivation, Fresh, Length, Lines}
use Rattle.picky_target.specs.Judged.{first_failing, judged_meaning, passes, place_refusal}
use Rattle.picky_target.specs.Output.{Output}
use Rattle.picky_target.specs.Texts.{text_for}
use Rattle.picky_target.specs.Written.{written}
use Rattle.picky_conversion.specs.Want.{WantsMemory, IsFault, IsSignerFault}
use Rattle.picky_key_text.proofs.RefusalLaws.{reading_own as no_fault}

-- the refusal is the definition's own: no want of memory, and no device's fault
abbrev pub IsOwnConvert : ConvertError → Type 0
IsOwnConvert e = (WantsMemory e → ⊥) × (IsFault e → ⊥) × (IsSignerFault e → ⊥)

neither : {A B : Type 0} → (A → ⊥) → (B → ⊥) → (A ⊎ B) → ⊥
neither a b = λ either. elim either [ inl x ↦ a x | inr y ↦ b y ]

place_is_own : (to : KeyTarget) (place : Place) → IsOwnConvert (place_refusal to place)
place_is_own to PrivateKey = (λ want. cc want, λ fault. fault, λ fault. fault)
place_is_own to Kind = (neither (λ is. cc is) (λ is. cc is), λ is. cc is, λ fault. fault)
place_is_own to Comment = (λ want. cc want, λ fault. fault, λ fault. fault)
place_is_own (targets.OpenSsh rounds) Derivation = (neither (λ is. cc is) (λ is. cc is), λ is. cc is, λ fault. fault)
place_is_own (targets.Ppk version config layout) Derivation = (neither (λ is. cc is) (λ is. cc is), λ is. cc is, λ fault. fault)
place_is_own targets.OpenSshPublic Derivation = (neither (λ is. cc is) (λ is. cc is), λ is. cc is, λ fault. fault)
place_is_own targets.PuttyPublic Derivation = (neither (λ is. cc is) (λ is. cc is), λ is. cc is, λ fault. fault)
place_is_own to Fresh = (λ want. cc want, λ fault. fault, λ fault. fault)
place_is_own to Length = (λ want. cc want, λ fault. fault, λ fault. fault)
place_is_own to Lines = (λ want. cc want, λ fault. fault, λ fault. fault)

failing_is_own : (P : ConvertError → Type 0) (test : Place → Bool) (error : Place → ConvertError) (list : List Place)
    (e : ConvertError) → ((place : Place) → P (error place)) → first_failing test error list ≡ Err e → P e
failing_is_own P test error [] e each refused = cc refused
failing_is_own P test error (place ∷ more) e each refused =
    go (test place) (λ is. failing_is_own P test error more e each is) refused
  where
    go : (passed : Bool) → (first_failing test error more ≡ Err e → P e)
        → (if passed then first_failing test error more else Err (error place)) ≡ Err e → P e
    go true later is = later is
    go false later is = let same : error place ≡ e = cc is in subst P same (each place)

judged_is_own : (out : Output) (to : KeyTarget) (meaning : Meaning) (e : ConvertError) → judged_meaning out to meaning ≡ Err e → IsOwnConvert e
unfolding judged_meaning
judged_is_own out to meaning e refused =
    failing_is_own IsOwnConvert (passes out to meaning) (place_refusal to) places e
    (place_is_own to) refused

-- a step after which only refusals of the next one come
pub next_is : {E A B : Type 0} (P : E → Type 0) (r : Result A E) (next : A → Result B E) (e : E)
    → ((f : E) → r ≡ Err f → P f) → ((x : A) (f : E) → r ≡ Ok x → next x ≡ Err f → P f) → and_then r next ≡ Err e → P e
next_is P (Ok x) next e first second refused = second x e refl refused
next_is P (Err f) next e first second refused = let is : f ≡ e = cc refused in subst P is (first f refl)

pub written_is_own : (m : Meanings) (out : Output) (to : KeyTarget) (meaning : Meaning) (e : ConvertError)
    → written m out to meaning ≡ Err e → IsOwnConvert e
unfolding written
written_is_own m out to meaning e refused =
    next_is IsOwnConvert (judged_meaning out to meaning) (λ _. Ok (text_for m out to meaning)) e (judged_is_own out to meaning)
    (λ x f was is. cc is) refused

pub mapped_is : {E F A : Type 0} (P : F → Type 0) (f : E → F) (r : Result A E) (e : F)
    → ((g : E) → r ≡ Err g → P (f g)) → map_err f r ≡ Err e → P e
mapped_is P f (Ok x) e each refused = cc refused
mapped_is P f (Err g) e each refused = let is : f g ≡ e = cc refused in subst P is (each g refl)

pub input_is_own : (r : Reader) (text : List ℕ) (g : ReadError) → reading r text ≡ Err g → IsOwnConvert (errors.Input g)
input_is_own r text g is = let known = no_fault r text g is in (known.1, known.0, λ fault. fault)

pub reading_is_own : (r : Reader) (text : List ℕ) (e : ConvertError) → map_err errors.Input (reading r text) ≡ Err e → IsOwnConvert e
reading_is_own r text e refused = mapped_is IsOwnConvert errors.Input (reading r text) e (input_is_own r text) refused

pub issuer_is_own : (r : Reader) (text : List ℕ) (g : ReadError) → reading r text ≡ Err g → IsOwnConvert (errors.Issuer g)
issuer_is_own r text g is = let known = no_fault r text g is in (known.1, known.0, λ fault. fault)
