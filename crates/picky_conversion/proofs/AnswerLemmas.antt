-- What a conversion answers, from what reading and writing answer.
use Rattle.std.proofs.Common.{◌≡◌, ℕ, List, Bool, true, false, Result, Ok, Err, refl, sym, ap, ◌∙◌, subst, ◌⊎◌, inl, inr, ◌||◌}
use Rattle.picky_suite.specs.Asked.{GivesAsked, LeavesSuite}
use Rattle.picky_suite.specs.Failures.{IsAskedFault}
use Rattle.picky_suite.specs.Meanings.{Meanings}
use Rattle.picky_wire.specs.Count.{Rose}
use Rattle.picky_key_text.specs.declared.error.ReadError.{ReadError}
use Rattle.picky_key_text.specs.declared.error.ReadError.TheVariants as input_errors
use Rattle.picky_key_text.specs.declared.form.Form.{Form}
use Rattle.picky_key_text.specs.declared.form.Form.TheVariants as forms
use Rattle.picky_key_text.specs.declared.meaning.Meaning.{Meaning}
use Rattle.picky_key_text.specs.Form.{form_of}
use Rattle.picky_key_text.specs.Order.{asks, fault_as, fault_of as input_fault, reading}
use Rattle.picky_key_text.specs.Reader.{Reader}
use Rattle.picky_key_text.specs.Want.{IsFault as IsReadFault}
use Rattle.picky_target.specs.declared.error.ConvertError.{ConvertError}
use Rattle.picky_target.specs.declared.error.ConvertError.TheVariants as errors
use Rattle.picky_target.specs.declared.target.KeyTarget.{KeyTarget}
use Rattle.picky_target.specs.declared.target.KeyTarget.TheVariants as targets
use Rattle.picky_target.specs.Written.{target_fault, written, writing_asks}
use Rattle.picky_conversion.specs.Convert.{AnswersKeyText, IsFaultOf, LeavesAskedSuite, asks_for, asks_to_write, conversion, converting_asks}
use Rattle.picky_conversion.specs.Outside.{Outside, reader}
use Rattle.picky_conversion.specs.Want.{IsFault}
use Rattle.picky_conversion.specs.Refusal.{input_refusal, issuer_refusal}
use Rattle.picky_conversion.proofs.JudgedLemmas.{IsOwnConvert, input_is_own, issuer_is_own, written_is_own}

-- ---- the suite's faults

pub either_true : (x y : Bool) → (x ≡ true) ⊎ (y ≡ true) → (x || y) ≡ true
either_true true y is = refl
either_true false y (inl is) = cc is
either_true false y (inr is) = is

pub either_false : (x y : Bool) → (x || y) ≡ false → (x ≡ false) × (y ≡ false)
either_false true y is = cc is
either_false false y is = (refl, is)

form_fault : (form : Form) → IsReadFault (fault_as form)
form_fault forms.Envelope = refl
form_fault forms.Ppk = refl
form_fault forms.PuttyPublic = refl
form_fault forms.Certificate = refl
form_fault forms.PublicLine = refl

pub input_fault_is : (input : List ℕ) → IsReadFault (input_fault input)
input_fault_is input = form_fault (form_of input)

pub output_fault_is : (target : KeyTarget) → IsFault (target_fault target)
output_fault_is (targets.OpenSsh rounds) = refl
output_fault_is (targets.Ppk version config layout) = refl
output_fault_is targets.OpenSshPublic = refl
output_fault_is targets.PuttyPublic = refl

-- the suite is asked to open the key text, or to seal what it means
pub opening_asks : (o : Outside) (target : KeyTarget) (input : List ℕ) → asks o.pass_in input ≡ true
    → converting_asks o target input ≡ true
unfolding converting_asks
opening_asks o target input is = either_true (asks o.pass_in input) (asks_to_write o target input) (inl is)

pub sealing_asks : (o : Outside) (target : KeyTarget) (input : List ℕ) → asks_to_write o target input ≡ true
    → converting_asks o target input ≡ true
unfolding converting_asks
sealing_asks o target input is = either_true (asks o.pass_in input) (asks_to_write o target input) (inr is)

pub asks_neither : (o : Outside) (target : KeyTarget) (input : List ℕ) → converting_asks o target input ≡ false
    → (asks o.pass_in input ≡ false) × (asks_to_write o target input ≡ false)
unfolding converting_asks
asks_neither o target input is = either_false (asks o.pass_in input) (asks_to_write o target input) is

asks_of_meaning : (o : Outside) (target : KeyTarget) (input : List ℕ) (meaning : Meaning) → reading (reader o) input ≡ Ok meaning
    → asks_to_write o target input ≡ writing_asks o.output target meaning
unfolding asks_to_write
asks_of_meaning o target input meaning means = ap (asks_for o target) means

-- ---- a text that is refused

-- a refusal of a text is said at its place, where want of memory is the outer want
pub record IsRefuser (place refuse : ReadError → ConvertError) : Type 0 where
  pub want : refuse input_errors.NoMemory ≡ errors.NoMemory
  pub other : (e : ReadError) → (e ≡ input_errors.NoMemory) ⊎ (refuse e ≡ place e)
  pub fault : (form : Form) → IsFault (refuse (fault_as form))
  pub own : (r : Reader) (text : List ℕ) (e : ReadError) → reading r text ≡ Err e → IsOwnConvert (place e)

input_other : (e : ReadError) → (e ≡ input_errors.NoMemory) ⊎ (input_refusal e ≡ errors.Input e)
input_other input_errors.NoMemory = inl refl
input_other (input_errors.Private e) = inr refl
input_other (input_errors.Public e) = inr refl
input_other (input_errors.Certificate e) = inr refl
input_other (input_errors.Putty e) = inr refl

input_form_fault : (form : Form) → IsFault (input_refusal (fault_as form))
input_form_fault forms.Envelope = refl
input_form_fault forms.Ppk = refl
input_form_fault forms.PuttyPublic = refl
input_form_fault forms.Certificate = refl
input_form_fault forms.PublicLine = refl

pub refuses_input : IsRefuser (λ e. errors.Input e) input_refusal
refuses_input = record { want = refl; other = input_other; fault = input_form_fault; own = input_is_own }

issuer_other : (e : ReadError) → (e ≡ input_errors.NoMemory) ⊎ (issuer_refusal e ≡ errors.Issuer e)
issuer_other input_errors.NoMemory = inl refl
issuer_other (input_errors.Private e) = inr refl
issuer_other (input_errors.Public e) = inr refl
issuer_other (input_errors.Certificate e) = inr refl
issuer_other (input_errors.Putty e) = inr refl

issuer_form_fault : (form : Form) → IsFault (issuer_refusal (fault_as form))
issuer_form_fault forms.Envelope = refl
issuer_form_fault forms.Ppk = refl
issuer_form_fault forms.PuttyPublic = refl
issuer_form_fault forms.Certificate = refl
issuer_form_fault forms.PublicLine = refl

pub refuses_issuer : IsRefuser (λ e. errors.Issuer e) issuer_refusal
refuses_issuer = record { want = refl; other = issuer_other; fault = issuer_form_fault; own = issuer_is_own }

no_fault_of_want : (place refuse : ReadError → ConvertError) → IsRefuser place refuse → (e : ReadError)
    → e ≡ input_errors.NoMemory → IsFault (refuse e) → ⊥
no_fault_of_want place refuse k e is fault = subst IsFault k.want (subst (λ f. IsFault (refuse f)) is fault)

-- how reading refuses
abbrev pub ReadingRefuses : Reader → List ℕ → ReadError → Type 0 → Type 0
ReadingRefuses r input e rose =
    (e ≡ input_errors.NoMemory) ⊎ ((e ≡ input_fault input) × IsAskedFault (asks r.pass input) rose)
    ⊎ (reading r input ≡ Err e)

-- what is answered for it
pub refused_gives : {A : Type 0} (place refuse : ReadError → ConvertError) → IsRefuser place refuse → (r : Reader)
    (input : List ℕ) (e : ReadError) (rose : Type 0) (Faults : ConvertError → Type 0) (says : Result A ConvertError)
    → ReadingRefuses r input e rose → (e ≡ input_fault input → IsAskedFault (asks r.pass input) rose → Faults (place e))
    → (reading r input ≡ Err e → says ≡ Err (place e))
    → (refuse e ≡ errors.NoMemory) ⊎ Faults (refuse e) ⊎ (says ≡ Err (refuse e))
refused_gives place refuse k r input e rose Faults says (inl want) faults refused = inl (ap refuse want ∙ k.want)
refused_gives place refuse k r input e rose Faults says (inr (inl fault)) faults refused = elim (k.other e) [
  | inl want ↦ inl (ap refuse want ∙ k.want)
  | inr is ↦ inr (inl (subst Faults (sym is) (faults fault.0 fault.1)))
]
refused_gives place refuse k r input e rose Faults says (inr (inr was)) faults refused = elim (k.other e) [
  | inl want ↦ inl (ap refuse want ∙ k.want)
  | inr is ↦ inr (inr (refused was ∙ ap Err (sym is)))
]

-- a refusal is the suite's fault only where one was counted
refused_counts : (place refuse : ReadError → ConvertError) → IsRefuser place refuse → (r : Reader) (input : List ℕ)
    (e : ReadError) (rose : Type 0) → ReadingRefuses r input e rose → IsFault (refuse e) → rose
refused_counts place refuse k r input e rose (inl want) fault = absurd (no_fault_of_want place refuse k e want fault)
refused_counts place refuse k r input e rose (inr (inl asked)) fault = asked.1.1
refused_counts place refuse k r input e rose (inr (inr was)) fault = elim (k.other e) [
  | inl want ↦ absurd (no_fault_of_want place refuse k e want fault)
  | inr is ↦ absurd ((k.own r input e was).1 (subst IsFault is fault))
]

pub refused_leaves : {S A : Type 0} (place refuse : ReadError → ConvertError) → IsRefuser place refuse
    → (meanings : S → Meanings) (faults : S → ℕ) (r : Reader) (asked : Bool) (input : List ℕ)
    (e : ReadError) (old new : S) → (asked ≡ false → asks r.pass input ≡ false)
    → ReadingRefuses r input e (Rose (faults old) (faults new))
    → LeavesSuite {A = Meaning} meanings faults (input_fault input) (asks r.pass input) (Err e) old new
    → LeavesAskedSuite {A = A} meanings faults asked (Err (refuse e)) old new
refused_leaves place refuse k meanings faults r asked input e old new none gives leaves = record {
  kept = leaves.kept;
  counted = λ f is fault.
      let same : f ≡ refuse e = cc is in
      refused_counts place refuse k r input e (Rose (faults old) (faults new)) gives (subst IsFault same fault);
  calm = λ calm. leaves.calm (λ is.
      calm (refuse e) refl (subst (λ f. IsFault (refuse f)) (sym is) (k.fault (form_of input))));
  unasked = λ no. leaves.unasked (none no);
}

-- a key text that is refused is no conversion's
pub conversion_refused : (o : Outside) (target : KeyTarget) (input : List ℕ) (e : ReadError) → reading (reader o) input ≡ Err e
    → conversion o target input ≡ Err (errors.Input e)
unfolding conversion
conversion_refused o target input e refused = rw refused refl

-- ---- a meaning that is written

-- how writing answers
abbrev pub WritingAnswers : {X : Type 0} → (X → List ℕ) → Outside → KeyTarget → Meaning → Meanings → Type 0
    → Result X ConvertError → Type 0
WritingAnswers view o target meaning m rose r =
    GivesAsked errors.NoMemory (target_fault target) view r (written m o.output target meaning)
    (writing_asks o.output target meaning) rose

conversion_written : (o : Outside) (target : KeyTarget) (input : List ℕ) (meaning : Meaning) (m : Meanings)
    → reading (reader o) input ≡ Ok meaning → m ≡ o.meanings → conversion o target input ≡ written m o.output target meaning
unfolding conversion
conversion_written o target input meaning m means same = rw means (ap (λ n. written n o.output target meaning) (sym same))

pub written_gives : {X : Type 0} (view : X → List ℕ) (o : Outside) (target : KeyTarget) (input : List ℕ) (meaning : Meaning)
    (m : Meanings) (before between after : ℕ) (r : Result X ConvertError) → reading (reader o) input ≡ Ok meaning
    → m ≡ o.meanings → between ≡ before → WritingAnswers view o target meaning m (Rose between after) r
    → AnswersKeyText view o target input (Rose before after) r
written_gives view o target input meaning m before between after (Ok text) means same count gives =
    conversion_written o target input meaning m means same ∙ gives
written_gives view o target input meaning m before between after (Err e) means same count (inl want) = inl want
written_gives view o target input meaning m before between after (Err e) means same count (inr (inl fault)) =
    inr (inl (inr (
      fault.0,
      (asks_of_meaning o target input meaning means ∙ fault.1.0, subst (λ n. Rose n after) count fault.1.1),
    )))
written_gives view o target input meaning m before between after (Err e) means same count (inr (inr refused)) =
    inr (inr (conversion_written o target input meaning m means same ∙ refused))

written_counts : (o : Outside) (target : KeyTarget) (meaning : Meaning) (m : Meanings) (rose : Type 0) (e : ConvertError)
    → (e ≡ errors.NoMemory) ⊎ ((e ≡ target_fault target) × IsAskedFault (writing_asks o.output target meaning) rose)
    ⊎ (written m o.output target meaning ≡ Err e)
    → IsFault e → rose
written_counts o target meaning m rose e (inl want) fault = absurd (subst IsFault want fault)
written_counts o target meaning m rose e (inr (inl asked)) fault = asked.1.1
written_counts o target meaning m rose e (inr (inr refused)) fault =
    absurd ((written_is_own m o.output target meaning e refused).1 fault)

-- a later rise is one of the whole
pub written_leaves : {S X : Type 0} (view : X → List ℕ) (meanings : S → Meanings) (faults : S → ℕ) (o : Outside)
    (target : KeyTarget) (input : List ℕ) (meaning : Meaning) (r : Result X ConvertError) (old between new : S)
    → reading (reader o) input ≡ Ok meaning
    → LeavesSuite {A = Meaning} {E = ReadError} meanings faults (input_fault input) (asks o.pass_in input) (Ok meaning) old between
    → WritingAnswers view o target meaning (meanings between) (Rose (faults between) (faults new)) r
    → LeavesSuite meanings faults (target_fault target) (writing_asks o.output target meaning) r between new
    → LeavesAskedSuite meanings faults (converting_asks o target input) r old new
written_leaves view meanings faults o target input meaning (Ok text) old between new means first gives second = record {
  kept = second.kept ∙ first.kept;
  counted = λ e is fault. cc is;
  calm = λ calm. second.calm ∙ first.calm;
  unasked = λ no.
      let two = asks_neither o target input no in
      second.unasked (sym (asks_of_meaning o target input meaning means) ∙ two.1) ∙ first.unasked two.0;
}
written_leaves view meanings faults o target input meaning (Err e) old between new means first gives second = record {
  kept = second.kept ∙ first.kept;
  counted = λ f is fault.
      let same : f ≡ e = cc is in
      let rose = written_counts o target meaning (meanings between) (Rose (faults between) (faults new)) e gives (subst IsFault same fault) in
      subst (λ n. Rose n (faults new)) first.calm rose;
  calm = λ calm.
      second.calm (λ is. calm e refl (subst IsFault (sym is) (output_fault_is target))) ∙ first.calm;
  unasked = λ no.
      let two = asks_neither o target input no in
      second.unasked (sym (asks_of_meaning o target input meaning means) ∙ two.1) ∙ first.unasked two.0;
}

pub key_refused : (o : Outside) (target : KeyTarget) (input : List ℕ) (e : ReadError) (rose : Type 0)
    → ReadingRefuses (reader o) input e rose
    → (input_refusal e ≡ errors.NoMemory) ⊎ IsFaultOf o target input (input_refusal e) rose
    ⊎ (conversion o target input ≡ Err (input_refusal e))
key_refused o target input e rose gives =
    refused_gives (λ f. errors.Input f) input_refusal refuses_input (reader o) input e rose (λ f. IsFaultOf o target input f rose)
    (conversion o target input) gives (λ is asked. inl (ap errors.Input is, asked)) (conversion_refused o target input e)
