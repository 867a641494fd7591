-- What a round comes to, from what the conversion answers and why the device has no answer.
use Rattle.std.proofs.Common.{◌≡◌, ◌∙◌, ◌<◌, true, false, ℕ, Bool, List, [], Option, None, Some, Result, Ok, Err, ap, sym, subst}
use Rattle.std.proofs.Common.{inl, inr, refl, length}
use Rattle.std.specs.{Option.{ok_or}, Prelude.{◌-◌, ◌^◌, IfOk, if◌then◌else◌, min}}
use Rattle.std.specs.Str.{is_utf8}
use Rattle.picky_wire_base.specs.{Outcome.{and_then, map_err, map_ok}, Row.{read_all}}
use Rattle.picky_suite.specs.{Asked.{GivesAsked, IsAskedAtMost}, Meanings.{Meanings}}
use Rattle.picky_wire.specs.Count.{Rose, count_one}
use Rattle.picky_ask.proofs.TurnLemmas.{enough_answers}
use Rattle.picky_ask.specs.{Cause.{HasCause}, State.{IsState, State, calls_made, fresh}, Table.{table_of}}
use Rattle.picky_ask.specs.declared.{missing.Missing.{Missing}, question.Entry.{Entry}, question.Question.{Question}}
use Rattle.picky_ask.specs.declared.missing.Missing.TheVariants as missings
use Rattle.picky_key_text.specs.Form.{form_of}
use Rattle.picky_target.specs.declared.{error.ConvertError.{ConvertError}, target.KeyTarget.{KeyTarget}}
use Rattle.picky_conversion.specs.{Convert.{AnswersKeyText, conversion, converting_asks}, Outside.{Outside}}
use Rattle.picky_conversion.proofs.AnswerLemmas.{opening_asks, sealing_asks}
use Rattle.picky_c.specs.{Given.{Given, outside, utf8}, Refusal.{refusal_of}}
use Rattle.picky_c.specs.Calls.{converted, converted_under, converting_is_asked, entries_of, meanings_by, numbered_target, table_refusal}
use Rattle.picky_c.specs.Round.{GivesRound, IfText, IsNumbered, IsOfAnswer, IsUnanswered, IsWithoutAnswers, without_answers}
use Rattle.picky_c.specs.Target.{target_numbered}
use Rattle.picky_c.specs.declared.error.{AnswersError.{AnswersError}, PickyError.{PickyError}}
use Rattle.picky_c.specs.declared.round.Round.{Round}
use Rattle.picky_c.specs.declared.error.AnswersError.TheVariants as answers
use Rattle.picky_c.specs.declared.error.PickyError.TheVariants as errors
use Rattle.picky_c.specs.declared.round.Round.TheVariants as rounds
use Rattle.picky_c.proofs.CallLemmas.{input_fault_is, output_fault_is}
use Rattle.picky_c.proofs.LawLemmas.{conversion_answered, refusal_kept}

-- ---- the suite's fault, by what it left

-- what the device says of the reason that it left
pub record LeavesOnly (entries : List Entry) (missing : Option Missing) : Type 0 where
  pub cause : (reason : Missing) → missing ≡ Some reason → HasCause reason entries
  pub few : (q : Question) → missing ≡ Some (missings.Asked q) → length entries < 4

refused_round : (says : Result (List ℕ) PickyError) (asked : Bool) (entries : List Entry) (reason : AnswersError) (round : Result Round PickyError)
    → asked ≡ true → IsOfAnswer entries reason → round ≡ Err (errors.Answers reason) → GivesRound says asked entries round
refused_round says asked entries reason round is_asked of is =
    subst (GivesRound says asked entries) (sym is) (inr (inl (is_asked, (reason, refl, of))))

fault_round : (says : Result (List ℕ) PickyError) (asked : Bool) (entries : List Entry) (missing : Option Missing)
    (round : Result Round PickyError) → asked ≡ true → (missing ≡ None → ⊥) → LeavesOnly entries missing
    → IsUnanswered errors.NoCipher missing round → GivesRound says asked entries round
fault_round says asked entries None round is_asked some left is = absurd (some refl)
fault_round says asked entries (Some (missings.Asked q)) (Ok (rounds.Text bytes)) is_asked some left is = absurd is
fault_round says asked entries (Some (missings.Asked q)) (Ok (rounds.Question bytes)) is_asked some left is =
    (q, is, record { is_asked = is_asked; lacked = left.cause (missings.Asked q) refl; few = left.few q refl })
fault_round says asked entries (Some (missings.Asked q)) (Err e) is_asked some left (inl want) = inl want
fault_round says asked entries (Some (missings.Asked q)) (Err e) is_asked some left (inr long) =
    inr (inl (is_asked, (answers.TooLong, long, tt)))
fault_round says asked entries (Some missings.WrongLength) round is_asked some left is =
    refused_round says asked entries answers.WrongLength round is_asked (left.cause missings.WrongLength refl) is
fault_round says asked entries (Some missings.Contradiction) round is_asked some left is =
    refused_round says asked entries answers.Contradiction round is_asked (left.cause missings.Contradiction refl) is
fault_round says asked entries (Some missings.Misplaced) round is_asked some left is =
    refused_round says asked entries answers.Misplaced round is_asked (left.cause missings.Misplaced refl) is
fault_round says asked entries (Some missings.TooLong) round is_asked some left is =
    refused_round says asked entries answers.TooLong round is_asked tt is
fault_round says asked entries (Some missings.NoMemory) round is_asked some left is =
    subst (GivesRound says asked entries) (sym is) (inl refl)

-- ---- any refusal

pub refusal_round : (o : Outside) (to : KeyTarget) (from : List ℕ) (e : ConvertError) (rose : Type 0) (entries : List Entry)
    (missing : Option Missing) (round : Result Round PickyError)
    → AnswersKeyText {X = List ℕ} (λ t. t) o to from rose (Err e) → (rose → missing ≡ None → ⊥) → LeavesOnly entries missing
    → IsUnanswered (refusal_of e) missing round
    → GivesRound (map_err refusal_of (conversion o to from)) (converting_asks o to from) entries round
refusal_round o to from e rose entries missing round (inl want) some left is =
    let memory : round ≡ Err errors.NoMemory = subst (λ g. IsUnanswered g missing round) (ap refusal_of want) is in
    subst (GivesRound (map_err refusal_of (conversion o to from)) (converting_asks o to from) entries) (sym memory) (inl refl)
refusal_round o to from e rose entries missing round (inr (inl (inl fault))) some left is =
    fault_round (map_err refusal_of (conversion o to from)) (converting_asks o to from) entries missing round
    (opening_asks o to from fault.1.0) (some fault.1.1) left
    (subst (λ g. IsUnanswered g missing round) (ap refusal_of fault.0 ∙ input_fault_is (form_of from)) is)
refusal_round o to from e rose entries missing round (inr (inl (inr fault))) some left is =
    fault_round (map_err refusal_of (conversion o to from)) (converting_asks o to from) entries missing round
    (sealing_asks o to from fault.1.0) (some fault.1.1) left
    (subst (λ g. IsUnanswered g missing round) (ap refusal_of fault.0 ∙ output_fault_is to) is)
refusal_round o to from e rose entries missing round (inr (inr refused)) some left is =
    let kept : refusal_of e ≡ errors.Refused e = refusal_kept e (conversion_answered o to from e refused) in
    let as_it_is : round ≡ Err (errors.Refused e) = subst (λ g. IsUnanswered g missing round) kept is in
    subst (GivesRound (map_err refusal_of (conversion o to from)) (converting_asks o to from) entries) (sym as_it_is)
    (inr (inr (ap (map_err refusal_of) refused ∙ ap Err kept)))

pub no_text : (round : Result Round PickyError) (P : List ℕ → Type 0) → IfText round (λ bytes. ⊥) → IfText round P
no_text (Ok (rounds.Text bytes)) P none = absurd none
no_text (Ok (rounds.Question bytes)) P none = tt
no_text (Err e) P none = tt

-- ---- without answers

-- no reason is one of answers
abbrev Keeps : {A : Type 0} → Result A PickyError → Type 0
Keeps r = (e : PickyError) → r ≡ Err e → without_answers e ≡ e

next_keeps : {A B : Type 0} (r : Result A PickyError) (next : A → Result B PickyError) → Keeps r → ((x : A) → Keeps (next x))
    → Keeps (and_then r next)
next_keeps (Ok x) next first later = later x
next_keeps (Err e) next first later = λ f is. first f (cc is)

utf8_keeps : (e : PickyError) (bytes : List ℕ) → without_answers e ≡ e → Keeps (utf8 e bytes)
utf8_keeps e bytes own f is = go (is_utf8 bytes) is
  where
    go : (b : Bool) → (if b then Ok bytes else Err e) ≡ Err f → without_answers f ≡ f
    go true same = cc same
    go false same = let one : e ≡ f = cc same in subst (λ g. without_answers g ≡ g) one own

conversion_keeps : (o : Outside) (to : KeyTarget) (from : List ℕ) → Keeps (map_err refusal_of (conversion o to from))
conversion_keeps o to from f is = go (conversion o to from) refl is
  where
    go : (r : Result (List ℕ) ConvertError) → conversion o to from ≡ r → map_err refusal_of r ≡ Err f → without_answers f ≡ f
    go (Ok text) was same = cc same
    go (Err e) was same =
        let one : refusal_of e ≡ f = cc same in
        let kept : refusal_of e ≡ errors.Refused e = refusal_kept e (conversion_answered o to from e was) in
        subst (λ g. without_answers g ≡ g) (sym kept ∙ one) refl

under_keeps : (m : Meanings) (to : KeyTarget) (g : Given) → Keeps (converted_under m to g)
under_keeps m to g =
    next_keeps (utf8 errors.TextNotUtf8 g.text) _ (utf8_keeps errors.TextNotUtf8 g.text refl) (λ text.
    next_keeps (utf8 errors.PassNotUtf8 g.pass_in) _ (utf8_keeps errors.PassNotUtf8 g.pass_in refl) (λ pass_in.
    next_keeps (utf8 errors.PassNotUtf8 g.pass_out) _ (utf8_keeps errors.PassNotUtf8 g.pass_out refl) (λ pass_out.
    conversion_keeps (outside m g) to text)))

next_ok : {A B : Type 0} (r : Result A PickyError) (next : A → Result B PickyError) (x : A) → r ≡ Ok x → and_then r next ≡ next x
next_ok r next x is = rw is refl

empty_table : table_of [] ≡ Ok []
unfolding read_all
empty_table = refl

no_table : (g : Given) → g.answers ≡ [] → table_of g.answers ≡ Ok []
no_table g none = ap table_of none ∙ empty_table

converted_keeps : (m : Meanings) (to : Result KeyTarget PickyError) (g : Given) → IsNumbered to → g.answers ≡ [] → Keeps (converted m to g)
converted_keeps m to g numbered none =
    next_keeps to _ (λ e is. subst (λ x. without_answers x ≡ x) (sym (numbered e is)) refl) (λ target.
    next_keeps (map_err table_refusal (table_of g.answers)) _ (λ e is. cc (sym (ap (map_err table_refusal) (no_table g none)) ∙ is))
    (λ entries. under_keeps (meanings_by m g) target g))

-- a round by no answers, as a call without them
pub without_gives : {X : Type 0} (view : X → List ℕ) (says : Result (List ℕ) PickyError) (asked : Bool) (entries : List Entry)
    (round : Result Round PickyError) (result : Result X PickyError) → Keeps says → GivesRound says asked entries round
    → IsWithoutAnswers round (map_ok view result) → GivesAsked errors.NoMemory errors.NoCipher view result says asked (Unit {0})
without_gives view says asked entries (Ok (rounds.Text bytes)) (Ok x) keeps gives is = gives ∙ sym is
without_gives view says asked entries (Ok (rounds.Text bytes)) (Err e) keeps gives is = cc is
without_gives view says asked entries (Ok (rounds.Question bytes)) (Ok x) keeps gives is = cc is
without_gives view says asked entries (Ok (rounds.Question bytes)) (Err e) keeps gives is =
    let none : e ≡ errors.NoCipher = cc is in inr (inl (none, (gives.2.is_asked, tt)))
without_gives view says asked entries (Err f) (Ok x) keeps gives is = cc is
without_gives view says asked entries (Err f) (Err e) keeps (inl want) is =
    let same : e ≡ without_answers f = cc is in inl (same ∙ ap without_answers want)
without_gives view says asked entries (Err f) (Err e) keeps (inr (inl refused)) is =
    let same : e ≡ without_answers f = cc is in
    inr (inl (same ∙ ap without_answers refused.1.1, (refused.0, tt)))
without_gives view says asked entries (Err f) (Err e) keeps (inr (inr first)) is =
    let same : e ≡ without_answers f = cc is in
    let kept : e ≡ f = same ∙ keeps f first in
    inr (inr (first ∙ ap Err (sym kept)))

pub conversion_gives : {X : Type 0} (view : X → List ℕ) (m : Meanings) (to : Result KeyTarget PickyError) (g : Given)
    (round : Result Round PickyError) (result : Result X PickyError) → IsNumbered to → g.answers ≡ []
    → GivesRound (converted m to g) (converting_is_asked m to g) (entries_of g) round → IsWithoutAnswers round (map_ok view result)
    → GivesAsked errors.NoMemory errors.NoCipher view result (converted m to g) (converting_is_asked m to g) (Unit {0})
conversion_gives view m to g round result numbered none gives is =
    without_gives view (converted m to g) (converting_is_asked m to g) (entries_of g) round result
    (converted_keeps m to g numbered none) gives is

pub seen_as_it_is : (r : Result (List ℕ) PickyError) → map_ok (λ bytes. bytes) r ≡ r
seen_as_it_is (Ok bytes) = refl
seen_as_it_is (Err e) = refl

-- a text that a round comes to is the one of the call
pub without_means : {X : Type 0} (view : X → List ℕ) (round : Result Round PickyError) (result : Result X PickyError)
    (P : List ℕ → Type 0) → IfText round P → IsWithoutAnswers round (map_ok view result) → IfOk result (λ x. P (view x))
without_means view (Ok (rounds.Text bytes)) (Ok x) P means is =
    let same : view x ≡ bytes.items = cc is in subst P (sym same) means
without_means view (Ok (rounds.Question bytes)) (Ok x) P means is = cc is
without_means view (Err f) (Ok x) P means is = cc is
without_means view round (Err e) P means is = tt

-- a number's target is one, or the number names none
pub is_numbered : (number : ℕ) → IsNumbered (numbered_target number)
is_numbered number e is = go (target_numbered number) is
  where
    go : (o : Option KeyTarget) → ok_or o errors.NoSuchTarget ≡ Err e → e ≡ errors.NoSuchTarget
    go None same = cc same
    go (Some to) same = cc same

-- ---- the device behind the conversion

-- where it counted a fault, there is a reason why
pub counted_for_a_reason : (told : Option (List Entry)) (entries : List Entry) (old new : State) (missing : Option Missing)
    → old ≡ fresh entries → IsState told new → missing ≡ new.missing
    → Rose (min old.faults (2 ^ 64 - 1)) (min new.faults (2 ^ 64 - 1)) → missing ≡ None → ⊥
counted_for_a_reason told entries old new missing begins is same rose none =
    let calm : new.faults ≡ 0 = is.calm (sym same ∙ none) in
    let before : old.faults ≡ 0 = ap (λ s. s.faults) begins in
    let after : min new.faults (2 ^ 64 - 1) ≡ 0 = ap (λ n. min n (2 ^ 64 - 1)) calm in
    let first : min old.faults (2 ^ 64 - 1) ≡ 0 = ap (λ n. min n (2 ^ 64 - 1)) before in
    let one : 0 ≡ 1 = sym after ∙ rose ∙ ap count_one first in
    cc one

-- what it left isn't in the table, which has fewer entries than the conversion asks questions
pub leaves_only : (entries : List Entry) (old new : State) (missing : Option Missing) → old ≡ fresh entries
    → IsState (Some entries) new → missing ≡ new.missing → IsAskedAtMost 4 calls_made old new → LeavesOnly entries missing
leaves_only entries old new missing begins is same asked = record {
  cause = λ reason left. subst (HasCause reason) (is.table entries refl) (is.cause reason (sym same ∙ left));
  few = λ q left.
      enough_answers 4 entries q new is (subst (λ s. IsAskedAtMost 4 calls_made s new) begins asked) (sym same ∙ left);
}
