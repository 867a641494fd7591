-- A step by a signature that was handed in.
use Rattle.std.proofs.Common.{◌≡◌, ◌⊎◌, ◌<◌, ◌∙◌, ℕ, Bool, true, false, List, [], ◌∷◌, length, MatchBool, inl, inr, refl, sym, ap, subst, arith}
use Rattle.std.specs.Prelude.{Option, None, Some}
use Rattle.picky_suite.specs.Signs.{SignRelation, SignsAsHanded}
use Rattle.picky_keys.specs.Key.{kind_of, public_key_of}
use Rattle.picky_agent_state.specs.Kept.{Kept, Machine, is_locked, machine}
use Rattle.picky_agent_state.specs.declared.question.Question.{Question}
use Rattle.picky_agent_state.specs.Question.{IsQuestion}
use Rattle.picky_agent_state.specs.Reply.{failure, fitted, signed_reply}
use Rattle.picky_agent_state.specs.Request.{Request, Identities, Sign, Add, Remove, RemoveAll, Lock, Unlock, Unfit, SignRequest, request_of}
use Rattle.picky_agent_state.specs.Rows.{Fails}
use Rattle.picky_agent_state.specs.Signing.{SigningWay, way_for}
use Rattle.picky_agent_state.specs.Step.{Asks, AsksNone, AsksWith, CanSign, Step, StepOn, Still}
use Rattle.picky_agent_state.proofs.FailureLaws.{has_one}
use Rattle.picky_agent_bytes.specs.Call.{HandedStep, IsGood, handed}

-- the signature that was handed in is some, and that one
handed_is : (signature s : List ℕ) → (handed signature).signature ≡ Some s → (0 < length signature) × (signature ≡ s)
handed_is [] s is = let none : ◌≡◌ {A = Option (List ℕ)} None (Some s) = is in cc none
handed_is (b ∷ bytes) s is = let one : Some (b ∷ bytes) ≡ Some s = is in (omega arith, cc one)

asks_good : (signs : SignRelation) (kept : Kept) (signature : List ℕ) (asked : SignRequest) (way : Option SigningWay) (reply : List ℕ)
    (new : Machine)
    → ((w : SigningWay) → way ≡ Some w → 0 < length signature → signs (public_key_of asked.key) w.0 asked.message signature)
    → Asks (SignsAsHanded (handed signature)) (machine kept 0) asked way reply new → Asks signs (machine kept 0) asked way reply new
asks_good signs kept signature asked (Some way) reply new good (inl signed) =
    let is = handed_is signature signed.signature signed.good in
    inl (record {
      signature = signed.signature;
      good = subst (λ (s : List ℕ). signs (public_key_of asked.key) way.0 asked.message s) is.1 (good way refl is.0);
      replies = signed.replies;
      unchanged = signed.unchanged;
    })
asks_good signs kept signature asked (Some way) reply new good (inr unsigned) = inr unsigned
asks_good signs kept signature asked None reply new good fails = fails

unlocked_good : (signs : SignRelation) (kept : Kept) (signature : List ℕ) (asked : SignRequest) (reply : List ℕ) (new : Machine)
    → is_locked kept ≡ false
    → ((can : CanSign kept asked) → 0 < length signature → signs (public_key_of asked.key) can.way.0 asked.message signature)
    → AsksWith (SignsAsHanded (handed signature)) (machine kept 0) asked reply new ⊎ AsksNone (machine kept 0) asked reply new
    → AsksWith signs (machine kept 0) asked reply new ⊎ AsksNone (machine kept 0) asked reply new
unlocked_good signs kept signature asked reply new unlocked good (inl asks) = inl (record {
  place = asks.place;
  is_at = asks.is_at;
  asks = asks_good signs kept signature asked (way_for (kind_of asked.key) asked.flags) reply new
      (λ w is some. good (record { unlocked = unlocked; place = asks.place; is_at = asks.is_at; way = w; is_way = is }) some) asks.asks;
})
unlocked_good signs kept signature asked reply new unlocked good (inr none) = inr none

either_way : (b : Bool) (P Q R : Type 0) → (b ≡ false → Q → R) → MatchBool b P Q → MatchBool b P R
either_way true P Q R next here = here
either_way false P Q R next here = next refl here

good_on : (signs : SignRelation) (kept : Kept) (signature : List ℕ) (request : Request) (reply : List ℕ) (new : Machine)
    → ((asked : SignRequest) → request ≡ Sign asked → (can : CanSign kept asked) → 0 < length signature
    → signs (public_key_of asked.key) can.way.0 asked.message signature)
    → StepOn (SignsAsHanded (handed signature)) (machine kept 0) request reply new → StepOn signs (machine kept 0) request reply new
good_on signs kept signature Identities reply new good step = step
good_on signs kept signature (Sign asked) reply new good step =
    either_way (is_locked kept) _ _ _ (λ is asks. unlocked_good signs kept signature asked reply new is (good asked refl) asks) step
good_on signs kept signature (Add added) reply new good step = step
good_on signs kept signature (Remove key) reply new good step = step
good_on signs kept signature RemoveAll reply new good step = step
good_on signs kept signature (Lock pass) reply new good step = step
good_on signs kept signature (Unlock pass) reply new good step = step
good_on signs kept signature Unfit reply new good step = step

-- where the signature is good, the step is one of each machine
pub handed_is_step : (signs : SignRelation) (kept : Kept) (message signature reply : List ℕ) (new : Machine)
    → IsGood signs kept message signature → HandedStep signature kept message reply new → Step signs (machine kept 0) message reply new
unfolding Step
handed_is_step signs kept message signature reply new good step =
    good_on signs kept signature (request_of message) reply new (λ asked is can some. good asked is can some) step

-- ---- the device failed

asks_failed : (kept : Kept) (asked : SignRequest) (way : Option SigningWay) (reply : List ℕ) (new : Machine)
    → Asks (SignsAsHanded (handed [])) (machine kept 0) asked way reply new → reply ≡ failure
asks_failed kept asked (Some way) reply new (inl signed) =
    let none : ◌≡◌ {A = Option (List ℕ)} None (Some signed.signature) = signed.good in cc none
asks_failed kept asked (Some way) reply new (inr unsigned) = unsigned.replies
asks_failed kept asked None reply new fails = fails.row_holds.0

unlocked_failed : (kept : Kept) (asked : SignRequest) (reply : List ℕ) (new : Machine)
    → AsksWith (SignsAsHanded (handed [])) (machine kept 0) asked reply new ⊎ AsksNone (machine kept 0) asked reply new → reply ≡ failure
unlocked_failed kept asked reply new (inl asks) = asks_failed kept asked (way_for (kind_of asked.key) asked.flags) reply new asks.asks
unlocked_failed kept asked reply new (inr none) = none.fails.row_holds.0

sign_failed : (b : Bool) (kept : Kept) (asked : SignRequest) (reply : List ℕ) (new : Machine)
    → MatchBool b (Still (machine kept 0) Fails reply new)
    (AsksWith (SignsAsHanded (handed [])) (machine kept 0) asked reply new ⊎ AsksNone (machine kept 0) asked reply new)
    → reply ≡ failure
sign_failed true kept asked reply new still = still.row_holds.0
sign_failed false kept asked reply new asks = unlocked_failed kept asked reply new asks

pub no_signature_fails : (kept : Kept) (asked : SignRequest) (message reply : List ℕ) (new : Machine)
    → request_of message ≡ Sign asked → HandedStep [] kept message reply new → reply ≡ failure
unfolding Step
no_signature_fails kept asked message reply new is step =
    sign_failed (is_locked kept) kept asked reply new
    (subst (λ (r : Request). StepOn (SignsAsHanded (handed [])) (machine kept 0) r reply new) is step)

-- ---- the signature stands in the reply

asks_signed : (kept : Kept) (signature : List ℕ) (asked : SignRequest) (way : SigningWay) (found : Option SigningWay) (reply : List ℕ)
    (new : Machine) → found ≡ Some way → new.faults ≡ 0
    → Asks (SignsAsHanded (handed signature)) (machine kept 0) asked found reply new → reply ≡ fitted (signed_reply way.1 signature)
asks_signed kept signature asked way (Some w) reply new is calm (inl signed) =
    let one : w ≡ way = cc is in
    signed.replies ∙ ap (λ (s : List ℕ). fitted (signed_reply w.1 s)) (sym (handed_is signature signed.signature signed.good).1)
    ∙ ap (λ (v : SigningWay). fitted (signed_reply v.1 signature)) one
asks_signed kept signature asked way (Some w) reply new is calm (inr unsigned) = absurd (omega (arith, calm, unsigned.rose))
asks_signed kept signature asked way None reply new is calm fails = cc is

unlocked_signed : (kept : Kept) (signature : List ℕ) (asked : SignRequest) (question : Question) (reply : List ℕ) (new : Machine)
    → IsQuestion kept asked question → new.faults ≡ 0
    → AsksWith (SignsAsHanded (handed signature)) (machine kept 0) asked reply new ⊎ AsksNone (machine kept 0) asked reply new
    → reply ≡ fitted (signed_reply question.format signature)
unlocked_signed kept signature asked question reply new is calm (inl asks) =
    asks_signed kept signature asked (question.algorithm, question.format) (way_for (kind_of asked.key) asked.flags) reply new
    is.is_way calm asks.asks
unlocked_signed kept signature asked question reply new is calm (inr none) =
    absurd (has_one asked.key kept.identities question.place is.is_at none.none)

sign_signed : (b : Bool) (kept : Kept) (signature : List ℕ) (asked : SignRequest) (question : Question) (reply : List ℕ) (new : Machine)
    → b ≡ false → IsQuestion kept asked question → new.faults ≡ 0
    → MatchBool b (Still (machine kept 0) Fails reply new)
    (AsksWith (SignsAsHanded (handed signature)) (machine kept 0) asked reply new ⊎ AsksNone (machine kept 0) asked reply new)
    → reply ≡ fitted (signed_reply question.format signature)
sign_signed true kept signature asked question reply new unlocked is calm still = cc unlocked
sign_signed false kept signature asked question reply new unlocked is calm asks =
    unlocked_signed kept signature asked question reply new is calm asks

pub signature_is_replied : (kept : Kept) (asked : SignRequest) (question : Question) (message signature reply : List ℕ) (new : Machine)
    → request_of message ≡ Sign asked → IsQuestion kept asked question → new.faults ≡ 0
    → HandedStep signature kept message reply new → reply ≡ fitted (signed_reply question.format signature)
unfolding Step
signature_is_replied kept asked question message signature reply new request is calm step =
    sign_signed (is_locked kept) kept signature asked question reply new is.unlocked is calm
    (subst (λ (r : Request). StepOn (SignsAsHanded (handed signature)) (machine kept 0) r reply new) request step)
