-- Lemmas on a step: what the rows of the code say of it.
use Rattle.std.proofs.Common.{◌≡◌, ◌⊎◌, ◌∙◌, ℕ, Bool, false, List, get_or, Result, Ok, Err, Option, Some, None, IfOk, MatchBool}
use Rattle.std.proofs.Common.{ap, inl, refl, subst, sym}
use Rattle.std.proofs.lemmas.Option.{get_or_from_slice_get}
use Rattle.picky_suite.specs.Signs.{SignRelation}
use Rattle.picky_keys.specs.declared.key.SshBasePublicKey.{SshBasePublicKey}
use Rattle.picky_keys.specs.Key.{kind_of}
use Rattle.picky_sshkey_blob.specs.Key.{public_part}
use Rattle.picky_agent_state.specs.declared.identity.Identity.{Identity}
use Rattle.picky_agent_state.specs.Kept.{Kept, Machine, is_locked, machine}
use Rattle.picky_agent_state.specs.Held.{IsAt}
use Rattle.picky_agent_state.specs.Request.{Request, SignRequest, request_of, sign_request}
use Rattle.picky_agent_state.specs.Reply.{failure}
use Rattle.picky_agent_state.specs.Signing.{SigningWay, way_for}
use Rattle.picky_agent_state.specs.Rows.{Fails}
use Rattle.picky_agent_state.specs.Step.{Asks, AsksNone, AsksToSign, AsksWith, CanSign, Step, StepOn, Still}

-- ---- a signature

-- the identity that stands where the key was found has the key
held_has : (key : SshBasePublicKey) (identities : List Identity) (place : ℕ) (held : Identity) → IsAt key identities place
    → held ≡ get_or identities place held → public_part held.key ≡ key
held_has key identities place held at is =
    ap (λ (i : Identity). public_part i.key) (is ∙ get_or_from_slice_get identities place at.identity held at.stands) ∙ at.has

-- what asks the signer with that identity is the row
pub asks_with : {E : Type 0} (signs : SignRelation) (old : Machine) (asked : SignRequest) (new : Machine) (r : Result (List ℕ) E)
    (place : ℕ) (held : Identity) → is_locked old.kept ≡ false → IsAt asked.key old.kept.identities place
    → held ≡ get_or old.kept.identities place held
    → IfOk r (λ reply. Asks signs old (sign_request (public_part held.key) asked.message asked.flags)
    (way_for (kind_of (public_part held.key)) asked.flags) reply new)
    → IfOk r (λ reply. AsksToSign signs old asked reply new)
asks_with signs old asked new (Ok reply) place held unlocked at is asks =
    subst
    (λ (b : Bool). MatchBool b (Still old Fails reply new) (AsksWith signs old asked reply new ⊎ AsksNone old asked reply new))
    (sym unlocked)
    (inl (record {
      place = place;
      is_at = at;
      asks = subst
          (λ (k : SshBasePublicKey). Asks signs old (sign_request k asked.message asked.flags) (way_for (kind_of k) asked.flags) reply new)
          (held_has asked.key old.kept.identities place held at is) asks;
    }))
asks_with signs old asked new (Err e) place held unlocked at is asks = tt

-- where the agent can't sign, it is not for want of an identity
pub no_way : (kept : Kept) (asked : SignRequest) (place : ℕ) (held : Identity) → is_locked kept ≡ false
    → IsAt asked.key kept.identities place → held ≡ get_or kept.identities place held → (CanSign kept asked → ⊥)
    → way_for (kind_of (public_part held.key)) asked.flags ≡ None
no_way kept asked place held unlocked at is never =
    ap (λ (k : SshBasePublicKey). way_for (kind_of k) asked.flags) (held_has asked.key kept.identities place held at is)
    ∙ go (way_for (kind_of asked.key) asked.flags) refl
  where
    go : (way : Option SigningWay) → way_for (kind_of asked.key) asked.flags ≡ way → way_for (kind_of asked.key) asked.flags ≡ None
    go None is_way = is_way
    go (Some way) is_way =
        absurd (never (record { unlocked = unlocked; place = place; is_at = at; way = way; is_way = is_way }))

-- ---- a step

-- the failure leaves all as it was
pub fails : {E : Type 0} (kept : Kept) (r : Result (List ℕ) E) → IfOk r (λ reply. reply ≡ failure)
    → IfOk r (λ reply. Fails kept reply kept)
fails kept (Ok reply) is = (is, refl)
fails kept (Err e) is = tt

-- what asks no signer leaves the number of faults
pub stays : {E : Type 0} (old new : Kept) (faults : ℕ) (row : Kept → List ℕ → Kept → Type 0) (r : Result (List ℕ) E)
    → IfOk r (λ reply. row old reply new) → IfOk r (λ reply. Still (machine old faults) row reply (machine new faults))
stays old new faults row (Ok reply) here = record { calm = refl; row_holds = here }
stays old new faults row (Err e) here = tt

-- the row of the message's request is its step
pub steps : {E : Type 0} (signs : SignRelation) (old new : Machine) (request : Request) (message : List ℕ) (r : Result (List ℕ) E)
    → request ≡ request_of message → IfOk r (λ reply. StepOn signs old request reply new)
    → IfOk r (λ reply. Step signs old message reply new)
unfolding Step
steps signs old new request message (Ok reply) is row = subst (λ (q : Request). StepOn signs old q reply new) is row
steps signs old new request message (Err e) is row = tt
