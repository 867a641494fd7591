-- The law on the failure: in which cases it comes.
use Rattle.std.proofs.Common.{◌≡◌, ◌≢◌, ◌≤◌, ◌<◌, ◌^◌, ◌++◌, ◌∙◌, [], ◌∷◌, ℕ, List, length, ap, sym, subst, refl, inl, inr}
use Rattle.std.proofs.Common.{arith, Option, Some, None}
use Rattle.std.specs.Prelude.{◌⊎◌, Bool, true, false, nat_lt, get_or, MatchBool, if◌then◌else◌}
use Rattle.std.specs.Int.{w32, to_be_bytes}
use Rattle.std.specs.List.{flat_map}
use Rattle.std.proofs.lemmas.Bool.{leb-true, le-leb, ltb-false}
use Rattle.std.proofs.lemmas.List.Elements.{All-get_or}
use Rattle.std.proofs.lemmas.Option.{slice_get_within, get_or_from_slice_get}
use Rattle.std.proofs.lemmas.Slice.Eq.{bytes_eq-Decides}
use Rattle.picky_suite.specs.Signs.{SignRelation}
use Rattle.picky_keys.specs.declared.key.SshBasePublicKey.{SshBasePublicKey}
use Rattle.picky_keys.specs.Key.{kind_of}
use Rattle.picky_sshkey_blob.specs.Key.{public_part}
use Rattle.picky_agent_state.specs.declared.identity.Identity.{Identity}
use Rattle.picky_agent_state.specs.Kept.{Kept, Machine, is_locked}
use Rattle.picky_agent_state.specs.Held.{HasKey, HasNone, IsAt}
use Rattle.picky_agent_state.specs.Request.{Request, SignRequest, Identities, Sign, Add, Remove, RemoveAll, Lock, Unlock, Unfit, request_of}
use Rattle.picky_agent_state.specs.Reply.{entry, failure, success, fitted, listing}
use Rattle.picky_agent_state.specs.Signing.{SigningWay, way_for}
use Rattle.picky_agent_state.specs.Rows.{Appends, Fails, Replaces, Succeeds, TakesOut, HasNothing, is_full, most_identities, opens, shown}
use Rattle.picky_agent_state.specs.Step.{Asks, AsksNone, AsksWith, Step, StepOn, Still}
use Rattle.picky_agent_state.specs.Failure.{FailsForCause, IsAgentLocked, IsReplyTooLong, MustFail, SignerFails}
use Rattle.picky_agent_state.proofs.ReplyLemmas.{too_long_fails}

-- ---- what isn't the failure

success_is_no_failure : (reply : List ℕ) → reply ≡ success → reply ≡ failure → ⊥
success_is_no_failure reply one other =
    let same : ◌≡◌ {A = ℕ} 6 5 = cc (one, other) in
    omega (arith, same)

-- a reply of another type is the failure only where it is too long
only_too_long : (first : ℕ) (rest : List ℕ) → (first ≡ 5 → ⊥) → fitted (first ∷ rest) ≡ failure → IsReplyTooLong (first ∷ rest)
only_too_long first rest other fails = go (nat_lt (length (first ∷ rest)) (2 ^ 32)) refl fails
  where
    go : (b : Bool) → nat_lt (length (first ∷ rest)) (2 ^ 32) ≡ b → (if b then first ∷ rest else failure) ≡ failure
        → IsReplyTooLong (first ∷ rest)
    go true is same = absurd (other (cc same))
    go false is same = ltb-false (length (first ∷ rest)) (2 ^ 32) is

-- where an identity has a key, not none has it
pub has_one : (key : SshBasePublicKey) (identities : List Identity) (place : ℕ) → IsAt key identities place → HasNone key identities → ⊥
has_one key identities place at none =
    let inside : place < length identities = slice_get_within identities place at.identity at.stands in
    let is : get_or identities place at.identity ≡ at.identity = get_or_from_slice_get identities place at.identity at.identity at.stands in
    All-get_or (λ identity. HasKey key identity → ⊥) identities place at.identity inside none
    (subst (HasKey key) (sym is) at.has)

-- ---- each row

locked_fails : (locked : Bool) (P Q : Type 0) → MatchBool locked P Q → locked ≡ true → P
locked_fails true P Q row is = row
locked_fails false P Q row is = cc is

-- what fails where the agent is locked, and else succeeds
plain_must : (old next : Kept) (reply : List ℕ) (new : Kept)
    → MatchBool (is_locked old) (Fails old reply new) (Succeeds next reply new) → IsAgentLocked old → Fails old reply new
plain_must old next reply new row locked = locked_fails (is_locked old) (Fails old reply new) (Succeeds next reply new) row locked

plain_only : (locked : Bool) (old next : Kept) (reply : List ℕ) (new : Kept)
    → MatchBool locked (Fails old reply new) (Succeeds next reply new) → reply ≡ failure → locked ≡ true
plain_only true old next reply new row fails = refl
plain_only false old next reply new (succeeds, same) fails = absurd (success_is_no_failure reply succeeds fails)

-- a passphrase
opens_true : (kept : Option (List ℕ)) (pass : List ℕ) → opens kept pass ≡ true → kept ≡ Some pass
opens_true None pass is = cc is
opens_true (Some kept) pass is = ap Some ((bytes_eq-Decides kept pass).0 is)

opens_same : (kept : Option (List ℕ)) (pass : List ℕ) → kept ≡ Some pass → opens kept pass ≡ true
opens_same kept pass same = ap (λ k. opens k pass) same ∙ (bytes_eq-Decides pass pass).1 refl

unlock_must : (b : Bool) (old next : Kept) (pass reply : List ℕ) (new : Kept) → opens old.pass pass ≡ b
    → MatchBool b (Succeeds next reply new) (Fails old reply new) → old.pass ≢ Some pass → Fails old reply new
unlock_must true old next pass reply new is row other = absurd (other (opens_true old.pass pass is))
unlock_must false old next pass reply new is row other = row

unlock_only : (b : Bool) (old next : Kept) (pass reply : List ℕ) (new : Kept) → opens old.pass pass ≡ b
    → MatchBool b (Succeeds next reply new) (Fails old reply new) → reply ≡ failure → old.pass ≢ Some pass
unlock_only true old next pass reply new is (succeeds, kept) fails = absurd (success_is_no_failure reply succeeds fails)
unlock_only false old next pass reply new is row fails = λ same. cc (is, opens_same old.pass pass same)

-- removal
take_must : (b : Bool) (old : Kept) (key : SshBasePublicKey) (reply : List ℕ) (new : Kept)
    → MatchBool b (Fails old reply new) (TakesOut old key reply new ⊎ HasNothing old key reply new)
    → ((b ≡ true) ⊎ HasNone key old.identities) → Fails old reply new
take_must true old key reply new row cause = row
take_must false old key reply new row (inl locked) = cc locked
take_must false old key reply new (inl takes) (inr none) = absurd (has_one key old.identities takes.place takes.is_at none)
take_must false old key reply new (inr nothing) (inr none) = nothing.fails

take_only : (b : Bool) (old : Kept) (key : SshBasePublicKey) (reply : List ℕ) (new : Kept)
    → MatchBool b (Fails old reply new) (TakesOut old key reply new ⊎ HasNothing old key reply new)
    → reply ≡ failure → (b ≡ true) ⊎ HasNone key old.identities
take_only true old key reply new row fails = inl refl
take_only false old key reply new (inl takes) fails = absurd (success_is_no_failure reply takes.succeeds.0 fails)
take_only false old key reply new (inr nothing) fails = inr nothing.none

-- addition
room_must : (b : Bool) (old next : Kept) (reply : List ℕ) (new : Kept)
    → MatchBool b (Fails old reply new) (Succeeds next reply new) → b ≡ true → Fails old reply new
room_must b old next reply new row full = locked_fails b (Fails old reply new) (Succeeds next reply new) row full

add_must : (b : Bool) (old : Kept) (added : Identity) (reply : List ℕ) (new : Kept)
    → MatchBool b (Fails old reply new) (Replaces old added reply new ⊎ Appends old added reply new)
    → ((b ≡ true) ⊎ (HasNone (public_part added.key) old.identities × (most_identities ≤ length old.identities)))
    → Fails old reply new
add_must true old added reply new row cause = row
add_must false old added reply new row (inl locked) = cc locked
add_must false old added reply new (inl replaces) (inr (none, full)) =
    absurd (has_one (public_part added.key) old.identities replaces.place replaces.is_at none)
add_must false old added reply new (inr appends) (inr (none, full)) =
    room_must (is_full old) old (record old { identities = old.identities ++ added ∷ [] }) reply new appends.room
    (le-leb most_identities (length old.identities) full)

add_only : (b : Bool) (old : Kept) (added : Identity) (reply : List ℕ) (new : Kept)
    → MatchBool b (Fails old reply new) (Replaces old added reply new ⊎ Appends old added reply new)
    → reply ≡ failure
    → (b ≡ true) ⊎ (HasNone (public_part added.key) old.identities × (most_identities ≤ length old.identities))
add_only true old added reply new row fails = inl refl
add_only false old added reply new (inl replaces) fails = absurd (success_is_no_failure reply replaces.succeeds.0 fails)
add_only false old added reply new (inr appends) fails =
    let full = plain_only (is_full old) old (record old { identities = old.identities ++ added ∷ [] }) reply new appends.room fails in
    inr (appends.is_new, leb-true most_identities (length old.identities) full)

-- a signature
asks_must : (signs : SignRelation) (old : Machine) (asked : SignRequest) (way : Option SigningWay) (reply : List ℕ) (new : Machine)
    → Asks signs old asked way reply new → way ≡ None → Still old Fails reply new
asks_must signs old asked (Some way) reply new asks none = cc none
asks_must signs old asked None reply new asks none = asks

sign_must : (signs : SignRelation) (b : Bool) (old : Machine) (asked : SignRequest) (reply : List ℕ) (new : Machine)
    → MatchBool b (Still old Fails reply new) (AsksWith signs old asked reply new ⊎ AsksNone old asked reply new)
    → ((b ≡ true) ⊎ (HasNone asked.key old.kept.identities ⊎ (way_for (kind_of asked.key) asked.flags ≡ None)))
    → Still old Fails reply new
sign_must signs true old asked reply new row cause = row
sign_must signs false old asked reply new row (inl locked) = cc locked
sign_must signs false old asked reply new (inl asks) (inr (inl none)) =
    absurd (has_one asked.key old.kept.identities asks.place asks.is_at none)
sign_must signs false old asked reply new (inl asks) (inr (inr none)) =
    asks_must signs old asked (way_for (kind_of asked.key) asked.flags) reply new asks.asks none
sign_must signs false old asked reply new (inr none) (inr cause) = none.fails

asks_only : (signs : SignRelation) (old : Machine) (asked : SignRequest) (way : Option SigningWay) (reply : List ℕ) (new : Machine)
    → way_for (kind_of asked.key) asked.flags ≡ way → Asks signs old asked way reply new → reply ≡ failure
    → (way ≡ None) ⊎ SignerFails signs old (Sign asked) new
asks_only signs old asked None reply new is asks fails = inl refl
asks_only signs old asked (Some way) reply new is (inl signed) fails = inr (inr (record {
  way = way;
  is_way = is;
  signature = signed.signature;
  good = signed.good;
  long = only_too_long 14 _ (λ other. omega (arith, other)) (sym signed.replies ∙ fails);
}))
asks_only signs old asked (Some way) reply new is (inr unsigned) fails = inr (inl unsigned.rose)

sign_only : (signs : SignRelation) (b : Bool) (old : Machine) (asked : SignRequest) (reply : List ℕ) (new : Machine)
    → MatchBool b (Still old Fails reply new) (AsksWith signs old asked reply new ⊎ AsksNone old asked reply new)
    → reply ≡ failure
    → ((b ≡ true) ⊎ (HasNone asked.key old.kept.identities ⊎ (way_for (kind_of asked.key) asked.flags ≡ None)))
    ⊎ SignerFails signs old (Sign asked) new
sign_only signs true old asked reply new row fails = inl (inl refl)
sign_only signs false old asked reply new (inl asks) fails =
    go (asks_only signs old asked (way_for (kind_of asked.key) asked.flags) reply new refl asks.asks fails)
  where
    go : (way_for (kind_of asked.key) asked.flags ≡ None) ⊎ SignerFails signs old (Sign asked) new
        → ((false ≡ true) ⊎ (HasNone asked.key old.kept.identities ⊎ (way_for (kind_of asked.key) asked.flags ≡ None)))
        ⊎ SignerFails signs old (Sign asked) new
    go (inl way) = inl (inr (inr way))
    go (inr signer) = inr signer
sign_only signs false old asked reply new (inr none) fails = inl (inr (inl none.none))

-- ---- by the request

both_as_were : (old : Machine) (reply : List ℕ) (new : Machine) → Still old Fails reply new
    → Fails old.kept reply new.kept × (new.faults ≡ old.faults)
both_as_were old reply new still = (still.row_holds, still.calm)

must_fail : (signs : SignRelation) (old : Machine) (request : Request) (reply : List ℕ) (new : Machine)
    → StepOn signs old request reply new → MustFail old.kept request → Fails old.kept reply new.kept × (new.faults ≡ old.faults)
must_fail signs old Identities reply new step long =
    ((step.row_holds.0 ∙ too_long_fails (listing (shown old.kept)) long, step.row_holds.1), step.calm)
must_fail signs old (Sign asked) reply new step cause =
    both_as_were old reply new (sign_must signs (is_locked old.kept) old asked reply new step cause)
must_fail signs old (Add added) reply new step cause =
    (add_must (is_locked old.kept) old.kept added reply new.kept step.row_holds cause, step.calm)
must_fail signs old (Remove key) reply new step cause =
    (take_must (is_locked old.kept) old.kept key reply new.kept step.row_holds cause, step.calm)
must_fail signs old RemoveAll reply new step cause =
    (plain_must old.kept (record old.kept { identities = [] }) reply new.kept step.row_holds cause, step.calm)
must_fail signs old (Lock pass) reply new step cause =
    (plain_must old.kept (record old.kept { pass = Some pass }) reply new.kept step.row_holds cause, step.calm)
must_fail signs old (Unlock pass) reply new step cause = (
  unlock_must (opens old.kept.pass pass) old.kept (record old.kept { pass = None }) pass reply new.kept refl step.row_holds cause,
  step.calm,
)
must_fail signs old Unfit reply new step cause = (step.row_holds, step.calm)

only_fails : (signs : SignRelation) (old : Machine) (request : Request) (reply : List ℕ) (new : Machine)
    → StepOn signs old request reply new → reply ≡ failure → MustFail old.kept request ⊎ SignerFails signs old request new
only_fails signs old Identities reply new step fails =
    let rest : List ℕ = to_be_bytes w32 (length (shown old.kept)) ++ flat_map entry (shown old.kept) in
    inl (only_too_long 12 rest (λ other. omega (arith, other)) (sym step.row_holds.0 ∙ fails))
only_fails signs old (Sign asked) reply new step fails = sign_only signs (is_locked old.kept) old asked reply new step fails
only_fails signs old (Add added) reply new step fails =
    inl (add_only (is_locked old.kept) old.kept added reply new.kept step.row_holds fails)
only_fails signs old (Remove key) reply new step fails =
    inl (take_only (is_locked old.kept) old.kept key reply new.kept step.row_holds fails)
only_fails signs old RemoveAll reply new step fails =
    inl (plain_only (is_locked old.kept) old.kept (record old.kept { identities = [] }) reply new.kept step.row_holds fails)
only_fails signs old (Lock pass) reply new step fails =
    inl (plain_only (is_locked old.kept) old.kept (record old.kept { pass = Some pass }) reply new.kept step.row_holds fails)
only_fails signs old (Unlock pass) reply new step fails =
    inl (unlock_only (opens old.kept.pass pass) old.kept (record old.kept { pass = None }) pass reply new.kept refl step.row_holds fails)
only_fails signs old Unfit reply new step fails = inl tt

-- a step has the failure for a cause alone, and for each
pub fails_for_cause : (signs : SignRelation) (old : Machine) (message reply : List ℕ) (new : Machine)
    → Step signs old message reply new → FailsForCause signs old message reply new
unfolding Step
fails_for_cause signs old message reply new step = record {
  must = must_fail signs old (request_of message) reply new step;
  only = only_fails signs old (request_of message) reply new step;
}
