-- Two steps on one message: what is kept then is the same, and so is the reply where nothing is signed.
use Rattle.std.proofs.Common.{◌≡◌, ◌⊎◌, ◌<◌, ◌∙◌, ℕ, Bool, true, false, List, length, take, MatchBool, inl, inr, refl, sym, ap, subst, arith}
use Rattle.std.specs.Prelude.{Option, None, Some, get_or, remove, slice_set}
use Rattle.std.proofs.lemmas.Bool.{cases_lt}
use Rattle.std.proofs.lemmas.List.{get_or-take, length-take-le}
use Rattle.std.proofs.lemmas.List.Elements.{All-get_or}
use Rattle.std.proofs.lemmas.Option.{slice_get_within, get_or_from_slice_get}
use Rattle.picky_suite.specs.Signs.{SignRelation}
use Rattle.picky_keys.specs.declared.key.SshBasePublicKey.{SshBasePublicKey}
use Rattle.picky_keys.specs.Key.{kind_of}
use Rattle.picky_sshkey_blob.specs.Key.{public_part}
use Rattle.picky_agent_state.specs.declared.identity.Identity.{Identity}
use Rattle.picky_agent_state.specs.Held.{HasKey, IsAt}
use Rattle.picky_agent_state.specs.Kept.{Kept, Machine, is_locked, machine}
use Rattle.picky_agent_state.specs.Reply.{failure}
use Rattle.picky_agent_state.specs.Request.{Request, Identities, Sign, Add, Remove, RemoveAll, Lock, Unlock, Unfit, SignRequest, request_of}
use Rattle.picky_agent_state.specs.Rows.{Appends, Fails, HasNothing, Replaces, Succeeds, TakesOut, is_full, opens}
use Rattle.picky_agent_state.specs.Signing.{SigningWay, way_for}
use Rattle.picky_agent_state.specs.Step.{Asks, AsksNone, AsksSigner, AsksToSign, AsksWith, CanSign, Step, StepOn, Still}
use Rattle.picky_agent_state.proofs.FailureLaws.{has_one}

-- ---- one key stands first at one place

not_before : (key : SshBasePublicKey) (identities : List Identity) (p q : ℕ) → IsAt key identities p → IsAt key identities q → p < q → ⊥
not_before key identities p q at_p at_q less =
    let inside : p < length identities = slice_get_within identities p at_p.identity at_p.stands in
    let later : q < length identities = slice_get_within identities q at_q.identity at_q.stands in
    let is : get_or (take q identities) p at_p.identity ≡ at_p.identity =
    get_or-take q identities p at_p.identity less ∙ get_or_from_slice_get identities p at_p.identity at_p.identity at_p.stands in
    let taken : p < length (take q identities) = omega (arith, less, length-take-le q identities (omega (arith, later))) in
    All-get_or (λ identity. HasKey key identity → ⊥) (take q identities) p at_p.identity taken at_q.first
    (subst (HasKey key) (sym is) at_p.has)

one_place : (key : SshBasePublicKey) (identities : List Identity) (p q : ℕ) → IsAt key identities p → IsAt key identities q → p ≡ q
one_place key identities p q at_p at_q = elim (cases_lt p q) [
  | inl less ↦ absurd (not_before key identities p q at_p at_q less)
  | inr more ↦ elim (cases_lt q p) [
    | inl less ↦ absurd (not_before key identities q p at_q at_p less)
    | inr same ↦ omega (arith, more, same)
  ]
]

-- ---- rows

abbrev pub Alike : (r s : List ℕ) → (k l : Kept) → Type 0
Alike r s k l = (r ≡ s) × (k ≡ l)

-- two rows that one test decides
decided : (b : Bool) (P Q P' Q' R : Type 0) → (P → P' → R) → (Q → Q' → R) → MatchBool b P Q → MatchBool b P' Q' → R
decided true P Q P' Q' R first second p p' = first p p'
decided false P Q P' Q' R first second q q' = second q q'

fails_alike : (old : Kept) (r s : List ℕ) (k l : Kept) → Fails old r k → Fails old s l → Alike r s k l
fails_alike old r s k l (a, b) (c, d) = (a ∙ sym c, b ∙ sym d)

succeeds_alike : (next : Kept) (r s : List ℕ) (k l : Kept) → Succeeds next r k → Succeeds next s l → Alike r s k l
succeeds_alike next r s k l (a, b) (c, d) = (a ∙ sym c, b ∙ sym d)

plain_alike : (b : Bool) (old next : Kept) (r s : List ℕ) (k l : Kept) → MatchBool b (Fails old r k) (Succeeds next r k)
    → MatchBool b (Fails old s l) (Succeeds next s l) → Alike r s k l
plain_alike b old next r s k l =
    decided b (Fails old r k) (Succeeds next r k) (Fails old s l) (Succeeds next s l) (Alike r s k l) (fails_alike old r s k l)
    (succeeds_alike next r s k l)

added_alike : (old : Kept) (added : Identity) (r s : List ℕ) (k l : Kept) → Replaces old added r k ⊎ Appends old added r k
    → Replaces old added s l ⊎ Appends old added s l → Alike r s k l
added_alike old added r s k l (inl a) (inl b) =
    let same = one_place (public_part added.key) old.identities a.place b.place a.is_at b.is_at in (
      a.succeeds.0 ∙ sym b.succeeds.0,
      a.succeeds.1 ∙ ap (λ (p : ℕ). record old { identities = slice_set old.identities p added }) same ∙ sym b.succeeds.1,
    )
added_alike old added r s k l (inl a) (inr b) = absurd (has_one (public_part added.key) old.identities a.place a.is_at b.is_new)
added_alike old added r s k l (inr a) (inl b) = absurd (has_one (public_part added.key) old.identities b.place b.is_at a.is_new)
added_alike old added r s k l (inr a) (inr b) = plain_alike (is_full old) old _ r s k l a.room b.room

removed_alike : (old : Kept) (key : SshBasePublicKey) (r s : List ℕ) (k l : Kept) → TakesOut old key r k ⊎ HasNothing old key r k
    → TakesOut old key s l ⊎ HasNothing old key s l → Alike r s k l
removed_alike old key r s k l (inl a) (inl b) =
    let same = one_place key old.identities a.place b.place a.is_at b.is_at in (
      a.succeeds.0 ∙ sym b.succeeds.0,
      a.succeeds.1 ∙ ap (λ (p : ℕ). record old { identities = remove old.identities p }) same ∙ sym b.succeeds.1,
    )
removed_alike old key r s k l (inl a) (inr b) = absurd (has_one key old.identities a.place a.is_at b.none)
removed_alike old key r s k l (inr a) (inl b) = absurd (has_one key old.identities b.place b.is_at a.none)
removed_alike old key r s k l (inr a) (inr b) = fails_alike old r s k l a.fails b.fails

-- ---- a signature is asked for

asks_keeps : (signs : SignRelation) (old : Kept) (faults : ℕ) (asked : SignRequest) (way : Option SigningWay) (reply : List ℕ)
    (new : Machine) → Asks signs (machine old faults) asked way reply new → new.kept ≡ old
asks_keeps signs old faults asked (Some way) reply new (inl signed) = ap (λ (m : Machine). m.kept) signed.unchanged
asks_keeps signs old faults asked (Some way) reply new (inr unsigned) = unsigned.kept
asks_keeps signs old faults asked None reply new fails = fails.row_holds.1

unlocked_keeps : (signs : SignRelation) (old : Kept) (faults : ℕ) (asked : SignRequest) (reply : List ℕ) (new : Machine)
    → AsksWith signs (machine old faults) asked reply new ⊎ AsksNone (machine old faults) asked reply new → new.kept ≡ old
unlocked_keeps signs old faults asked reply new (inl asks) =
    asks_keeps signs old faults asked (way_for (kind_of asked.key) asked.flags) reply new asks.asks
unlocked_keeps signs old faults asked reply new (inr none) = none.fails.row_holds.1

either : (b : Bool) (P Q R : Type 0) → (P → R) → ((b ≡ false) → Q → R) → MatchBool b P Q → R
either true P Q R first second p = first p
either false P Q R first second q = second refl q

sign_keeps : (signs : SignRelation) (old : Kept) (faults : ℕ) (asked : SignRequest) (reply : List ℕ) (new : Machine)
    → AsksToSign signs (machine old faults) asked reply new → new.kept ≡ old
sign_keeps signs old faults asked reply new =
    either (is_locked old) (Still (machine old faults) Fails reply new)
    (AsksWith signs (machine old faults) asked reply new ⊎ AsksNone (machine old faults) asked reply new) (new.kept ≡ old)
    (λ still. still.row_holds.1) (λ _ unlocked. unlocked_keeps signs old faults asked reply new unlocked)

-- no identity can sign, so the reply is the failure
unlocked_fails : (signs : SignRelation) (old : Kept) (faults : ℕ) (asked : SignRequest) (reply : List ℕ) (new : Machine)
    → is_locked old ≡ false → (CanSign old asked → ⊥)
    → AsksWith signs (machine old faults) asked reply new ⊎ AsksNone (machine old faults) asked reply new → reply ≡ failure
unlocked_fails signs old faults asked reply new unlocked never (inl asks) =
    go (way_for (kind_of asked.key) asked.flags) refl asks.asks
  where
    go : (way : Option SigningWay) → way_for (kind_of asked.key) asked.flags ≡ way
        → Asks signs (machine old faults) asked way reply new → reply ≡ failure
    go (Some way) is asks' =
        absurd (never (record { unlocked = unlocked; place = asks.place; is_at = asks.is_at; way = way; is_way = is }))
    go None is fails = fails.row_holds.0
unlocked_fails signs old faults asked reply new unlocked never (inr none) = none.fails.row_holds.0

sign_fails : (signs : SignRelation) (old : Kept) (faults : ℕ) (asked : SignRequest) (reply : List ℕ) (new : Machine)
    → (CanSign old asked → ⊥) → AsksToSign signs (machine old faults) asked reply new → reply ≡ failure
sign_fails signs old faults asked reply new never =
    either (is_locked old) (Still (machine old faults) Fails reply new)
    (AsksWith signs (machine old faults) asked reply new ⊎ AsksNone (machine old faults) asked reply new) (reply ≡ failure)
    (λ still. still.row_holds.0) (λ is unlocked. unlocked_fails signs old faults asked reply new is never unlocked)

-- ---- a step

still_alike : (old : Kept) (f g : ℕ) (row : Kept → List ℕ → Kept → Type 0) (r s : List ℕ) (new other : Machine)
    → ((k l : Kept) → row old r k → row old s l → Alike r s k l)
    → Still (machine old f) row r new → Still (machine old g) row s other → Alike r s new.kept other.kept
still_alike old f g row r s new other alike a b = alike new.kept other.kept a.row_holds b.row_holds

abbrev IsSign : Request → Type 0
IsSign (Sign asked) = Unit {0}
IsSign request = ⊥

-- what isn't signed
plain_steps : (signs more : SignRelation) (old : Kept) (f g : ℕ) (request : Request) (r s : List ℕ) (new other : Machine)
    → (IsSign request → ⊥) → StepOn signs (machine old f) request r new → StepOn more (machine old g) request s other
    → Alike r s new.kept other.kept
plain_steps signs more old f g Identities r s new other not a b =
    (a.row_holds.0 ∙ sym b.row_holds.0, a.row_holds.1 ∙ sym b.row_holds.1)
plain_steps signs more old f g (Sign asked) r s new other not a b = absurd (not tt)
plain_steps signs more old f g (Add added) r s new other not a b =
    decided (is_locked old) _ _ _ _ (Alike r s new.kept other.kept) (fails_alike old r s new.kept other.kept)
    (added_alike old added r s new.kept other.kept) a.row_holds b.row_holds
plain_steps signs more old f g (Remove key) r s new other not a b =
    decided (is_locked old) _ _ _ _ (Alike r s new.kept other.kept) (fails_alike old r s new.kept other.kept)
    (removed_alike old key r s new.kept other.kept) a.row_holds b.row_holds
plain_steps signs more old f g RemoveAll r s new other not a b =
    plain_alike (is_locked old) old _ r s new.kept other.kept a.row_holds b.row_holds
plain_steps signs more old f g (Lock pass) r s new other not a b =
    plain_alike (is_locked old) old _ r s new.kept other.kept a.row_holds b.row_holds
plain_steps signs more old f g (Unlock pass) r s new other not a b =
    decided (opens old.pass pass) _ _ _ _ (Alike r s new.kept other.kept)
    (succeeds_alike _ r s new.kept other.kept) (fails_alike old r s new.kept other.kept) a.row_holds b.row_holds
plain_steps signs more old f g Unfit r s new other not a b = fails_alike old r s new.kept other.kept a.row_holds b.row_holds

kept_on : (signs more : SignRelation) (old : Kept) (f g : ℕ) (request : Request) (r s : List ℕ) (new other : Machine)
    → StepOn signs (machine old f) request r new → StepOn more (machine old g) request s other → new.kept ≡ other.kept
kept_on signs more old f g (Sign asked) r s new other a b =
    sign_keeps signs old f asked r new a ∙ sym (sign_keeps more old g asked s other b)
kept_on signs more old f g Identities r s new other a b = (plain_steps signs more old f g Identities r s new other (λ no. no) a b).1
kept_on signs more old f g (Add added) r s new other a b = (plain_steps signs more old f g (Add added) r s new other (λ no. no) a b).1
kept_on signs more old f g (Remove key) r s new other a b = (plain_steps signs more old f g (Remove key) r s new other (λ no. no) a b).1
kept_on signs more old f g RemoveAll r s new other a b = (plain_steps signs more old f g RemoveAll r s new other (λ no. no) a b).1
kept_on signs more old f g (Lock pass) r s new other a b = (plain_steps signs more old f g (Lock pass) r s new other (λ no. no) a b).1
kept_on signs more old f g (Unlock pass) r s new other a b = (plain_steps signs more old f g (Unlock pass) r s new other (λ no. no) a b).1
kept_on signs more old f g Unfit r s new other a b = (plain_steps signs more old f g Unfit r s new other (λ no. no) a b).1

reply_on : (signs more : SignRelation) (old : Kept) (f g : ℕ) (request : Request) (r s : List ℕ) (new other : Machine)
    → (AsksSigner old request → ⊥)
    → StepOn signs (machine old f) request r new → StepOn more (machine old g) request s other → r ≡ s
reply_on signs more old f g (Sign asked) r s new other never a b =
    sign_fails signs old f asked r new never a ∙ sym (sign_fails more old g asked s other never b)
reply_on signs more old f g Identities r s new other never a b = (plain_steps signs more old f g Identities r s new other (λ no. no) a b).0
reply_on signs more old f g (Add added) r s new other never a b = (plain_steps signs more old f g (Add added) r s new other (λ no. no) a b).0
reply_on signs more old f g (Remove key) r s new other never a b = (plain_steps signs more old f g (Remove key) r s new other (λ no. no) a b).0
reply_on signs more old f g RemoveAll r s new other never a b = (plain_steps signs more old f g RemoveAll r s new other (λ no. no) a b).0
reply_on signs more old f g (Lock pass) r s new other never a b = (plain_steps signs more old f g (Lock pass) r s new other (λ no. no) a b).0
reply_on signs more old f g (Unlock pass) r s new other never a b = (plain_steps signs more old f g (Unlock pass) r s new other (λ no. no) a b).0
reply_on signs more old f g Unfit r s new other never a b = (plain_steps signs more old f g Unfit r s new other (λ no. no) a b).0

-- what is kept behind a message is the same
pub kept_alike : (signs more : SignRelation) (old : Kept) (f g : ℕ) (message r s : List ℕ) (new other : Machine)
    → Step signs (machine old f) message r new → Step more (machine old g) message s other → new.kept ≡ other.kept
unfolding Step
kept_alike signs more old f g message r s new other a b = kept_on signs more old f g (request_of message) r s new other a b

-- and so is the reply, where nothing is signed
pub reply_alike : (signs more : SignRelation) (old : Kept) (f g : ℕ) (message r s : List ℕ) (new other : Machine)
    → (AsksSigner old (request_of message) → ⊥)
    → Step signs (machine old f) message r new → Step more (machine old g) message s other → r ≡ s
unfolding Step
reply_alike signs more old f g message r s new other never a b =
    reply_on signs more old f g (request_of message) r s new other never a b
