-- Lemmas on the stop that stands for a field's error.
use Rattle.std.proofs.Common.{◌≡◌, ◌∙◌, ap, sym, inl, inr, refl, ℕ, List, Result, Ok, Err}
use Rattle.std.specs.Prelude.{Option}
use Rattle.picky_wire_base.specs.Flaw.{Flaw, Short, NotUtf8, Big}
use Rattle.picky_wire_base.specs.Grammar.{Grammar}
use Rattle.picky_wire_base.specs.Combine.{tag}
use Rattle.picky_wire_base.specs.Outcome.{map_err}
use Rattle.picky_wire.specs.declared.error.WireError.{WireError}
use Rattle.picky_wire.specs.declared.error.WireError.TheVariants as errors
use Rattle.picky_wire.specs.Flaws.{wire_error, wire_causes, flaw_stop, wire_stop, stop_causes, StopHasCause, StopIsShort, StopsUnread}
use Rattle.picky_wire.specs.Takes.{HasCause, StopsShort}
use Rattle.picky_wire.specs.Unread.{LeavesUnread, Unread}

same_flaw : (f : Flaw) → wire_stop (wire_error f) ≡ flaw_stop f
same_flaw Short = refl
same_flaw NotUtf8 = refl
same_flaw Big = refl

stop_of_refusal : {A : Type 0} (e : WireError) (r : Result (A × List ℕ) Flaw) → map_err wire_error r ≡ Err e
    → map_err flaw_stop r ≡ Err (wire_stop e)
stop_of_refusal e (Ok x) is = cc is
stop_of_refusal e (Err f) is =
    let same : wire_error f ≡ e = cc is in
    ap Err (sym (same_flaw f) ∙ ap wire_stop same)

-- its cause is the error's
pub stop_cause : {A : Type 0} (G : Grammar Flaw A) (e : WireError) (fault : Type 0)
    → HasCause wire_causes (tag wire_error G).read fault e → StopHasCause G fault (wire_stop e)
unfolding StopHasCause
stop_cause G e fault (inl (is, counted)) = inl (ap wire_stop is, counted)
stop_cause G e fault (inr (inl is)) = inr (inl (ap wire_stop is))
stop_cause G e fault (inr (inr (bytes, refused))) = inr (inr (bytes, stop_of_refusal e (G.read bytes) refused))

pub short_stop : (e : WireError) (fault : Type 0) → StopsShort wire_causes fault e → StopIsShort fault (wire_stop e)
unfolding StopIsShort
short_stop e fault (inl (is, counted)) = inl (ap wire_stop is, counted)
short_stop e fault (inr is) = inr (ap wire_stop is)

-- so is what it leaves unread
left_unread : (A : Type 0) (e : WireError) (before after : List ℕ)
    → LeavesUnread {A = A} wire_causes (Err e) before after
    → LeavesUnread {A = A} stop_causes (Err (wire_stop e)) before after
left_unread A e before after (inl (is, rest)) =
    let same : e ≡ errors.UnexpectedEnd = cc is in
    inl (ap Err (ap wire_stop same), rest)
left_unread A e before after (inr (is, cut)) =
    let same : e ≡ errors.ReadFault = cc is in
    inr (ap Err (ap wire_stop same), cut)

pub stop_unread : {S : Type 0} (A : Type 0) (tells : S → Type 0) (left : S → List ℕ) (known : S → Option ℕ) (e : WireError)
    (old new : S) → Unread {A = A} tells left known wire_causes (Err e) old new
    → StopsUnread {A = A} tells left known (Err (wire_stop e)) old new
unfolding StopsUnread
stop_unread A tells left known e old new promised = λ t short. left_unread A e (left old) (left new) (promised t short)

-- a string that was read is no short one
no_value : {A : Type 0} (v : A) (before after : List ℕ) → LeavesUnread {A = A} wire_causes (Ok v) before after → ⊥
no_value v before after (inl (is, rest)) = cc is
no_value v before after (inr (is, cut)) = cc is

pub value_is_whole : {S A : Type 0} (tells : S → Type 0) (left : S → List ℕ) (known : S → Option ℕ) (v : A) (old new : S)
    → Unread tells left known wire_causes (Ok v) old new → StopsUnread tells left known (Ok v) old new
unfolding StopsUnread
value_is_whole tells left known v old new promised =
    λ t short. absurd (no_value v (left old) (left new) (promised t short))

pub ruleset field_stops = (stop_cause, short_stop, stop_unread, value_is_whole)
