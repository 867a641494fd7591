-- What the bytes of a source come to, status by status.
use Rattle.std.proofs.Common.{◌≡◌, ◌≢◌, ◌↔◌, ◌⊎◌, ◌<◌, ◌≤◌, ◌^◌, ◌++◌, ◌+◌, ℕ, List, [], length, Option, Some, None, IfErr}
use Rattle.std.proofs.Common.{IfOk, Result, Ok, Err, refl, sym, ◌∙◌, ap, arith, inl, inr, subst, Bool, true, false}
use Rattle.std.proofs.Common.{if◌then◌else◌}
use Rattle.std.proofs.{lemmas.Bool.Decides.{nat_tests}, lemmas.Result.{IfErr-at_err}}
use Rattle.std.proofs.lemmas.List.{drop_all, length-append}
use Rattle.std.specs.{Option.{ok_or}, Str.{IsUtf8}}
use Rattle.picky_wire_base.specs.Outcome.{and_then, map_err, map_ok}
use Rattle.picky_input.specs.Extent.{Anywhere, Extent, LeavesAt, PastLimit, ReadsInput, ToEnd, ToFault, Untouched}
use Rattle.picky_input.specs.{Input.{input_limit}, SourceText.{ReadsSourceText, TakesText, source_text_of}}
use Rattle.picky_input.specs.declared.source_text.SourceError.{SourceError}
use Rattle.picky_input.specs.declared.source_text.SourceError.TheVariants as source
use Rattle.picky_input.proofs.TextLaws.{is_source_text, no_text_exactly, some_input, text_err, too_long_exactly}
use Rattle.picky_wire.specs.Count.{Rose}
use Rattle.picky_wire_base.specs.declared.error.SizeError.TheVariants as sizes
use Rattle.picky_wire.specs.OfWire.{IsErrorOfBytes}
use Rattle.picky_keys.specs.{FromWire.{public_key_error}, LineRefusal.{is_short, line_meaning}}
use Rattle.picky_keys.specs.carried.SourceLine.{line_own}
use Rattle.picky_suite.specs.Signs.{SignRelation}
use Rattle.picky_issuing.specs.{Parts.{cut, mark_lf}, Steps.{some_then}}
use Rattle.picky_issuing.proofs.PartsLaws.{cut_both_ways}
use Rattle.picky_ledger.specs.LedgerText.{ledger_in, ledger_text, read, ledger_written}
use Rattle.picky_ledger.specs.Run.{LedgerAsked, Ends, Parts, Stops, asked, of_parts, of_text, parts_in, moment, source_status}
use Rattle.picky_ledger.specs.Run.{text_status}
use Rattle.picky_ledger.specs.{State.{IsLedger, State}, declared.ledger.LedgerTextError.{LedgerTextError}}
use Rattle.picky_ledger.specs.declared.status.LedgerStatus.{LedgerStatus}
use Rattle.picky_ledger.specs.inner.Comes.{AnswersRequests, Comes, extent_at}
use Rattle.picky_ledger.specs.declared.ledger.LedgerTextError.TheVariants as texts
use Rattle.picky_ledger.specs.declared.status.LedgerStatus.TheVariants as statuses
use Rattle.picky_ledger.proofs.AfterLaws.{runs_leave}

-- ---- bytes that ask for nothing

-- the status says why these do
abbrev pub IsReason : (input : List ℕ) → LedgerStatus → Type 0
IsReason input statuses.InputTooLong = input_limit < length input
IsReason input statuses.InputNotUtf8 = (length input ≤ input_limit) × (IsUtf8 input → ⊥)
IsReason input statuses.BadInput = Unit {0}
IsReason input (statuses.BadLedger line) = Unit {0}
IsReason input (statuses.BadIssuer e) = IsErrorOfBytes public_key_error e
IsReason input statuses.FreshTooShort = Unit {0}
IsReason input status = ⊥

ledger_within : (text : List ℕ) (p : Parts) → parts_in text ≡ Some p → length p.ledger ≤ length text
ledger_within text p = go (cut text) refl
  where
    inner : (first : List ℕ × List ℕ) (found : Option (List ℕ × List ℕ))
        → some_then found (λ second. Some (record { ledger = first.0; issuer = second.0; requests = second.1 })) ≡ Some p
        → p.ledger ≡ first.0
    inner first None is = cc is
    inner first (Some second) is =
        let same : (record { ledger = first.0; issuer = second.0; requests = second.1 }) ≡ p = cc is in
        sym (ap (λ (q : Parts). q.ledger) same)

    go : (found : Option (List ℕ × List ℕ)) → cut text ≡ found
        → some_then found (λ first. some_then (cut first.1) (λ second.
        Some (record { ledger = first.0; issuer = second.0; requests = second.1 }))) ≡ Some p → length p.ledger ≤ length text
    go None says is = cc is
    go (Some (a, b)) says is =
        let parted = (cut_both_ways text a b).0 says in
        let same = inner (a, b) (cut b) is in
        omega (arith, ap length parted.whole, ap length same, length-append (a ++ parted.mark) b, length-append a parted.mark)

-- an answer that is made in steps fails for such a reason, where each step does
module _ (P : LedgerStatus → Type 0) where
  named_then : {A B E : Type 0} (name : E → LedgerStatus) (r : Result A E) (next : A → Result B LedgerStatus)
      → ((e : E) → r ≡ Err e → P (name e)) → ((x : A) → r ≡ Ok x → IfErr (next x) P) → IfErr (and_then (map_err name r) next) P
  named_then name (Ok x) next first later = later x refl
  named_then name (Err e) next first later = first e refl

  some_then_fails : {A B : Type 0} (o : Option A) (e : LedgerStatus) (next : A → Result B LedgerStatus) → P e
      → ((x : A) → o ≡ Some x → IfErr (next x) P) → IfErr (and_then (ok_or o e) next) P
  some_then_fails None e next first later = first
  some_then_fails (Some x) e next first later = later x refl

  test_fails : {A : Type 0} (b : Bool) (e : LedgerStatus) (x : A) → P e → IfErr (if b then Err e else Ok x) P
  test_fails true e x is = is
  test_fails false e x is = tt

bad_read : (input text : List ℕ) → length text < 2 ^ 32 → (e : LedgerTextError) → read text ≡ Err e → IsReason input (text_status e)
bad_read input text short e =
    let is : is_short text ≡ true = grind (arith, nat_tests, short) in rw is (go (ledger_in text))
  where
    go : (found : Result State ℕ) → map_err texts.BadLine found ≡ Err e → IsReason input (text_status e)
    go (Ok l) is = cc is
    go (Err line) is = let same : texts.BadLine line ≡ e = cc is in subst (λ x. IsReason input (text_status x)) same tt

unfit_text : (input fresh text : List ℕ) → length text ≤ input_limit → IfErr (of_text fresh text) (IsReason input)
unfit_text input fresh text short =
    some_then_fails (IsReason input) (parts_in text) statuses.BadInput (of_parts fresh) tt (λ p parts.
    named_then (IsReason input) text_status (read p.ledger) _
    (bad_read input p.ledger (omega (arith, short, ledger_within text p parts))) (λ l ledger.
    named_then (IsReason input) statuses.BadIssuer (line_meaning p.issuer) _ (line_own p.issuer) (λ issuer key.
    test_fails (IsReason input) _ statuses.FreshTooShort _ tt)))

-- ---- what a source asks for

pub asked_by_text : (fresh input text : List ℕ) → source_text_of input ≡ Ok text → asked fresh input ≡ of_text fresh text
unfolding asked
asked_by_text fresh input text is = ap (λ t. and_then (map_err source_status t) (of_text fresh)) is

asked_without : (fresh input : List ℕ) (e : SourceError) → source_text_of input ≡ Err e → asked fresh input ≡ Err (source_status e)
unfolding asked
asked_without fresh input e is = ap (λ t. and_then (map_err source_status t) (of_text fresh)) is

text_refused : (bytes : List ℕ) (e : SourceError) → source_text_of bytes ≡ Err e → IsReason bytes (source_status e)
text_refused bytes e is = elim (text_err bytes e is) [
  | inl long ↦ subst (λ x. IsReason bytes (source_status x)) (sym long) ((too_long_exactly bytes).0 (is ∙ ap Err long))
  | inr other ↦ subst (λ x. IsReason bytes (source_status x)) (sym other) ((no_text_exactly bytes).0 (is ∙ ap Err other))
]

asks_none : (fresh input : List ℕ) → IfErr (asked fresh input) (IsReason input)
unfolding asked
asks_none fresh input =
    named_then (IsReason input) source_status (source_text_of input) (of_text fresh) (text_refused input) (λ text says.
    let is = is_source_text input text says in
    unfit_text input fresh text (subst (λ t. length t ≤ input_limit) (sym is.1) is.0.short))

-- so that is why, wherever they do
pub reason_is : (fresh input : List ℕ) (status : LedgerStatus) → asked fresh input ≡ Err status → IsReason input status
reason_is fresh input status failed = IfErr-at_err (IsReason input) failed (asks_none fresh input)

pub refused_as_too_long : (fresh input : List ℕ) → (asked fresh input ≡ Err statuses.InputTooLong) ↔ (input_limit < length input)
refused_as_too_long fresh input = (
  reason_is fresh input statuses.InputTooLong,
  λ long. asked_without fresh input source.InputTooLong ((too_long_exactly input).1 long),
)

pub refused_as_no_text : (fresh input : List ℕ)
    → (asked fresh input ≡ Err statuses.InputNotUtf8) ↔ ((length input ≤ input_limit) × (IsUtf8 input → ⊥))
refused_as_no_text fresh input = (
  reason_is fresh input statuses.InputNotUtf8,
  λ other. asked_without fresh input source.InputNotUtf8 ((no_text_exactly input).1 other),
)

-- ---- why there is no text to write

module _ (signs : SignRelation) (fresh input : List ℕ) (read_rose rose : Type 0) where
  none_stops : (status : LedgerStatus) → asked fresh input ≡ Err status → IsReason input status
      → Stops signs fresh input read_rose rose status
  none_stops statuses.BadInput failed is = failed
  none_stops (statuses.BadLedger line) failed is = failed
  none_stops (statuses.BadIssuer e) failed is = failed
  none_stops statuses.FreshTooShort failed is = failed
  none_stops statuses.InputTooLong failed is = failed
  none_stops statuses.InputNotUtf8 failed is = failed
  none_stops status failed is = absurd is

  -- the text asks for nothing
  pub text_stops : (text : List ℕ) (status : LedgerStatus) → source_text_of input ≡ Ok text
      → (status ≡ statuses.NoMemory) ⊎ (of_text fresh text ≡ Err status) → Stops signs fresh input read_rose rose status
  text_stops text status is (inl want) = subst (Stops signs fresh input read_rose rose) (sym want) tt
  text_stops text status is (inr failed) =
      let says = asked_by_text fresh input text is ∙ failed in none_stops status says (reason_is fresh input status says)

  -- there is no text
  pub source_stops : (e : SourceError) (status : LedgerStatus) → status ≡ source_status e → ReadsSourceText (Err e) input
      → (e ≡ source.ReadFault → read_rose) → Stops signs fresh input read_rose rose status
  source_stops e status is reads count = subst (Stops signs fresh input read_rose rose) (sym is) (go e reads count)
    where
      go : (x : SourceError) → ReadsSourceText (Err x) input → (x ≡ source.ReadFault → read_rose)
          → Stops signs fresh input read_rose rose (source_status x)
      go source.ReadFault reads count = count refl
      go source.NoMemory reads count = tt
      go source.InputTooLong reads count = asked_without fresh input source.InputTooLong reads
      go source.InputNotUtf8 reads count = asked_without fresh input source.InputNotUtf8 reads

  -- what is answered for a text is for its source
  pub text_comes : (result : Result (List ℕ) LedgerStatus) → Comes signs fresh input ⊥ rose result
      → Comes signs fresh input read_rose rose result
  text_comes (Ok text) is = is
  text_comes (Err statuses.ReadFault) is = absurd is
  text_comes (Err status) is = is

-- of a source that doesn't tell its bytes there are some that are refused so
pub some_stop : (signs : SignRelation) (fresh : List ℕ) (read_rose rose : Type 0) (e : SourceError) (status : LedgerStatus)
    → status ≡ source_status e → (e ≡ source.ReadFault → read_rose)
    → (input : List ℕ) × Stops signs fresh input read_rose rose status
some_stop signs fresh read_rose rose e status is count =
    let input = some_input e in (input.0, source_stops signs fresh input.0 read_rose rose e status is input.1 count)

-- a run that has no text to write ends so
module _ (signs : SignRelation) (fresh input : List ℕ) (tells : Type 0) (before after : List ℕ)
    (source_before source_after sink_before sink_after signer_before signer_after : ℕ) where
  pub stops_ends : (status : LedgerStatus)
      → Stops signs fresh input (Rose source_before source_after) (Rose signer_before signer_after) status
      → Ends signs fresh input tells (moment before source_before sink_before signer_before)
      (moment after source_after sink_after signer_after) status
  stops_ends statuses.Done stops = absurd stops
  stops_ends statuses.WriteFault stops = absurd stops
  stops_ends status stops = stops

-- ---- what is answered for what is asked

written_says : (l : State) (text : List ℕ) → ledger_written l ≡ Ok text → (length (ledger_text l) < 2 ^ 32) × (text ≡ ledger_text l)
written_says l text = go (is_short (ledger_text l)) refl
  where
    go : (short : Bool) → is_short (ledger_text l) ≡ short → (if short then Ok (ledger_text l) else Err sizes.TooLong) ≡ Ok text
        → (length (ledger_text l) < 2 ^ 32) × (text ≡ ledger_text l)
    go true is same = (grind (arith, nat_tests, is), sym (cc same))
    go false is same = absurd (cc same)

module _ (signs : SignRelation) (fresh input : List ℕ) (given : LedgerAsked) (rose : Type 0) (new : State) (replies : List ℕ)
    (answers : AnswersRequests signs given.issuer.inner_key given.ledger fresh given.requests rose (Ok replies) new)
    (asks : asked fresh input ≡ Ok given) where
  -- the new ledger's text, the mark's line and the lines of the replies
  pub joined_comes : {A : Type 0} (view : A → List ℕ) (text : List ℕ) (result : Result A LedgerStatus) → IsLedger given.ledger
      → ledger_written new ≡ Ok text → IfOk result (λ out. view out ≡ text ++ (mark_lf ++ replies))
      → IfErr result (λ status. status ≡ statuses.NoMemory) → Comes signs fresh input ⊥ rose (map_ok view result)
  joined_comes view text (Ok out) ledger is joined want =
      let says = written_says new text is in
      record {
        new = new;
        replies = answers.0;
        given = given;
        asks = asks;
        runs = answers.1;
        leaves =
            runs_leave signs given.issuer.inner_key given.ledger new fresh given.requests answers.0 ledger answers.1;
        short = says.0;
        is =
            joined ∙ ap (λ t. t ++ (mark_lf ++ replies)) says.1
            ∙ ap (λ r. ledger_text new ++ (mark_lf ++ r)) answers.2;
      }
  joined_comes view text (Err status) ledger is joined want = subst (Stops signs fresh input ⊥ rose) (sym want) tt

-- ---- what is left of the source

-- where all of it was read, each extent of reading says what is left
all_read : (extent : Extent) (before after : List ℕ) → extent ≢ Untouched → length before ≤ input_limit → after ≡ []
    → LeavesAt extent before after
all_read Untouched before after touched short end = absurd (touched refl)
all_read ToFault before after touched short end = omega (arith, short)
all_read PastLimit before after touched short end = end ∙ sym (drop_all (input_limit + 1) before (omega (arith, short)))
all_read ToEnd before after touched short end = end
all_read Anywhere before after touched short end = tt

touches : {A : Type 0} (result : Result A LedgerStatus) → extent_at result ≢ Untouched
touches (Ok x) is = cc is
touches (Err statuses.ReadFault) is = cc is
touches (Err statuses.InputTooLong) is = cc is
touches (Err statuses.NoMemory) is = cc is
touches (Err status) is = cc is

-- a text was read, whatever is answered for it
pub reads_whole : {I A : Type 0} (tells : I → Type 0) (left : I → List ℕ) (known : I → Option ℕ) (faults : I → ℕ) (text : List ℕ)
    (result : Result A LedgerStatus) (old new : I) → TakesText tells left known faults (Ok text) old new
    → ReadsInput tells left faults (extent_at result) old new
reads_whole tells left known faults text result old new takes = record {
  told = takes.told;
  taken = takes.taken;
  leaves = λ told.
      let is = is_source_text (left old) text (takes.reads told) in
      all_read (extent_at result) (left old) (left new) (touches result) is.0.short (takes.leaves told);
  unread = λ is. absurd (touches result is);
  calm = λ other. takes.calm;
}
