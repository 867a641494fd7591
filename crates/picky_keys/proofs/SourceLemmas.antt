-- Lemmas on a line in front of a source's bytes.
use Rattle.std.proofs.Common.{◌≡◌, ◌≢◌, ◌≤◌, ◌<◌, ◌^◌, ◌-◌, ◌+◌, ◌++◌, ◌∷◌, ℕ, List, [], length, drop, suc, true, false}
use Rattle.std.proofs.Common.{refl, sym, ap, ◌∙◌, subst, arith, inl, inr, Result, Ok, Err}
use Rattle.std.specs.Prelude.{Option, IsSome, IfOk, IfErr}
use Rattle.std.specs.List.{before_first, after_first, position_or_len}
use Rattle.std.proofs.lemmas.Bool.{lt-ltb, le-ltb, cases_lt}
use Rattle.std.proofs.lemmas.List.{append-nil, append_assoc, drop_at, length-drop, length-take, length-append}
use Rattle.picky_wire_base.specs.Outcome.{and_then, map_ok}
use Rattle.picky_text.specs.Words.{ends_line, line_in_front}
use Rattle.picky_text.proofs.ListLaws.{cut_at_first, uncut, all_append}
use Rattle.picky_wire.specs.declared.error.WireError.{WireError}
use Rattle.picky_wire.specs.declared.error.WireError.TheVariants as wire
use Rattle.picky_wire.specs.Count.{Rose}
use Rattle.picky_wire_base.specs.Gives.{Gives}
use Rattle.picky_wire.proofs.ThenLemmas.{judged_takes, judged_cause, read_judged}
use Rattle.picky_wire.specs.Takes.{Takes, EndsIn, Refuses, HasCause, causes_of}
use Rattle.picky_keys.specs.LineRefusal.{is_short}
use Rattle.picky_keys.proofs.LineLaws.{chosen}
use Rattle.picky_keys.specs.SourceLine.{after_line, line_used, read_line, HasLine, Stays}

-- one more such byte
pub stays_push : (bytes : List ℕ) (b : ℕ) → Stays bytes → ends_line b ≡ false → Stays (bytes ++ b ∷ [])
stays_push bytes b stays other = all_append (λ c. ends_line c ≡ false) bytes (b ∷ []) stays (other, tt)

-- ---- what is read of the bytes before and after

-- what was answered for the line, and what was taken
pub record IsLine {E : Type 0} (of : WireError → E) (says : Result (List ℕ) E) (before after : List ℕ) : Type 0 where
  pub read : read_line of before ≡ map_ok (λ line. (line, after)) says
  pub rest : after ≡ after_line before
  pub front : EndsIn before after

short_line : {E : Type 0} (of : WireError → E) (line before after : List ℕ) → line_in_front before ≡ line → length line < 2 ^ 32
    → after_first ends_line before ≡ after → EndsIn before after → IsLine of (Ok line) before after
unfolding read_line after_line
short_line of line before after is short rest front =
    let passes : is_short (line_in_front before) ≡ true =
    ap is_short is ∙ lt-ltb (length line) (2 ^ 32) short in
    record {
      read = rw (passes, is, rest) refl;
      rest = rw passes (sym rest);
      front = front;
    }

-- the line ends at the first byte that ends one
pub line_ends : {E : Type 0} (of : WireError → E) (line mid before after : List ℕ) (b : ℕ) → Stays line
    → ends_line b ≡ true → length line < 2 ^ 32 → before ≡ line ++ mid → mid ≡ b ∷ after → IsLine of (Ok line) before after
line_ends of line mid before after b stays ends short is more =
    let cut = cut_at_first ends_line line b after stays ends in
    let all = is ∙ ap (λ r. line ++ r) more in
    short_line of line before after (ap (before_first ends_line) all ∙ cut.before) short
    (ap (after_first ends_line) all ∙ cut.after)
    (record { taken = line ++ b ∷ []; are = all ∙ sym (append_assoc line (b ∷ []) after) })

-- where none ends it, it is all that is left
pub line_is_all : {E : Type 0} (of : WireError → E) (line mid before after : List ℕ) → Stays line → length line < 2 ^ 32
    → before ≡ line ++ mid → (mid ≡ []) × (after ≡ []) → IsLine of (Ok line) before after
line_is_all of line mid before after stays short is none =
    let all = is ∙ ap (λ r. line ++ r) none.0 ∙ append-nil line in
    let uncut_line = uncut ends_line line stays in
    short_line of line before after (ap (before_first ends_line) all ∙ uncut_line.0) short
    (ap (after_first ends_line) all ∙ uncut_line.1 ∙ sym none.1)
    (record { taken = line; are = all ∙ sym (append-nil line) ∙ ap (λ r. line ++ r) (sym none.1) })

-- a line has at least the bytes that don't end it
line_goes_on : (line rest : List ℕ) → Stays line → length line ≤ length (before_first ends_line (line ++ rest))
line_goes_on [] rest stays = omega arith
line_goes_on (b ∷ line) rest stays =
    let n : ℕ = position_or_len ends_line (line ++ rest) in
    let more = line_goes_on line rest stays.1 in
    let next : 1 + n ≡ suc n = omega arith in
    rw (stays.0, next) (omega (arith, more))

goes_on : (line rest before : List ℕ) → Stays line → before ≡ line ++ rest → length line ≤ length (line_in_front before)
goes_on line rest before stays is =
    subst (λ b. length line ≤ length (before_first ends_line b)) (sym is) (line_goes_on line rest stays)

-- 2^32 bytes of which none ends a line are too many
pub line_is_too_long : {E : Type 0} (of : WireError → E) (line rest before : List ℕ) → Stays line → length line ≡ 2 ^ 32
    → before ≡ line ++ rest → IsLine of (Err (of wire.TooLong)) before rest
unfolding read_line after_line
line_is_too_long of line rest before stays long is =
    let more = goes_on line rest before stays is in
    let fails : is_short (line_in_front before) ≡ false =
    le-ltb (length (line_in_front before)) (2 ^ 32) (omega (arith, more, long)) in
    record {
      read = rw fails refl;
      rest = rw fails (sym (ap (drop (2 ^ 32)) is ∙ drop_at line rest (2 ^ 32) long));
      front = record { taken = line; are = is };
    }

-- so are they by themselves
pub line_refused : {E : Type 0} (of : WireError → E) (line : List ℕ) → Stays line → length line ≡ 2 ^ 32
    → Refuses (read_line of) (of wire.TooLong)
line_refused of line stays long =
    (line, (line_is_too_long of line [] line stays long (sym (append-nil line))).read)

-- what is left is what the line doesn't ask for
after_len : (bytes : List ℕ) → length (after_line bytes) ≡ length bytes - line_used bytes
unfolding after_line line_used
after_len bytes =
    let front = line_in_front bytes in
    let n : ℕ = position_or_len ends_line bytes in
    elim (cases_lt (length front) (2 ^ 32)) [
      | inl less ↦ rw (lt-ltb (length front) (2 ^ 32) less) (omega (arith, length-take n bytes, length-drop (n + 1) bytes))
      | inr other ↦ rw (le-ltb (length front) (2 ^ 32) other) (length-drop (2 ^ 32) bytes)
    ]

-- those bytes are taken, whatever follows
line_is_used : (line rest before : List ℕ) → Stays line → length line ≤ 2 ^ 32 → before ≡ line ++ rest
    → length (after_line before) ≤ length rest
unfolding after_line
line_is_used line rest before stays short is =
    let front = line_in_front before in
    let more = goes_on line rest before stays is in
    let whole = ap length is ∙ length-append line rest in
    elim (cases_lt (length front) (2 ^ 32)) [
      | inl less ↦ rw (lt-ltb (length front) (2 ^ 32) less) (omega (
        arith,
        more,
        whole,
        length-take (position_or_len ends_line before) before,
        length-drop (position_or_len ends_line before + 1) before,
      ))
      | inr other ↦ rw (le-ltb (length front) (2 ^ 32) other) (omega (arith, whole, short, length-drop (2 ^ 32) before))
    ]

-- ---- what a call promises that takes a line

ends_further : (bytes middle rest : List ℕ) → EndsIn bytes middle → EndsIn middle rest → EndsIn bytes rest
ends_further bytes middle rest first second = record {
  taken = first.taken ++ second.taken;
  are = first.are ∙ ap (λ r. first.taken ++ r) second.are ∙ sym (append_assoc first.taken second.taken rest);
}

-- errors of the wire stay apart in the layer
abbrev pub StayApart : {E : Type 0} → (WireError → E) → Type 0
StayApart of = (d e : WireError) → of d ≡ of e → d ≡ e

pub line_takes : {S E : Type 0} (tells : S → Type 0) (left : S → List ℕ) (known : S → Option ℕ) (faults : S → ℕ)
    (of : WireError → E) (line : List ℕ) (old new : S) → (tells old → IsLine of (Ok line) (left old) (left new))
    → (tells old → tells new) → (IsSome (known old) → IsSome (known new)) → faults new ≡ faults old
    → Takes tells left known faults (causes_of of) (read_line of) line_used (Ok line) old new
line_takes tells left known faults of line old new is told knows calm = record {
  answers = λ t. (is t).read;
  within = λ t. omega (arith, ap length (is t).rest, after_len (left old));
  whole = λ t. ap length (is t).rest ∙ after_len (left old);
  cut = λ t other. cc other;
  front = λ t bytes ends. ends_further bytes (left old) (left new) ends (is t).front;
  told = told;
  knows = knows;
  fault = λ other. cc other;
  calm = calm;
}

pub too_long_takes : {S E : Type 0} (tells : S → Type 0) (left : S → List ℕ) (known : S → Option ℕ) (faults : S → ℕ)
    (of : WireError → E) (old new : S) → StayApart of
    → (tells old → IsLine of (Err (of wire.TooLong)) (left old) (left new)) → (tells old → tells new)
    → (IsSome (known old) → IsSome (known new)) → faults new ≡ faults old
    → Takes {A = List ℕ} tells left known faults (causes_of of) (read_line of) line_used (Err (of wire.TooLong)) old new
too_long_takes tells left known faults of old new apart is told knows calm = record {
  answers = λ t other kept. (is t).read;
  within = λ t. omega (arith, ap length (is t).rest, after_len (left old));
  whole = λ t other kept no_end. ap length (is t).rest ∙ after_len (left old);
  cut = λ t same. cc (apart wire.TooLong wire.ReadFault (cc same));
  front = λ t bytes ends. ends_further bytes (left old) (left new) ends (is t).front;
  told = told;
  knows = knows;
  fault = λ same. cc (apart wire.TooLong wire.ReadFault (cc same));
  calm = λ other. calm;
}

-- the bytes that were taken when the call stopped
pub record IsPart (before after : List ℕ) : Type 0 where
  pub line : List ℕ
  pub stays : Stays line
  pub short : length line ≤ 2 ^ 32
  pub are : before ≡ line ++ after

part_within : (before after : List ℕ) → IsPart before after → length before ≤ line_used before + length after
part_within before after part =
    omega (arith, line_is_used part.line after before part.stays part.short part.are, after_len before)

-- a line asks for more than a part of it
part_cut : (before after : List ℕ) (part : IsPart before after) → length part.line < 2 ^ 32
    → length before < line_used before + length after
unfolding line_used
part_cut before after part less =
    let front = line_in_front before in
    let more = goes_on part.line after before part.stays part.are in
    let whole = ap length part.are ∙ length-append part.line after in
    elim (cases_lt (length front) (2 ^ 32)) [
      | inl short ↦ rw (lt-ltb (length front) (2 ^ 32) short) (omega (arith, more, whole))
      | inr other ↦ rw (le-ltb (length front) (2 ^ 32) other) (omega (arith, less, whole))
    ]

part_front : (bytes before after : List ℕ) → EndsIn bytes before → IsPart before after → EndsIn bytes after
part_front bytes before after ends part =
    ends_further bytes before after ends (record { taken = part.line; are = part.are })

-- a count that rose after it stood still
pub rose_since : (a b c : ℕ) → b ≡ a → Rose b c → Rose a c
rose_since a b c same rose = subst (λ n. Rose n c) same rose

pub fault_takes : {S E : Type 0} (tells : S → Type 0) (left : S → List ℕ) (known : S → Option ℕ) (faults : S → ℕ)
    (of : WireError → E) (old new : S)
    → (tells old → (part : IsPart (left old) (left new)) × (length part.line < 2 ^ 32))
    → (tells old → tells new) → (IsSome (known old) → IsSome (known new)) → Rose (faults old) (faults new)
    → Takes {A = List ℕ} tells left known faults (causes_of of) (read_line of) line_used (Err (of wire.ReadFault)) old new
fault_takes tells left known faults of old new part told knows rose = record {
  answers = λ t other. absurd (other refl);
  within = λ t. part_within (left old) (left new) (part t).0;
  whole = λ t other. absurd (other refl);
  cut = λ t is. part_cut (left old) (left new) (part t).0 (part t).1;
  front = λ t bytes ends. part_front bytes (left old) (left new) ends (part t).0;
  told = told;
  knows = knows;
  fault = λ is. rose;
  calm = λ other. absurd (other refl);
}

pub want_takes : {S E : Type 0} (tells : S → Type 0) (left : S → List ℕ) (known : S → Option ℕ) (faults : S → ℕ)
    (of : WireError → E) (old new : S) → StayApart of → (tells old → IsPart (left old) (left new)) → (tells old → tells new)
    → (IsSome (known old) → IsSome (known new)) → faults new ≡ faults old
    → Takes {A = List ℕ} tells left known faults (causes_of of) (read_line of) line_used (Err (of wire.NoMemory)) old new
want_takes tells left known faults of old new apart part told knows calm = record {
  answers = λ t other kept. absurd (kept refl);
  within = λ t. part_within (left old) (left new) (part t);
  whole = λ t other kept. absurd (kept refl);
  cut = λ t same. cc (apart wire.NoMemory wire.ReadFault (cc same));
  front = λ t bytes ends. part_front bytes (left old) (left new) ends (part t);
  told = told;
  knows = knows;
  fault = λ same. cc (apart wire.NoMemory wire.ReadFault (cc same));
  calm = λ other. calm;
}

-- ---- a line that was taken is judged

-- what stays in a line is read as the line
line_reads_itself : {E : Type 0} (of : WireError → E) (line : List ℕ) → Stays line → length line < 2 ^ 32
    → read_line of line ≡ Ok (line, [])
line_reads_itself of line stays short = (line_is_all of line [] line [] stays short (sym (append-nil line)) (refl, refl)).read

left_is_after : {E : Type 0} (of : WireError → E) (before line after : List ℕ) → read_line of before ≡ Ok (line, after)
    → after ≡ after_line before
unfolding read_line
left_is_after of before line after is =
    let passed = chosen (is_short (line_in_front before)) _ (of wire.TooLong) (line, after) is in
    let found : List ℕ × List ℕ = (line_in_front before, after_line before) in
    let same : found ≡ (line, after) = cc passed.1 in
    sym (ap (λ f. f.1) same)

-- the value that the line in front means, and what is left after it
abbrev pub read_meant : {E A : Type 0} → (WireError → E) → (List ℕ → Result A E) → List ℕ → Result (A × List ℕ) E
read_meant of meaning = read_judged (read_line of) meaning

-- the value, or the line's refusal, is answered for the bytes
pub line_judged : {S E A : Type 0} (tells : S → Type 0) (left : S → List ℕ) (known : S → Option ℕ) (faults : S → ℕ)
    (of : WireError → E) (meaning : List ℕ → Result A E) (line slice : List ℕ) (r : Result A E) (old new : S)
    → Takes tells left known faults (causes_of of) (read_line of) line_used (Ok line) old new
    → slice ≡ line → Gives (of wire.NoMemory) (λ v. v) r (meaning slice) → IfErr r (λ e. e ≢ of wire.ReadFault)
    → Takes tells left known faults (causes_of of) (read_meant of meaning) line_used r old new
line_judged tells left known faults of meaning line slice r old new takes same gives no_fault =
    judged_takes tells left known faults (causes_of of) (read_line of) line_used meaning line r old new
    takes (subst (λ l. Gives (of wire.NoMemory) (λ v. v) r (meaning l)) same gives) no_fault

-- and its refusal is one that some bytes have
pub line_cause : {E A : Type 0} (of : WireError → E) (meaning : List ℕ → Result A E) (line slice : List ℕ) (r : Result A E)
    (fault : Type 0) → Stays line × (length line < 2 ^ 32) → slice ≡ line
    → Gives (of wire.NoMemory) (λ v. v) r (meaning slice)
    → IfErr r (HasCause (causes_of of) (read_meant of meaning) fault)
line_cause of meaning line slice r fault is same gives =
    judged_cause (causes_of of) (read_line of) meaning line r fault line []
    (line_reads_itself of line is.0 is.1) (subst (λ l. Gives (of wire.NoMemory) (λ v. v) r (meaning l)) same gives)

-- a value is what some line means
pub line_meant : {E A : Type 0} (of : WireError → E) (meaning : List ℕ → Result A E) (line : List ℕ) (r : Result A E)
    → Gives (of wire.NoMemory) (λ v. v) r (meaning line) → IfOk r (HasLine meaning)
line_meant of meaning line (Ok v) gives = (line, gives)
line_meant of meaning line (Err e) gives = tt

-- the line was taken
pub line_left : {E A : Type 0} (of : WireError → E) (before line after : List ℕ) (r : Result A E)
    → read_line of before ≡ Ok (line, after)
    → IfErr r (λ e. e ≢ of wire.ReadFault → e ≢ of wire.NoMemory → after ≡ after_line before)
line_left of before line after (Ok v) is = tt
line_left of before line after (Err e) is = λ other kept. left_is_after of before line after is

-- no line was taken
pub no_line_takes : {S E A : Type 0} (tells : S → Type 0) (left : S → List ℕ) (known : S → Option ℕ) (faults : S → ℕ)
    (of : WireError → E) (meaning : List ℕ → Result A E) (e : E) (old new : S)
    → Takes {A = List ℕ} tells left known faults (causes_of of) (read_line of) line_used (Err e) old new
    → Takes {A = A} tells left known faults (causes_of of) (read_meant of meaning) line_used (Err e) old new
no_line_takes tells left known faults of meaning e old new takes = record {
  answers = λ t other kept. ap (λ found. and_then found (λ line.
      and_then (meaning line.0) (λ v. Ok (v, line.1)))) (takes.answers t other kept);
  within = takes.within;
  whole = takes.whole;
  cut = λ t is. let same : e ≡ of wire.ReadFault = cc is in takes.cut t (ap (λ x. Err x) same);
  front = takes.front;
  told = takes.told;
  knows = takes.knows;
  fault = λ is. let same : e ≡ of wire.ReadFault = cc is in takes.fault (ap (λ x. Err x) same);
  calm = takes.calm;
}

pub no_line_cause : {E A : Type 0} (of : WireError → E) (meaning : List ℕ → Result A E) (e : E) (fault : Type 0)
    → HasCause (causes_of of) (read_line of) fault e → HasCause (causes_of of) (read_meant of meaning) fault e
no_line_cause of meaning e fault (inl counted) = inl counted
no_line_cause of meaning e fault (inr (inl want)) = inr (inl want)
no_line_cause of meaning e fault (inr (inr (bytes, refused))) = inr (inr (
  bytes,
  ap (λ found. and_then found (λ line. and_then (meaning line.0) (λ v. Ok (v, line.1)))) refused,
))
