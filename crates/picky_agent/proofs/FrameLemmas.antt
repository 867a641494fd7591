-- Lemmas on messages that are taken from a source.
use Rattle.std.proofs.Common.{◌≡◌, ◌≢◌, ◌≤◌, ◌<◌, ◌+◌, ◌⊎◌, ◌++◌, ◌∙◌, ℕ, List, [], ◌∷◌, length, sym, ap, subst, refl, arith}
use Rattle.std.proofs.Common.{append_assoc, inl, inr, Result, Ok, Err, Some}
use Rattle.std.specs.Prelude.{slice_index}
use Rattle.std.specs.Int.{w32, from_be_bytes, to_be_bytes}
use Rattle.std.proofs.lemmas.List.{length-append}
use Rattle.std.proofs.lemmas.Nat.{be_bytes_4}
use Rattle.picky_wire_base.specs.Flaw.{Flaw}
use Rattle.picky_wire_base.specs.Numbers.{IsBytes}
use Rattle.picky_wire_base.specs.Outcome.{map_err}
use Rattle.picky_wire_base.specs.Wire.{byte_array, string_of}
use Rattle.picky_wire_base.proofs.Numbers.{bytes_in_front}
use Rattle.picky_wire.specs.Count.{Rose}
use Rattle.picky_wire.specs.Takes.{Calm, EndsIn}
use Rattle.picky_wire.specs.Flaws.{wire_error}
use Rattle.picky_wire.specs.declared.error.WireError.{WireError}
use Rattle.picky_wire.specs.declared.error.WireError.TheVariants as wire
use Rattle.picky_wire.proofs.ByteArrayLemmas.{piece_taken_by}
use Rattle.picky_wire_base.proofs.ReadLemmas.{byte_array-refused}
use Rattle.picky_agent.specs.declared.frame.FrameError.{FrameError}
use Rattle.picky_agent.specs.declared.frame.FrameError.TheVariants as errors
use Rattle.picky_agent.specs.Frame.{Fronts, IsCutFrame, TakesMessage, TakesPart, Walks, message_limit}
use Rattle.picky_agent.specs.inner.Frame.{Bodies, Lens, TakesLess, first_missing, frame_error}

-- ---- one read of so many bytes

-- what was read stood in front
pub read_stands : (n : ℕ) (before v after : List ℕ) → map_err wire_error ((byte_array n).read before) ≡ Ok (v, after)
    → before ≡ v ++ after
read_stands n before v after is = piece_taken_by n [] before before v after refl is

-- what is refused by the bytes is too few
too_few : (n : ℕ) (bytes : List ℕ) (e : WireError) → map_err wire_error ((byte_array n).read bytes) ≡ Err e → length bytes < n
too_few n bytes e refused = go ((byte_array n).read bytes) refl refused
  where
    go : (r : Result (List ℕ × List ℕ) Flaw) → (byte_array n).read bytes ≡ r → map_err wire_error r ≡ Err e → length bytes < n
    go (Ok x) is other = cc other
    go (Err f) is why = (byte_array-refused n bytes f is).1

-- all of what is left is left
pub ends_here : (bytes : List ℕ) → EndsIn bytes bytes
ends_here bytes = record { taken = []; are = refl }

-- a read that failed took fewer
pub takes_less : (n : ℕ) (before after : List ℕ) → EndsIn before after → length before < n + length after → TakesLess n before after
takes_less n before after ends few = record {
  taken = ends.taken;
  are = ends.are;
  less = omega (arith, ap length ends.are, length-append ends.taken after, few);
}

no_bytes : (bytes : List ℕ) → length bytes < 1 → bytes ≡ []
no_bytes [] none = refl
no_bytes (b ∷ bytes) none = absurd (omega arith)

-- ---- how a source is walked

-- one step after another
calm_then : {A : Type 0} (r : Result A FrameError) (old mid new : ℕ) → mid ≡ old → Calm errors.ReadFault r mid new
    → Calm errors.ReadFault r old new
calm_then (Ok x) old mid new first second = second ∙ first
calm_then (Err e) old mid new first second = λ other. second other ∙ first

pub walks_then : {S A B : Type 0} (tells : S → Type 0) (left : S → List ℕ) (faults : S → ℕ) (x : A) (r : Result B FrameError)
    (old mid new : S) → Walks tells left faults (Ok x) old mid → Walks tells left faults r mid new
    → Walks tells left faults r old new
walks_then tells left faults x r old mid new first second = record {
  told = λ t. second.told (first.told t);
  front = λ t bytes ends. second.front (first.told t) bytes (first.front t bytes ends);
  fault = λ is. subst (λ n. Rose n (faults new)) first.calm (second.fault is);
  calm = calm_then r (faults old) (faults mid) (faults new) first.calm second.calm;
}

-- the same walk under another answer that is no fault
pub walks_as : {S A B : Type 0} (tells : S → Type 0) (left : S → List ℕ) (faults : S → ℕ) (x : A) (r : Result B FrameError)
    (old new : S) → (r ≢ Err errors.ReadFault) → Walks tells left faults (Ok x) old new → Walks tells left faults r old new
walks_as tells left faults x (Ok y) old new no_fault walks = record {
  told = walks.told;
  front = walks.front;
  fault = λ is. absurd (no_fault is);
  calm = walks.calm;
}
walks_as tells left faults x (Err e) old new no_fault walks = record {
  told = walks.told;
  front = walks.front;
  fault = λ is. absurd (no_fault is);
  calm = λ other. walks.calm;
}

-- ---- a length

-- the stream ends before it, or the first byte wasn't read
pub first_missed : (e : WireError) (before after : List ℕ) → EndsIn before after → length before < 1 + length after
    → (e ≢ wire.ReadFault → e ≢ wire.NoMemory → map_err wire_error ((byte_array 1).read before) ≡ Err e)
    → Lens (first_missing e) before after
first_missed wire.ReadFault before after ends few refused = takes_less 4 before after ends (omega (arith, few))
first_missed wire.NoMemory before after ends few refused = takes_less 4 before after ends (omega (arith, few))
first_missed wire.UnexpectedEnd before after ends few refused =
    no_bytes before (too_few 1 before wire.UnexpectedEnd (refused (λ same. cc same) (λ same. cc same)))
first_missed wire.WriteFault before after ends few refused =
    no_bytes before (too_few 1 before wire.WriteFault (refused (λ same. cc same) (λ same. cc same)))
first_missed wire.InvalidUtf8 before after ends few refused =
    no_bytes before (too_few 1 before wire.InvalidUtf8 (refused (λ same. cc same) (λ same. cc same)))
first_missed wire.TooLong before after ends few refused =
    no_bytes before (too_few 1 before wire.TooLong (refused (λ same. cc same) (λ same. cc same)))

-- a byte was read, and the next three weren't
cut_length : (first before mid : List ℕ) → length first ≡ 1 → before ≡ first ++ mid → length mid < 3
    → (0 < length before) × (length before < 4)
cut_length first before mid one same few =
    (omega (arith, ap length same, length-append first mid), omega (arith, ap length same, length-append first mid))

less_behind : (first before mid after : List ℕ) → length first ≡ 1 → before ≡ first ++ mid → TakesLess 3 mid after
    → TakesLess 4 before after
less_behind first before mid after one same less = record {
  taken = first ++ less.taken;
  are = same ∙ ap (λ m. first ++ m) less.are ∙ sym (append_assoc first less.taken after);
  less = omega (arith, one, length-append first less.taken, less.less);
}

pub rest_missed : (e : WireError) (first before mid after : List ℕ) → length first ≡ 1 → before ≡ first ++ mid → TakesLess 3 mid after
    → (e ≢ wire.ReadFault → e ≢ wire.NoMemory → map_err wire_error ((byte_array 3).read mid) ≡ Err e)
    → Lens (Err (frame_error e)) before after
rest_missed wire.ReadFault first before mid after one same less refused = less_behind first before mid after one same less
rest_missed wire.NoMemory first before mid after one same less refused = less_behind first before mid after one same less
rest_missed wire.UnexpectedEnd first before mid after one same less refused =
    cut_length first before mid one same (too_few 3 mid wire.UnexpectedEnd (refused (λ is. cc is) (λ is. cc is)))
rest_missed wire.WriteFault first before mid after one same less refused =
    cut_length first before mid one same (too_few 3 mid wire.WriteFault (refused (λ is. cc is) (λ is. cc is)))
rest_missed wire.InvalidUtf8 first before mid after one same less refused =
    cut_length first before mid one same (too_few 3 mid wire.InvalidUtf8 (refused (λ is. cc is) (λ is. cc is)))
rest_missed wire.TooLong first before mid after one same less refused =
    cut_length first before mid one same (too_few 3 mid wire.TooLong (refused (λ is. cc is) (λ is. cc is)))

-- all four were read
abbrev pub four : (first rest : List ℕ) → List ℕ
four first rest = slice_index first 0 ∷ slice_index rest 0 ∷ slice_index rest 1 ∷ slice_index rest 2 ∷ []

four_are : (first rest : List ℕ) → length first ≡ 1 → length rest ≡ 3 → first ++ rest ≡ four first rest
four_are (a ∷ []) (b ∷ c ∷ d ∷ []) one three = refl
four_are (a ∷ []) [] one three = absurd (omega arith)
four_are (a ∷ []) (b ∷ []) one three = absurd (omega arith)
four_are (a ∷ []) (b ∷ c ∷ []) one three = absurd (omega arith)
four_are (a ∷ []) (b ∷ c ∷ d ∷ e ∷ rest) one three = absurd (omega arith)
four_are [] rest one three = absurd (omega arith)
four_are (a ∷ b ∷ first) rest one three = absurd (omega arith)

pub length_stands : (len : ℕ) (first rest before mid after : List ℕ) → length first ≡ 1 → length rest ≡ 3
    → len ≡ from_be_bytes w32 (four first rest) → IsBytes before → before ≡ first ++ mid → mid ≡ rest ++ after
    → before ≡ to_be_bytes w32 len ++ after
length_stands len first rest before mid after one three is each same next =
    let whole : before ≡ (first ++ rest) ++ after = same ∙ ap (λ m. first ++ m) next ∙ sym (append_assoc first rest after) in
    let bytes : IsBytes (first ++ rest) = bytes_in_front (first ++ rest) after (subst IsBytes whole each) in
    let all : length (first ++ rest) ≡ 4 = omega (arith, length-append first rest) in
    let value = is ∙ ap (from_be_bytes w32) (sym (four_are first rest one three)) in
    whole ∙ ap (λ f. f ++ after) (sym (be_bytes_4 (first ++ rest) len all bytes value))

-- ---- the bytes of a message

pub body_missed : (e : WireError) (len : ℕ) (before after : List ℕ) → EndsIn before after
    → (e ≡ wire.ReadFault → length before < len + length after) → (e ≡ wire.NoMemory → length before < len + length after)
    → (e ≢ wire.ReadFault → e ≢ wire.NoMemory → map_err wire_error ((byte_array len).read before) ≡ Err e)
    → Bodies len (Err (frame_error e)) before after
body_missed wire.ReadFault len before after ends cut room refused = takes_less len before after ends (cut refl)
body_missed wire.NoMemory len before after ends cut room refused = takes_less len before after ends (room refl)
body_missed wire.UnexpectedEnd len before after ends cut room refused =
    too_few len before wire.UnexpectedEnd (refused (λ is. cc is) (λ is. cc is))
body_missed wire.WriteFault len before after ends cut room refused =
    too_few len before wire.WriteFault (refused (λ is. cc is) (λ is. cc is))
body_missed wire.InvalidUtf8 len before after ends cut room refused =
    too_few len before wire.InvalidUtf8 (refused (λ is. cc is) (λ is. cc is))
body_missed wire.TooLong len before after ends cut room refused =
    too_few len before wire.TooLong (refused (λ is. cc is) (λ is. cc is))

-- ---- a part of a message

short_part : (taken : List ℕ) → length taken < 4 → (taken ≡ []) ⊎ IsCutFrame taken
short_part [] few = inl refl
short_part (b ∷ taken) few = inr (inl (omega arith, few))

-- of its length
length_part : (before after : List ℕ) → TakesLess 4 before after → TakesPart before after
length_part before after less = record { taken = less.taken; are = less.are; part = short_part less.taken less.less }

-- of what follows that
body_part : (len : ℕ) (before mid after : List ℕ) → 1 ≤ len → len ≤ message_limit → before ≡ to_be_bytes w32 len ++ mid
    → TakesLess len mid after → TakesPart before after
body_part len before mid after some few stands less = record {
  taken = to_be_bytes w32 len ++ less.taken;
  are = stands ∙ ap (λ m. to_be_bytes w32 len ++ m) less.are ∙ sym (append_assoc (to_be_bytes w32 len) less.taken after);
  part = inr (inr (record { len = len; part = less.taken; are = refl; some = some; few = few; less = less.less }));
}

pub body_fronts : (e : FrameError) (len : ℕ) (before mid after : List ℕ) → 1 ≤ len → len ≤ message_limit
    → before ≡ to_be_bytes w32 len ++ mid → Bodies len (Err e) mid after → Fronts (Err e) before after
body_fronts errors.BadFrame len before mid after some few stands bodies = absurd bodies
body_fronts errors.Cut len before mid after some few stands bodies =
    inr (record { len = len; part = mid; are = stands; some = some; few = few; less = bodies })
body_fronts errors.ReadFault len before mid after some few stands bodies = body_part len before mid after some few stands bodies
body_fronts errors.NoMemory len before mid after some few stands bodies = body_part len before mid after some few stands bodies

-- ---- a whole message

message_stands : (len : ℕ) (message before mid after : List ℕ) → before ≡ to_be_bytes w32 len ++ mid → length message ≡ len
    → mid ≡ message ++ after → before ≡ string_of message ++ after
unfolding string_of
message_stands len message before mid after first is second =
    first ∙ ap (λ m. to_be_bytes w32 len ++ m) second ∙ sym (append_assoc (to_be_bytes w32 len) message after)
    ∙ ap (λ n. (to_be_bytes w32 n ++ message) ++ after) (sym is)

pub takes_message : {S : Type 0} (tells : S → Type 0) (left : S → List ℕ) (faults : S → ℕ) (len : ℕ) (message : List ℕ)
    (old mid new : S) → 1 ≤ len → len ≤ message_limit → length message ≡ len
    → (tells old → left old ≡ to_be_bytes w32 len ++ left mid) → Walks tells left faults (Ok (Some len)) old mid
    → (tells mid → left mid ≡ message ++ left new) → Walks tells left faults (Ok message) mid new
    → TakesMessage tells left faults (Ok (Some message)) old new
takes_message tells left faults len message old mid new some few is stands first follows second = record {
  fronts = λ t. message_stands len message (left old) (left mid) (left new) (stands t) is (follows (first.told t));
  is_message = record { some = omega arith; few = omega arith };
  walks = walks_then tells left faults (Some len) (Ok (Some message)) old mid new first
      (walks_as tells left faults message (Ok (Some message)) mid new (λ other. cc other) second);
}

-- the same refusal of another value
walks_refused : {S A B : Type 0} (tells : S → Type 0) (left : S → List ℕ) (faults : S → ℕ) (e : FrameError) (old new : S)
    → Walks {A = A} tells left faults (Err e) old new → Walks {A = B} tells left faults (Err e) old new
walks_refused tells left faults e old new walks = record {
  told = walks.told;
  front = walks.front;
  fault = λ is. let same : e ≡ errors.ReadFault = cc is in walks.fault (ap Err same);
  calm = walks.calm;
}

-- a message whose bytes are refused
pub refuses_message : {S : Type 0} (tells : S → Type 0) (left : S → List ℕ) (faults : S → ℕ) (len : ℕ) (e : FrameError)
    (old mid new : S) → 1 ≤ len → len ≤ message_limit
    → (tells old → left old ≡ to_be_bytes w32 len ++ left mid) → Walks tells left faults (Ok (Some len)) old mid
    → (tells mid → Bodies len (Err e) (left mid) (left new)) → Walks {A = List ℕ} tells left faults (Err e) mid new
    → TakesMessage tells left faults (Err e) old new
refuses_message tells left faults len e old mid new some few stands first bodies second = record {
  fronts = λ t. body_fronts e len (left old) (left mid) (left new) some few (stands t) (bodies (first.told t));
  is_message = tt;
  walks = walks_then tells left faults (Some len) (Err e) old mid new first (walks_refused tells left faults e mid new second);
}
