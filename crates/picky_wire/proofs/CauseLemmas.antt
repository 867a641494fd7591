-- Why reading a field is refused: some bytes are refused so.
use Rattle.std.proofs.Common.{◌≡◌, ◌≤◌, ◌<◌, ◌-◌, ◌^◌, ℕ, List, [], ◌∷◌, length, refl, sym, ap, ◌∙◌, arith, inl, inr, Result}
use Rattle.std.proofs.Common.{Ok, Err, suc, zero}
use Rattle.std.proofs.lemmas.List.{length-replicate}
use Rattle.std.proofs.lemmas.Bool.{le-ltb}
use Rattle.std.specs.Str.{is_utf8, chars}
use Rattle.std.specs.Prelude.{◌++◌, replicate, if◌then◌else◌}
use Rattle.picky_wire_base.specs.Flaw.{Flaw, Short, NotUtf8, Big, Reason, Flawed}
use Rattle.picky_wire_base.specs.Outcome.{map_err, and_then}
use Rattle.picky_wire_base.specs.Combine.{at, placed, tag}
use Rattle.picky_wire_base.specs.Narrowed.{meant}
use Rattle.picky_wire_base.specs.Numbers.{uint64}
use Rattle.picky_wire_base.specs.Wire.{byte_array, uint32, string, string_of, text}
use Rattle.picky_wire_base.proofs.Strings.{string_reads_back, text_stuck}
use Rattle.picky_wire_base.specs.Zeros.{without_zeros, BeginsWithNoZero}
use Rattle.picky_wire_base.specs.carried.Zeros.{all_is_kept}
use Rattle.picky_wire_base.specs.Mpint.{mpint, as_mpint}
use Rattle.picky_wire_base.specs.Magnitude.{read_mpint}
use Rattle.picky_wire.specs.declared.error.WireError.{WireError}
use Rattle.picky_wire.specs.declared.error.WireError.TheVariants as errors
use Rattle.picky_wire.specs.Flaws.{wire_error, wire_causes}
use Rattle.picky_wire.specs.Takes.{HasCause, Refuses, StopsShort}
use Rattle.picky_wire.specs.Moment.{timestamp}

-- no bytes are short
pub string_ends : Refuses (tag wire_error string).read errors.UnexpectedEnd
unfolding string uint32 byte_array
string_ends = ([], refl)

pub uint64_ends : Refuses (tag wire_error uint64).read errors.UnexpectedEnd
unfolding uint64 byte_array
uint64_ends = ([], refl)

pub timestamp_ends : Refuses timestamp.read errors.UnexpectedEnd
unfolding timestamp uint64 byte_array
timestamp_ends = ([], refl)

-- one byte of 255 is no text
pub text_is_no_utf8 : Refuses (tag wire_error text).read errors.InvalidUtf8
unfolding text string uint32 byte_array is_utf8 chars
text_is_no_utf8 = (0 ∷ 0 ∷ 0 ∷ 1 ∷ 255 ∷ [], refl)

-- 2^32 - 1 bytes of 1 are too many for a number
mpint_refuses : (bytes v rest : List ℕ) → string.read bytes ≡ Ok (v, rest)
    → read_mpint v ≡ Err Big → mpint.read bytes ≡ Err Big
unfolding mpint
mpint_refuses bytes v rest is big =
    ap (λ r. and_then r (meant as_mpint)) is ∙ ap (λ r. and_then r (λ b. Ok (b, rest))) big

ones_begin : (n : ℕ) → BeginsWithNoZero (replicate n 1)
ones_begin zero some = absurd (omega arith)
ones_begin (suc n) some = omega arith

ones_are_big : (n : ℕ) → 2 ^ 32 - 1 ≤ n → read_mpint (replicate n 1) ≡ Err Big
ones_are_big n many =
    let kept = all_is_kept (replicate n 1) (ones_begin n) in
    let long : 2 ^ 32 - 1 ≤ length (without_zeros (replicate n 1)) = omega (arith, ap length kept, length-replicate {A = ℕ} n 1) in
    ap (λ t. if t then Ok (without_zeros (replicate n 1)) else Err Big)
    (le-ltb (length (without_zeros (replicate n 1))) (2 ^ 32 - 1) long)

ones_refused : (n : ℕ) → 2 ^ 32 - 1 ≤ n → n < 2 ^ 32 → Refuses (tag wire_error mpint).read errors.TooLong
ones_refused n many few =
    let v = replicate n 1 in
    let short : length v < 2 ^ 32 = omega (arith, length-replicate {A = ℕ} n 1) in
    let read = string_reads_back v [] short in
    (string_of v ++ [], ap (map_err wire_error) (mpint_refuses (string_of v ++ []) v [] read (ones_are_big n many)))

pub mpint_is_too_long : Refuses (tag wire_error mpint).read errors.TooLong
mpint_is_too_long = ones_refused (2 ^ 32 - 1) (omega arith) (omega arith)

too_long_is_big : (r : Result (List ℕ × List ℕ) Flaw) → map_err wire_error r ≡ Err errors.TooLong → r ≡ Err Big
too_long_is_big (Ok x) is = cc is
too_long_is_big (Err Short) is = cc is
too_long_is_big (Err NotUtf8) is = cc is
too_long_is_big (Err Big) is = refl

-- so is what begins with such a number
pub first_is_too_long : {B : Type 0} (i : ℕ) (next : List ℕ × List ℕ → Result B Reason)
    → and_then ((at i mpint).read mpint_is_too_long.0) next ≡ Err (i, Flawed Big)
first_is_too_long i next =
    let bytes = mpint_is_too_long.0 in
    ap (λ r. and_then (map_err (placed i) r) next) (too_long_is_big (mpint.read bytes) mpint_is_too_long.1)

-- ---- what is refused as a string is refused as a text and as a number

stuck_alike : {A : Type 0} (e : WireError) (r : Result (List ℕ × List ℕ) Flaw) (s : Result (A × List ℕ) Flaw)
    → ((f : Flaw) → r ≡ Err f → s ≡ Err f) → map_err wire_error r ≡ Err e → map_err wire_error s ≡ Err e
stuck_alike e (Ok x) s same refused = cc refused
stuck_alike e (Err f) s same refused =
    let is : wire_error f ≡ e = cc refused in
    ap (map_err wire_error) (same f refl) ∙ ap Err is

pub text_cause : (e : WireError) (fault : Type 0) → HasCause wire_causes (tag wire_error string).read fault e
    → HasCause wire_causes (tag wire_error text).read fault e
text_cause e fault (inl counted) = inl counted
text_cause e fault (inr (inl want)) = inr (inl want)
text_cause e fault (inr (inr (bytes, refused))) =
    inr (inr (bytes, stuck_alike e (string.read bytes) (text.read bytes) (text_stuck bytes) refused))

mpint_stuck : (bytes : List ℕ) (f : Flaw) → string.read bytes ≡ Err f → mpint.read bytes ≡ Err f
unfolding mpint
mpint_stuck bytes f refused = ap (λ r. and_then r (meant as_mpint)) refused

pub mpint_cause : (e : WireError) (fault : Type 0) → HasCause wire_causes (tag wire_error string).read fault e
    → HasCause wire_causes (tag wire_error mpint).read fault e
mpint_cause e fault (inl counted) = inl counted
mpint_cause e fault (inr (inl want)) = inr (inl want)
mpint_cause e fault (inr (inr (bytes, refused))) =
    inr (inr (bytes, stuck_alike e (string.read bytes) (mpint.read bytes) (mpint_stuck bytes) refused))

pub string_cause : (e : WireError) (fault : Type 0) → StopsShort wire_causes fault e
    → HasCause wire_causes (tag wire_error string).read fault e
string_cause e fault (inl counted) = inl counted
string_cause e fault (inr end) =
    inr (inr (string_ends.0, string_ends.1 ∙ ap Err (sym end)))

pub timestamp_cause : (e : WireError) (fault : Type 0) → StopsShort wire_causes fault e
    → HasCause wire_causes timestamp.read fault e
timestamp_cause e fault (inl counted) = inl counted
timestamp_cause e fault (inr end) = inr (inr (timestamp_ends.0, timestamp_ends.1 ∙ ap Err (sym end)))

pub ruleset causes = (string_ends, text_is_no_utf8, mpint_is_too_long, text_cause, mpint_cause, string_cause)
