-- Lemmas on reading so many bytes: what each answer takes of the source.
use Rattle.std.proofs.Common.{◌≡◌, ℕ, ◌+◌, ◌≤◌, ◌<◌, List, ◌++◌, length, sym, ap, ◌∙◌, arith, refl, Result, Ok, Err}
use Rattle.std.proofs.lemmas.List.{length-append, append_assoc}
use Rattle.std.specs.Prelude.{Option, IsSome}
use Rattle.picky_wire_base.specs.Flaw.{Flaw}
use Rattle.picky_wire_base.specs.Outcome.{map_err}
use Rattle.picky_wire_base.specs.carried.Outcome.{map_err_ok}
use Rattle.picky_wire_base.specs.Wire.{byte_array}
use Rattle.picky_wire.specs.declared.error.WireError.{WireError}
use Rattle.picky_wire.specs.declared.error.WireError.TheVariants as errors
use Rattle.picky_wire.specs.Count.{Rose}
use Rattle.picky_wire.specs.Takes.{EndsIn}
use Rattle.picky_wire.specs.Flaws.{TakesField, wire_error}
use Rattle.picky_wire_base.proofs.ReadLemmas.{byte_array-read, byte_array-short, byte_array-refused, piece_taken}

-- what ended with the bytes before ends with those after
pub ends_later : (bytes before taken after : List ℕ) → before ≡ taken ++ after → EndsIn bytes before
    → EndsIn bytes after
ends_later bytes before taken after same ends = record {
  taken = ends.taken ++ taken;
  are = ends.are ∙ ap (λ r. ends.taken ++ r) same ∙ sym (append_assoc ends.taken taken after);
}

-- what a step over the source keeps
pub record Steady {S : Type 0} (tells : S → Type 0) (known : S → Option ℕ) (old new : S) : Type 0 where
  pub told : tells old → tells new
  pub knows : IsSome (known old) → IsSome (known new)

-- all bytes were read
pub byte_array_read : {S : Type 0} (tells : S → Type 0) (left : S → List ℕ) (known : S → Option ℕ) (faults : S → ℕ)
    (n : ℕ) (v : List ℕ) (old new : S) → length v ≡ n → (tells old → left old ≡ v ++ left new)
    → Steady tells known old new → faults new ≡ faults old
    → TakesField tells left known faults (byte_array n) (Ok v) old new
unfolding byte_array
byte_array_read tells left known faults n v old new len same steady calm = record {
  answers = λ t. ap (map_err wire_error) (byte_array-read n v (left new) (left old) len (same t));
  within = λ t. omega (arith, ap length (same t), length-append v (left new));
  whole = λ t. omega (arith, ap length (same t), length-append v (left new));
  cut = λ t other. cc other;
  front = λ t bytes ends. ends_later bytes (left old) v (left new) (same t) ends;
  told = steady.told;
  knows = steady.knows;
  fault = λ other. cc other;
  calm = calm;
}

-- the bytes ended
pub byte_array_ended : {S : Type 0} (tells : S → Type 0) (left : S → List ℕ) (known : S → Option ℕ) (faults : S → ℕ)
    (n : ℕ) (old new : S) → (tells old → (taken : List ℕ) × (left old ≡ taken ++ left new) × (length (left old) < n))
    → Steady tells known old new → faults new ≡ faults old
    → TakesField tells left known faults (byte_array n) (Err errors.UnexpectedEnd) old new
unfolding byte_array
byte_array_ended tells left known faults n old new short steady calm = record {
  answers = λ t other kept. ap (map_err wire_error) (byte_array-short n (left old) (short t).2);
  within = λ t. omega (arith, (short t).2);
  whole = λ t other kept no_end. absurd (no_end refl);
  cut = λ t other. cc other;
  front = λ t bytes ends. ends_later bytes (left old) (short t).0 (left new) (short t).1 ends;
  told = steady.told;
  knows = steady.knows;
  fault = λ other. cc other;
  calm = λ other. calm;
}

-- reading stopped after a front of the bytes: the source failed, or memory ran out
pub byte_array_stopped : {S : Type 0} (tells : S → Type 0) (left : S → List ℕ) (known : S → Option ℕ) (faults : S → ℕ)
    (n : ℕ) (old new : S) → (tells old → (taken : List ℕ) × (left old ≡ taken ++ left new) × (length taken < n))
    → Steady tells known old new → Rose (faults old) (faults new)
    → TakesField tells left known faults (byte_array n) (Err errors.ReadFault) old new
unfolding byte_array
byte_array_stopped tells left known faults n old new stopped steady rose = record {
  answers = λ t other. absurd (other refl);
  within = λ t. omega (arith, ap length (stopped t).1, length-append (stopped t).0 (left new), (stopped t).2);
  whole = λ t other. absurd (other refl);
  cut = λ t is. omega (arith, ap length (stopped t).1, length-append (stopped t).0 (left new), (stopped t).2);
  front = λ t bytes ends. ends_later bytes (left old) (stopped t).0 (left new) (stopped t).1 ends;
  told = steady.told;
  knows = steady.knows;
  fault = λ same. rose;
  calm = λ other. absurd (other refl);
}

pub byte_array_unmade : {S : Type 0} (tells : S → Type 0) (left : S → List ℕ) (known : S → Option ℕ) (faults : S → ℕ)
    (n : ℕ) (old new : S) → (tells old → (taken : List ℕ) × (left old ≡ taken ++ left new) × (length taken ≤ n))
    → Steady tells known old new → faults new ≡ faults old
    → TakesField tells left known faults (byte_array n) (Err errors.NoMemory) old new
unfolding byte_array
byte_array_unmade tells left known faults n old new stopped steady calm = record {
  answers = λ t other kept. absurd (kept refl);
  within = λ t. omega (arith, ap length (stopped t).1, length-append (stopped t).0 (left new), (stopped t).2);
  whole = λ t other kept. absurd (kept refl);
  cut = λ t other. cc other;
  front = λ t bytes ends. ends_later bytes (left old) (stopped t).0 (left new) (stopped t).1 ends;
  told = steady.told;
  knows = steady.knows;
  fault = λ other. cc other;
  calm = λ other. calm;
}

-- ---- so many bytes in pieces

-- what was read is what the field says
byte_array_said : (n : ℕ) (bytes v rest : List ℕ) → map_err wire_error ((byte_array n).read bytes) ≡ Ok (v, rest)
    → (byte_array n).read bytes ≡ Ok (v, rest)
byte_array_said n bytes v rest is = map_err_ok wire_error ((byte_array n).read bytes) (v, rest) is

-- one more piece was taken
pub piece_taken_by : (n : ℕ) (taken before now v after : List ℕ) → before ≡ taken ++ now
    → map_err wire_error ((byte_array n).read now) ≡ Ok (v, after) → before ≡ (taken ++ v) ++ after
piece_taken_by n taken before now v after same is =
    piece_taken n taken before now v after same (byte_array_said n now v after is)

-- a refusal of a later piece is one of all bytes
refused_short : (n len : ℕ) (taken before now : List ℕ) (e : WireError) → before ≡ taken ++ now
    → length taken + n ≤ len → map_err wire_error ((byte_array n).read now) ≡ Err e
    → map_err wire_error ((byte_array len).read before) ≡ Err e
refused_short n len taken before now e same few refused = go ((byte_array n).read now) refl refused
  where
    go : (r : Result (List ℕ × List ℕ) Flaw) → (byte_array n).read now ≡ r → map_err wire_error r ≡ Err e
        → map_err wire_error ((byte_array len).read before) ≡ Err e
    go (Ok x) is other = cc other
    go (Err f) is why =
        let short = byte_array-refused n now f is in
        let all : length before < len = omega (arith, ap length same, length-append taken now, short.1) in
        ap (map_err wire_error) (byte_array-short len before all ∙ ap Err (sym short.0)) ∙ why

-- so many bytes are refused only where they end
only_short : (n : ℕ) (bytes : List ℕ) (e : WireError) → map_err wire_error ((byte_array n).read bytes) ≡ Err e
    → e ≡ errors.UnexpectedEnd
only_short n bytes e refused = go ((byte_array n).read bytes) refl refused
  where
    go : (r : Result (List ℕ × List ℕ) Flaw) → (byte_array n).read bytes ≡ r → map_err wire_error r ≡ Err e
        → e ≡ errors.UnexpectedEnd
    go (Ok x) is other = cc other
    go (Err f) is why =
        let end : wire_error f ≡ errors.UnexpectedEnd = ap wire_error (byte_array-refused n bytes f is).0 in
        let same : wire_error f ≡ e = cc why in
        sym same ∙ end

used_is : (n : ℕ) (bytes : List ℕ) → (byte_array n).used bytes ≡ n
unfolding byte_array
used_is n bytes = refl

-- reading stopped in a later piece, so it stopped in all of them
pub more_takes : {S : Type 0} (tells : S → Type 0) (left : S → List ℕ) (known : S → Option ℕ) (faults : S → ℕ)
    (n len : ℕ) (taken : List ℕ) (e : WireError) (old mid new : S) → length taken + n ≤ len
    → (tells old → left old ≡ taken ++ left mid) → Steady tells known old mid → faults mid ≡ faults old
    → TakesField tells left known faults (byte_array n) (Err e) mid new
    → TakesField tells left known faults (byte_array len) (Err e) old new
more_takes tells left known faults n len taken e old mid new few same steady calm takes = record {
  answers = λ t other kept.
      refused_short n len taken (left old) (left mid) e (same t) few (takes.answers (steady.told t) other kept);
  within = λ t.
      omega (arith, ap length (same t), length-append taken (left mid), takes.within (steady.told t), used_is n (left mid), used_is len (left old), few);
  whole = λ t other kept no_end.
      let refused = refused_short n len taken (left old) (left mid) e (same t) few (takes.answers (steady.told t) other kept) in
      absurd (no_end (only_short len (left old) e refused));
  cut = λ t is.
      omega (arith, ap length (same t), length-append taken (left mid), takes.cut (steady.told t) is, used_is n (left mid), used_is len (left old), few);
  front = λ t bytes ends. takes.front (steady.told t) bytes (ends_later bytes (left old) taken (left mid) (same t) ends);
  told = λ t. takes.told (steady.told t);
  knows = λ known. takes.knows (steady.knows known);
  fault = λ is. omega (arith, takes.fault is, calm);
  calm = λ other. takes.calm other ∙ calm;
}
