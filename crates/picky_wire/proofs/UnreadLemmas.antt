-- Lemmas on a string that is longer than what is known to be left.
use Rattle.std.proofs.Common.{◌≡◌, ◌≢◌, ◌≤◌, ◌<◌, ◌+◌, ℕ, List, length, drop, refl, sym, ap, ◌∙◌, arith, Result, Ok, Err, inl, inr}
use Rattle.std.proofs.lemmas.List.{length-drop, take_at, drop_at}
use Rattle.std.specs.Int.{w32, from_be_bytes}
use Rattle.std.specs.Prelude.{take, Option, Some, None, IsSome, IfSome}
use Rattle.picky_wire_base.specs.Flaw.{Flaw}
use Rattle.picky_wire_base.specs.Outcome.{map_err, and_then}
use Rattle.picky_wire_base.specs.carried.Outcome.{map_err_ok, and_then_ok, same_pair}
use Rattle.picky_wire_base.specs.Combine.{each}
use Rattle.picky_wire_base.specs.Narrowed.{meant}
use Rattle.picky_wire_base.specs.Wire.{byte_array, uint32}
use Rattle.picky_wire_base.specs.Short.{EndsInString}
use Rattle.picky_wire.specs.declared.error.WireError.{WireError}
use Rattle.picky_wire.specs.declared.error.WireError.TheVariants as errors
use Rattle.picky_wire.specs.Takes.{StopsShort}
use Rattle.picky_wire.specs.Unread.{LeavesUnread}
use Rattle.picky_wire.specs.Flaws.{wire_error, wire_causes}
use Rattle.picky_wire_base.proofs.ReadLemmas.{byte_array-front, byte_array-refused}

-- a number that was read took four bytes, and is what they say
pub record FourBytes (bytes rest : List ℕ) (n : ℕ) : Type 0 where
  pub rest_is : rest ≡ drop 4 bytes
  pub number : n ≡ from_be_bytes w32 (take 4 bytes)

byte_array_four : (bytes v rest : List ℕ) → (byte_array 4).read bytes ≡ Ok (v, rest)
    → (v ≡ take 4 bytes) × (rest ≡ drop 4 bytes)
unfolding byte_array
byte_array_four bytes v rest read =
    let fits = (byte_array 4).sound bytes v rest read in
    let same = byte_array-front 4 bytes v rest read in (
      sym (take_at v rest 4 fits.1.0) ∙ ap (take 4) (sym same),
      sym (drop_at v rest 4 fits.1.0) ∙ ap (drop 4) (sym same),
    )

pub four_bytes : (bytes rest : List ℕ) (n : ℕ) → map_err wire_error (uint32.read bytes) ≡ Ok (n, rest)
    → FourBytes bytes rest n
unfolding uint32
four_bytes bytes rest n read =
    let number = map_err_ok wire_error (uint32.read bytes) (n, rest) read in
    let steps = and_then_ok ((byte_array 4).read bytes) (meant (each (from_be_bytes w32))) (n, rest) number in
    let same = same_pair _ (from_be_bytes w32 steps.0.0) n steps.0.1 rest refl steps.2 in
    let four = byte_array_four bytes steps.0.0 steps.0.1 steps.1 in
    record {
      rest_is = sym same.1 ∙ four.1;
      number = sym same.0 ∙ ap (from_be_bytes w32) four.0;
    }

-- fewer bytes are left than the number says
pub rest_is_short : (bytes rest : List ℕ) (n : ℕ) → FourBytes bytes rest n → 4 ≤ length bytes
    → EndsInString bytes → length rest < n
rest_is_short bytes rest n four enough ends =
    omega (arith, ap length four.rest_is, length-drop 4 bytes, four.number, ends)

-- a length that is there is read, unless the source fails inside it
length_cut : (bytes : List ℕ) → map_err wire_error (uint32.read bytes) ≡ Err errors.UnexpectedEnd
    → length bytes < 4
unfolding uint32
length_cut bytes refused = go ((byte_array 4).read bytes) refl refused
  where
    go : (r : Result (List ℕ × List ℕ) Flaw) → (byte_array 4).read bytes ≡ r
        → map_err wire_error (and_then r (meant (each (from_be_bytes w32)))) ≡ Err errors.UnexpectedEnd
        → length bytes < 4
    go (Ok x) is other = cc other
    go (Err f) is why = (byte_array-refused 4 bytes f is).1

-- reading the length is refused: the source failed inside it
pub length_refused : {A : Type 0} (e : WireError) (fault : Type 0) (before after : List ℕ)
    → StopsShort wire_causes fault e
    → (e ≢ errors.ReadFault → e ≢ errors.NoMemory → map_err wire_error (uint32.read before) ≡ Err e)
    → length before < 4 + length after → 4 ≤ length before
    → LeavesUnread {A = A} wire_causes (Err e) before after
length_refused e fault before after (inl counted) answers cut enough = inr (ap Err counted.0, cut)
length_refused e fault before after (inr end) answers cut enough =
    let refused = answers (λ other. cc (end, other)) (λ other. cc (end, other)) in
    let short = length_cut before (refused ∙ ap Err end) in
    absurd (omega (arith, short, enough))

-- the bytes aren't asked for
pub stays_unread : {A : Type 0} (e : WireError) (before mid after : List ℕ) → e ≡ errors.UnexpectedEnd
    → mid ≡ drop 4 before → after ≡ mid → LeavesUnread {A = A} wire_causes (Err e) before after
stays_unread e before mid after end four kept = inl (ap Err end, kept ∙ four)

-- what is known is a number
pub known_some : (known : Option ℕ) → IsSome known → (n : ℕ) × (known ≡ Some n)
known_some None is = cc is
known_some (Some n) is = (n, refl)

-- where so many are known to be left, what was promised of fewer holds
pub refused_unread : (known : Option ℕ) (n len : ℕ) (Unread : Type 0) → known ≡ Some n
    → IfSome known (λ k. k < len → Unread) → n < len → Unread
refused_unread None n len Unread is promised few = cc is
refused_unread (Some k) n len Unread is promised few =
    let same : k ≡ n = cc is in
    promised (omega (arith, same, few))
