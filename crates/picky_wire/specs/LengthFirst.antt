-- A string's length is read first, and what the source knows is asked then (RFC 4251, section 5).
use Rattle.std.specs.Prelude.{◌≡◌, ◌<◌, ◌⊎◌, ℕ, List, Option, Result, Ok, Err, IfSome, IfErr}
use Rattle.picky_wire_base.specs.Wire.{byte_array, uint32}
use Rattle.picky_wire.specs.declared.error.WireError.{WireError}
use Rattle.picky_wire.specs.declared.error.WireError.TheVariants as errors
use Rattle.picky_wire.specs.Count.{Rose}
use Rattle.picky_wire.specs.Takes.{StopsShort}
use Rattle.picky_wire.specs.Flaws.{TakesField, wire_causes}

-- the length is refused, and so is the string, with nothing read after it
pub record LengthRefused {S A : Type 0} (tells : S → Type 0) (left : S → List ℕ) (known : S → Option ℕ)
    (faults : S → ℕ) (result : Result A WireError) (old new : S) : Type 0 where
  pub why : WireError
  pub cause : StopsShort wire_causes (Rose (faults old) (faults new)) why
  pub takes : TakesField tells left known faults uint32 (Err why) old new
  pub refused : result ≡ Err why

-- the length is read, which leaves the source at `mid`, and from there so many bytes
pub record LengthRead {S A : Type 0} (tells : S → Type 0) (left : S → List ℕ) (known : S → Option ℕ)
    (faults : S → ℕ) (result : Result A WireError) (old new : S) : Type 0 where
  pub len : ℕ
  pub mid : S
  pub takes_len : TakesField tells left known faults uint32 (Ok len) old mid
  -- where the source then knows that fewer are left, the string is short, and none of them is taken
  pub unread : IfSome (known mid) (λ n. n < len → (result ≡ Err errors.UnexpectedEnd) × (new ≡ mid))
  pub bytes : Result (List ℕ) WireError
  pub takes_bytes : TakesField tells left known faults (byte_array len) bytes mid new
  -- where the bytes are refused, so is the string
  pub refused : IfErr bytes (λ e. result ≡ Err e)

-- what a call that reads a string promises, whatever the source knew before. Layouts are read by what their fields
-- take alone, so the word stays closed there
unfoldable pub LengthFirst : {S A : Type 0} → (S → Type 0) → (S → List ℕ) → (S → Option ℕ) → (S → ℕ)
    → Result A WireError → S → S → Type 0
LengthFirst tells left known faults result old new =
    LengthRefused tells left known faults result old new ⊎ LengthRead tells left known faults result old new
