-- Multiple precision integers that aren't negative (RFC 4251, section 5).
use Rattle.std.specs.Prelude.{◌≡◌, List, ◌∷◌, ℕ, ◌+◌, ◌++◌, ◌<◌, ◌^◌, nat_le, length, replicate, slice_index}
use Rattle.std.specs.Prelude.{if◌then◌else◌}
use Rattle.picky_wire_base.specs.Flaw.{Flaw}
use Rattle.picky_wire_base.specs.Grammar.{Grammar}
use Rattle.picky_wire_base.specs.Narrowed.{Narrowing}
use Rattle.picky_wire_base.specs.Combine.{narrow}
use Rattle.picky_wire_base.specs.Wire.{string, string_of}
use Rattle.picky_wire_base.specs.Magnitude.{IsMagnitude, StandsFor, read_mpint}
use Rattle.picky_wire_base.specs.carried.Mpint.{mpint_sound, mpint_complete}

-- bytes stand for the number that follows their zeros
abbrev pub as_mpint : Narrowing Flaw (List ℕ) (List ℕ)
as_mpint = record {
  means = StandsFor;
  decide = read_mpint;
  sound = mpint_sound;
  complete = mpint_complete;
}

-- mpint: a string whose bytes stand for a number
unfoldable pub mpint : Grammar Flaw (List ℕ)
mpint = narrow string as_mpint

-- ---- the spelling that is written

-- one zero byte in front of a first byte of 128 or more
abbrev pub with_sign : List ℕ → List ℕ
with_sign v = if nat_le 128 (slice_index v 0) then 0 ∷ v else v

-- the string of the number
unfoldable pub mpint_of : List ℕ → List ℕ
mpint_of v = string_of (with_sign v)

-- the bytes are the string of the number after zeros, as a string fits them
pub record IsMpintPiece (v bytes : List ℕ) : Type 0 where
  pub mpint : IsMagnitude v
  pub zeros : ℕ
  pub are : bytes ≡ string_of (replicate zeros 0 ++ v)
  pub short : zeros + length v < 2 ^ 32
