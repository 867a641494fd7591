-- The fields whose pieces have at least one byte, so that a list of them ends.
use Rattle.std.specs.Prelude.{◌≡◌, List, [], ◌∷◌, ℕ, ◌<◌, length, Ok, Err}
use Rattle.std.proofs.Common.{refl, arith}
use Rattle.picky_wire_base.specs.Flaw.{Short}
use Rattle.picky_wire_base.specs.Grammar.{Grammar}
use Rattle.picky_wire_base.proofs.Grammar.{refused_has_none}
use Rattle.picky_wire_base.specs.Wire.{byte_array, uint32, string, text}
use Rattle.picky_wire_base.specs.Numbers.{byte, uint64}
use Rattle.picky_wire_base.specs.Mpint.{mpint}
use Rattle.picky_wire_base.specs.Row.{Solid}
use Rattle.picky_wire_base.specs.carried.Row.{shorter}

-- Where no bytes are refused, each piece has at least one byte.
pub refuses_empty : {E A : Type 0} (G : Grammar E A) (e : E) → G.read [] ≡ Err e → Solid G.piece
refuses_empty G e refused v [] spells =
    absurd (refused_has_none G [] e refused v [] ([], spells, refl))
refuses_empty G e refused v (b ∷ bytes) spells = omega arith

-- What is left after reading such a piece is shorter.
pub read_shortens : {E A : Type 0} (G : Grammar E A) → Solid G.piece → (bytes : List ℕ) (v : A)
    (rest : List ℕ) → G.read bytes ≡ Ok (v, rest) → length rest < length bytes
read_shortens G solid bytes v rest is = shorter G solid bytes rest v (G.sound bytes v rest is)

-- ---- numbers, strings and mpints

pub byte_solid : Solid byte.piece
unfolding byte byte_array
byte_solid = refuses_empty byte Short refl

pub uint32_solid : Solid uint32.piece
unfolding uint32 byte_array
uint32_solid = refuses_empty uint32 Short refl

pub uint64_solid : Solid uint64.piece
unfolding uint64 byte_array
uint64_solid = refuses_empty uint64 Short refl

pub string_solid : Solid string.piece
unfolding string uint32 byte_array
string_solid = refuses_empty string Short refl

pub text_solid : Solid text.piece
unfolding text string uint32 byte_array
text_solid = refuses_empty text Short refl

pub mpint_solid : Solid mpint.piece
unfolding mpint string uint32 byte_array
mpint_solid = refuses_empty mpint Short refl
