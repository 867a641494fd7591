-- Lemmas on the payloads of critical options and extensions.
use Rattle.std.proofs.Common.{◌≡◌, ℕ, ◌+◌, ◌^◌, ◌<◌, ◌≤◌, false, List, [], ◌++◌, length, None, refl, ◌∙◌, ap, arith}
use Rattle.std.specs.Prelude.{nat_lt}
use Rattle.std.proofs.lemmas.Bool.Decides.{nat_tests}
use Rattle.std.proofs.lemmas.List.{append-nil}
use Rattle.picky_wire_base.specs.Wire.{string_of}
use Rattle.picky_wire_base.proofs.PieceLemmas.{length-string_of}
use Rattle.picky_issuing.specs.NamedPayload.{if_short}

-- a text of 2^32 - 4 bytes or more makes too long a string
pub long_none : (text : List ℕ) → 2 ^ 32 ≤ length text + 4 → if_short (string_of text) ≡ None
long_none text long =
    let past : nat_lt (length (string_of text)) (2 ^ 32) ≡ false = grind (arith, nat_tests, length-string_of text, long) in
    rw past refl

-- and a shorter one a short string
pub short_string : (text bytes : List ℕ) → length text + 4 < 2 ^ 32 → bytes ≡ [] ++ (string_of text ++ []) → length bytes < 2 ^ 32
short_string text bytes short is =
    let same : bytes ≡ string_of text = is ∙ append-nil (string_of text) in
    omega (arith, ap length same, length-string_of text, short)
