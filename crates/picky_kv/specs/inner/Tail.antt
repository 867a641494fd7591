-- What a decoder keeps of its text.
use Rattle.std.specs.Prelude.{◌≡◌, ◌≢◌, ◌<◌, ◌^◌, ◌%◌, ◌==◌, ◌&&◌, ◌++◌, ℕ, not, List, [], length, nat_lt, if◌then◌else◌}
use Rattle.std.specs.Prelude.{Result, Ok, Err}
use Rattle.std.specs.Str.{IsUtf8}
use Rattle.picky_wire_base.specs.Numbers.{IsBytes}
use Rattle.picky_text.specs.Base64.{base64_of}
use Rattle.picky_kv.specs.declared.block_error.BlockError.{BlockError}
use Rattle.picky_kv.specs.declared.block_error.BlockError.TheVariants.{BadBase64, TooLong}
use Rattle.picky_kv.specs.declared.tail.Tail.{Tail}
use Rattle.picky_kv.specs.declared.tail.Tail.TheVariants as tails
use Rattle.picky_kv.specs.BlockRefusal.{taken}

-- the characters
abbrev pub tail_text : Tail → List ℕ
tail_text tails.Empty = []
tail_text (tails.One text) = text
tail_text (tails.Two text) = text
tail_text (tails.Three text) = text

-- what is kept: fewer than 2^32 bytes, and no character after padding
pub record IsState (bytes tail : List ℕ) : Type 0 where
  pub small : IsBytes bytes
  pub short : length bytes < 2 ^ 32
  pub ended : length bytes % 3 ≢ 0 → tail ≡ []

-- and what a text of characters ends with is a text
pub record IsHeld (bytes tail : List ℕ) : Type 0 where
  pub state : IsState bytes tail
  pub utf8 : IsUtf8 tail

-- the text goes behind the base64 of the old bytes, and all of it is kept
pub record IsExtended (old text new tail : List ℕ) : Type 0 where
  pub state : IsState new tail
  pub taken_is : taken (base64_of old ++ text) ≡ Ok (base64_of new ++ tail)

-- the rest after so many bytes: none after padding, and fewer than 2^32 bytes
unfoldable pub rest_judged : ℕ → List ℕ → Result (List ℕ) BlockError
rest_judged len rest =
    if not (len % 3 == 0) && nat_lt 0 (length rest) then Err BadBase64
    else if nat_lt len (2 ^ 32) then Ok rest
    else Err TooLong
