-- Base64 whose text comes line by line, after RFC 4648, section 4: padded, and nothing else.
use Rattle.std.specs.Prelude.{◌≡◌, ◌≢◌, ◌⊎◌, ◌<◌, ◌≤◌, ◌^◌, ◌-◌, ◌%◌, ℕ, List, length, take, slice_index}
use Rattle.std.specs.List.{concat}
use Rattle.picky_wire_base.specs.Numbers.{IsBytes}
use Rattle.picky_text.specs.Base64.{base64_of}

-- the longest front of the text whose length is a multiple of four
unfoldable pub groups_of : List ℕ → List ℕ
groups_of text = take (length text - length text % 4) text

-- that front ends with `=`, which is 61, and more follows it
abbrev pub GoesOnAfterPadding : List ℕ → Type 0
GoesOnAfterPadding text =
    (slice_index (groups_of text) (length (groups_of text) - 1) ≡ 61)
    × (length (groups_of text) < length text)

-- no base64 begins with the text: that front is no bytes' base64, or the text goes on after padding
abbrev pub IsNoFront : List ℕ → Type 0
IsNoFront text =
    ((bytes : List ℕ) → IsBytes bytes → groups_of text ≢ base64_of bytes) ⊎ GoesOnAfterPadding text

-- that front is the bytes' base64, and the text doesn't go on after padding
pub record IsFrontFor (text bytes : List ℕ) : Type 0 where
  pub small : IsBytes bytes
  pub groups : groups_of text ≡ base64_of bytes
  pub ended : GoesOnAfterPadding text → ⊥

-- the text is such a front for 2^32 bytes or more
pub record IsLongFront (text : List ℕ) : Type 0 where
  pub bytes : List ℕ
  pub front : IsFrontFor text bytes
  pub long : 2 ^ 32 ≤ length bytes

-- the lines, joined, are the base64 of fewer than 2^32 bytes
pub record IsBlock (lines : List (List ℕ)) (bytes : List ℕ) : Type 0 where
  pub small : IsBytes bytes
  pub short : length bytes < 2 ^ 32
  pub joined : concat lines ≡ base64_of bytes
