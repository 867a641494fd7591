-- The order in which a text that comes line by line is refused: base64, length, and at its end what is pending.
use Rattle.std.specs.Prelude.{◌==◌, ◌&&◌, ◌^◌, ◌-◌, ◌%◌, ℕ, Bool, List, [], ◌∷◌, ◌++◌, length, slice_index}
use Rattle.std.specs.Prelude.{nat_lt, if◌then◌else◌, Option, Some, None, Result, Ok, Err}
use Rattle.std.specs.Option.{ok_or}
use Rattle.picky_wire_base.specs.Outcome.{and_then}
use Rattle.picky_text.specs.Base64.{decoded}
use Rattle.picky_kv.specs.declared.block_error.BlockError.{BlockError}
use Rattle.picky_kv.specs.declared.block_error.BlockError.TheVariants.{BadBase64, TooLong}
use Rattle.picky_kv.specs.Block.{groups_of}

-- the groups of four end with `=`, and more follows them
unfoldable pub goes_on_after_padding : List ℕ → Bool
goes_on_after_padding text =
    let groups = groups_of text in
    slice_index groups (length groups - 1) == 61 && nat_lt (length groups) (length text)

-- the text so far, where its groups of four decode to these bytes or to none
abbrev pub judged_base64 : List ℕ → Option (List ℕ) → Result (List ℕ) BlockError
judged_base64 text None = Err BadBase64
judged_base64 text (Some bytes) =
    if goes_on_after_padding text then Err BadBase64
    else if nat_lt (length bytes) (2 ^ 32) then Ok text
    else Err TooLong

-- the text so far, or the first reason against it
unfoldable pub taken : List ℕ → Result (List ℕ) BlockError
taken text = judged_base64 text (decoded (groups_of text))

-- the bytes of a text that ends here
unfoldable pub finished : List ℕ → Result (List ℕ) BlockError
finished text = if length text % 4 == 0 then ok_or (decoded text) BadBase64 else Err BadBase64

-- the text of lines, one taken after another behind this text, or the first reason against one
abbrev pub lines_taken : List ℕ → List (List ℕ) → Result (List ℕ) BlockError
lines_taken text [] = Ok text
lines_taken text (line ∷ lines) = and_then (taken (text ++ line)) (λ new. lines_taken new lines)

-- the bytes of the lines, pushed one after another, or the first reason against them
abbrev pub block_of : List (List ℕ) → Result (List ℕ) BlockError
block_of lines = and_then (lines_taken [] lines) finished
