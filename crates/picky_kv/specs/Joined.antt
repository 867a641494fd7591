-- Lines that are joined whatever they are: decoded while each is taken, and as their text from the first on that isn't.
use Rattle.std.specs.Prelude.{◌==◌, ◌%◌, ℕ, Bool, false, List, length, string_bytes}
use Rattle.picky_kv.specs.declared.joined.JoinedLines.{JoinedLines}
use Rattle.picky_kv.specs.declared.joined.JoinedLines.TheVariants.{Decoded, Refused}

-- the lines, joined
abbrev pub joined_text : JoinedLines → List ℕ
joined_text (Decoded decoder) = decoder
joined_text (Refused text) = string_bytes text

-- each line was taken, and no character is pending
abbrev pub is_whole : JoinedLines → Bool
is_whole (Decoded decoder) = length decoder % 4 == 0
is_whole (Refused text) = false
