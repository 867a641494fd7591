-- Words of this crate's private contracts: what unquoting looks for, and one step of quoting.
use Rattle.std.specs.Prelude.{◌≡◌, List, ◌++◌, ℕ, Bool, ◌==◌}
use Rattle.std.specs.declared.string.String.{String}
use Rattle.picky_text.specs.Appended.{AppendsAll}
use Rattle.picky_text.specs.Quote.{quote}

-- a backslash
abbrev pub is_backslash : ℕ → Bool
is_backslash b = b == 92

-- a piece was appended, and the quoting of the text is that piece and the quoting of what is left
pub record IsPieceQuoted {Z : Type 0} (old new : String Z) (text more : List ℕ) : Type 0 where
  pub piece : List ℕ
  pub begins : quote text ≡ piece ++ quote more
  pub appended : AppendsAll old new piece
