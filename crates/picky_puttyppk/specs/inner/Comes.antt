-- Words of this crate's private contracts: what is answered before anything is written.
use Rattle.std.specs.Prelude.{List, ℕ, Result, Ok, Err}
use Rattle.picky_suite.specs.Meanings.{Meanings}
use Rattle.picky_input.specs.Extent.{Extent, ToEnd}
use Rattle.picky_puttyppk.specs.declared.status.PuttyPpkStatus.{PuttyPpkStatus}
use Rattle.picky_puttyppk.specs.declared.status.PuttyPpkStatus.TheVariants as statuses
use Rattle.picky_puttyppk.specs.Run.{Stops, IsTextFor, extent_of}

-- a text, and no source or sink, may be refused so
abbrev pub IsOfText : PuttyPpkStatus → Type 0
IsOfText (statuses.Refused e) = Unit {0}
IsOfText statuses.CommentNotCarried = Unit {0}
IsOfText statuses.NoMemory = Unit {0}
IsOfText status = ⊥

-- the text for PuTTY of the bytes of a source, or why there is none
abbrev pub Comes : Meanings → (input : List ℕ) (read_rose : Type 0) → Result (List ℕ) PuttyPpkStatus → Type 0
Comes m input read_rose (Ok made) = IsTextFor m input made
Comes m input read_rose (Err status) = Stops m input read_rose status

-- how far the source was read
abbrev pub extent_for : Result (List ℕ) PuttyPpkStatus → Extent
extent_for (Ok made) = ToEnd
extent_for (Err status) = extent_of status
