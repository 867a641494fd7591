-- How a run of the filter ends.
use Rattle.std.specs.Prelude.{◌≡◌, ◌++◌, List, ℕ, Result, Ok, Err}
use Rattle.picky_wire_base.specs.Outcome.{and_then, map_err}
use Rattle.picky_suite.specs.Meanings.{Meanings}
use Rattle.picky_input.specs.Extent.{Extent, ToFault, PastLimit, ToEnd, Anywhere, WritesPrefix}
use Rattle.picky_input.specs.SourceText.{source_text_of}
use Rattle.picky_input.specs.declared.source_text.SourceError.{SourceError}
use Rattle.picky_input.specs.declared.source_text.SourceError.TheVariants as source
use Rattle.picky_puttyppk.specs.PuttyText.{IsOf, text_for_putty}
use Rattle.picky_puttyppk.specs.declared.status.PuttyPpkStatus.{PuttyPpkStatus}
use Rattle.picky_puttyppk.specs.declared.status.PuttyPpkStatus.TheVariants as statuses

abbrev pub source_status : SourceError → PuttyPpkStatus
source_status source.ReadFault = statuses.ReadFault
source_status source.InputTooLong = statuses.InputTooLong
source_status source.InputNotUtf8 = statuses.InputNotUtf8
source_status source.NoMemory = statuses.NoMemory

-- what is written for the bytes of a source, or the status that says why nothing is
unfoldable pub outcome : Meanings → (input : List ℕ) → Result (List ℕ) PuttyPpkStatus
outcome m input = and_then (map_err source_status (source_text_of input)) (text_for_putty m)

-- why nothing is written for these bytes: a fault of the source was counted, or they have no text for PuTTY, or memory ran out
abbrev pub Stops : Meanings → (input : List ℕ) (read_rose : Type 0) → PuttyPpkStatus → Type 0
Stops m input read_rose statuses.Done = ⊥
Stops m input read_rose statuses.WriteFault = ⊥
Stops m input read_rose statuses.ReadFault = read_rose
Stops m input read_rose statuses.NoMemory = Unit {0}
Stops m input read_rose status = outcome m input ≡ Err status

-- the text is what is written for these bytes, and means what they mean
abbrev pub IsTextFor : Meanings → (input text : List ℕ) → Type 0
IsTextFor m input text = (outcome m input ≡ Ok text) × IsOf m input text

-- how a run ends for these bytes: Done where their text was written, to a sink that tells; WriteFault where a prefix of it was, up to
-- a fault that was counted
abbrev pub Ends : Meanings → (input : List ℕ) (read_rose write_rose tells : Type 0) (before after : List ℕ)
    → PuttyPpkStatus → Type 0
Ends m input read_rose write_rose tells before after statuses.Done =
    (text : List ℕ) × IsTextFor m input text × (tells → after ≡ before ++ text)
Ends m input read_rose write_rose tells before after statuses.WriteFault =
    write_rose × (text : List ℕ) × IsTextFor m input text
    × (tells → WritesPrefix text before after)
Ends m input read_rose write_rose tells before after status = Stops m input read_rose status

-- how the program ends: 0 for Done
abbrev pub exit_code : PuttyPpkStatus → ℕ
exit_code statuses.Done = 0
exit_code (statuses.Refused e) = 1
exit_code statuses.CommentNotCarried = 1
exit_code statuses.ReadFault = 3
exit_code statuses.WriteFault = 4
exit_code statuses.NoMemory = 6
exit_code statuses.InputTooLong = 7
exit_code statuses.InputNotUtf8 = 8

-- how far the source was read
abbrev pub extent_of : PuttyPpkStatus → Extent
extent_of statuses.ReadFault = ToFault
extent_of statuses.InputTooLong = PastLimit
extent_of statuses.NoMemory = Anywhere
extent_of status = ToEnd
