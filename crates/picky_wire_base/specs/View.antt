-- Fields seen in a buffer: each at its place, and none of them copied (RFC 4251, section 5).
use Rattle.std.specs.Prelude.{◌≡◌, ◌+◌, ◌≤◌, ℕ, List, length, take, drop, Result, Ok, Err}
use Rattle.picky_wire_base.specs.Flaw.{Why, Reason, Short, NotUtf8, Flawed, Length, Name, Number}
use Rattle.picky_wire_base.specs.Outcome.{map_err}
use Rattle.picky_wire_base.specs.Grammar.{Grammar}
use Rattle.picky_wire_base.specs.declared.view.Part.{Part}
use Rattle.picky_wire_base.specs.declared.view.Word.{Word}
use Rattle.picky_wire_base.specs.declared.view.Stuck.{Stuck}
use Rattle.picky_wire_base.specs.declared.view.Stuck.TheVariants as stucks
use Rattle.picky_wire_base.specs.declared.stopped.Stopped.{Stopped}

-- what is wrong with a field, in the words of layouts
abbrev pub why_of : Stuck → Why
why_of stucks.Short = Flawed Short
why_of stucks.NotUtf8 = Flawed NotUtf8
why_of (stucks.Name name) = Name name.bytes.now
why_of stucks.Length = Length
why_of (stucks.Number n) = Number n

-- a layout's reason without the place of the field
abbrev pub why_in : Reason → Why
why_in reason = reason.1

-- what a part, a word and a refusal show: the bytes with their places
abbrev pub part_shown : Part → ℕ × List ℕ
part_shown part = (part.at, part.bytes.now)

abbrev pub word_shown : Word → (ℕ × List ℕ) × List ℕ
word_shown word = (part_shown word.part, word.text.now)

abbrev pub stuck_shown : Stuck → Why × ℕ
stuck_shown (stucks.Name name) = (Name name.bytes.now, name.at)
stuck_shown stucks.Short = (Flawed Short, 0)
stuck_shown stucks.NotUtf8 = (Flawed NotUtf8, 0)
stuck_shown stucks.Length = (Length, 0)
stuck_shown (stucks.Number n) = (Number n, 0)

-- the bytes of a part
abbrev pub part_bytes : Part → List ℕ
part_bytes part = part.bytes.now

-- the bytes of a word
abbrev pub word_bytes : Word → List ℕ
word_bytes word = word.part.bytes.now

-- where the bytes of the value that stands at a place end, or those of the field that is refused
abbrev pub end_of : {E A : Type 0} → Grammar E A → List ℕ → ℕ → ℕ
end_of layout blob from = from + layout.used (drop from blob)

-- the part ends at this place, and its bytes are those that stand there in the buffer
pub record Lies (blob : List ℕ) (end : ℕ) (part : Part) : Type 0 where
  pub ends : part.at + length part.bytes.now ≡ end
  pub within : end ≤ length blob
  pub are : part.bytes.now ≡ take (length part.bytes.now) (drop part.at blob)

-- so does the word's part, and its text is the part's bytes
abbrev pub WordLies : List ℕ → ℕ → Word → Type 0
WordLies blob end word = Lies blob end word.part × (word.text.now ≡ word.part.bytes.now)

-- the layout reads what is shown before what stands at the next place, or refuses with that reason
abbrev pub Sees : {X A E : Type 0} → (X → A) → (E → Why) → Grammar E A → List ℕ → ℕ
    → Result (X × ℕ) Stuck → Type 0
Sees shows why layout blob from (Ok (x, next)) =
    layout.read (drop from blob) ≡ Ok (shows x, drop next blob)
Sees shows why layout blob from (Err stuck) =
    map_err why (layout.read (drop from blob)) ≡ Err (why_of stuck)

-- what was seen lies in the buffer, and the next place is the end of it; a name that is refused ends there too
abbrev pub Places : {X : Type 0} → (X → Type 0) → List ℕ → ℕ → Result (X × ℕ) Stuck → Type 0
Places lies blob end (Ok (x, next)) = lies x × (next ≡ end) × (next ≤ length blob)
Places lies blob end (Err (stucks.Name name)) = Lies blob end name
Places lies blob end (Err stuck) = Unit {0}

-- what a call that reads a buffer at a place answers: what it saw, and the place after it
pub record Seen {X A E : Type 0} (shows : X → A) (lies : X → Type 0) (why : E → Why)
    (layout : Grammar E A) (blob : List ℕ) (from : ℕ) (result : Result (X × ℕ) Stuck) : Type 0 where
  pub sees : Sees shows why layout blob from result
  pub placed : Places lies blob (end_of layout blob from) result

-- ---- with the place of the field in its layout

-- the layout's reason: the place, and what is wrong there
abbrev pub reason_of : {P : Type 0} → Stopped P → P × Why
reason_of stopped = (stopped.place, why_of stopped.stuck)

-- what is wrong there, without the place
abbrev pub stuck_of : {P : Type 0} → Stopped P → Stuck
stuck_of stopped = stopped.stuck

-- what a stop shows
abbrev pub stopped_shown : {P : Type 0} → Stopped P → P × (Why × ℕ)
stopped_shown stopped = (stopped.place, stuck_shown stopped.stuck)

-- the layout reads what is shown before what stands at the next place, or refuses with that very reason
abbrev pub SeesAt : {X A P : Type 0} → (X → A) → Grammar (P × Why) A → List ℕ → ℕ
    → Result (X × ℕ) (Stopped P) → Type 0
SeesAt shows layout blob from (Ok (x, next)) = layout.read (drop from blob) ≡ Ok (shows x, drop next blob)
SeesAt shows layout blob from (Err stopped) = layout.read (drop from blob) ≡ Err (reason_of stopped)

-- what a call that reads a buffer at a place answers, and the place in the layout at which it stops
pub record SeenAt {X A P : Type 0} (shows : X → A) (lies : X → Type 0) (layout : Grammar (P × Why) A)
    (blob : List ℕ) (from : ℕ) (result : Result (X × ℕ) (Stopped P)) : Type 0 where
  pub sees : SeesAt shows layout blob from result
  pub placed : Places lies blob (end_of layout blob from) (map_err stuck_of result)
