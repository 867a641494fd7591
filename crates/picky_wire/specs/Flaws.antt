-- What is wrong with a field or a layout, as the errors of the calls that read it.
use Rattle.std.specs.Prelude.{ℕ, List, Option, Result}
use Rattle.picky_wire_base.specs.Flaw.{Flaw, Short, NotUtf8, Big}
use Rattle.picky_wire_base.specs.Grammar.{Grammar}
use Rattle.picky_wire_base.specs.Combine.{tag}
use Rattle.picky_wire.specs.declared.error.WireError.{WireError}
use Rattle.picky_wire.specs.declared.error.WireError.TheVariants as errors
use Rattle.picky_wire.specs.declared.stop.Stop.{Stop}
use Rattle.picky_wire.specs.declared.stop.Stop.TheVariants as stops
use Rattle.picky_wire.specs.Unread.{Unread}
use Rattle.picky_wire.specs.Takes.{HasCause, StopsShort, Causes, causes_of, Takes}

-- the error that says what is wrong with a field by itself
abbrev pub wire_error : Flaw → WireError
wire_error Short = errors.UnexpectedEnd
wire_error NotUtf8 = errors.InvalidUtf8
wire_error Big = errors.TooLong

abbrev pub wire_causes : Causes WireError
wire_causes = causes_of (λ e. e)

-- a field that is read with the wire's errors
abbrev pub TakesField : {S A : Type 0} → (S → Type 0) → (S → List ℕ) → (S → Option ℕ) → (S → ℕ)
    → Grammar Flaw A → Result A WireError → S → S → Type 0
TakesField tells left known faults field result old new =
    Takes tells left known faults wire_causes (tag wire_error field).read field.used result old new

-- ---- where the readers of layouts stop, whatever the layer: the place is forgotten, and so is the value of
-- a name or a number

abbrev pub flaw_stop : Flaw → Stop
flaw_stop Short = stops.Short
flaw_stop NotUtf8 = stops.NotUtf8
flaw_stop Big = stops.TooLong

abbrev pub stop_causes : Causes Stop
stop_causes = record { fault = stops.Fault; no_memory = stops.NoMemory; short = stops.Short }

-- the stop of a field that is read by itself
abbrev pub wire_stop : WireError → Stop
wire_stop errors.UnexpectedEnd = stops.Short
wire_stop errors.ReadFault = stops.Fault
wire_stop errors.WriteFault = stops.Fault
wire_stop errors.InvalidUtf8 = stops.NotUtf8
wire_stop errors.TooLong = stops.TooLong
wire_stop errors.NoMemory = stops.NoMemory

-- a layout, or a field of one, that is read with stops
abbrev pub TakesLayout : {S A E : Type 0} → (S → Type 0) → (S → List ℕ) → (S → Option ℕ) → (S → ℕ)
    → (E → Stop) → Grammar E A → Result A Stop → S → S → Type 0
TakesLayout tells left known faults stop_at layout result old new =
    Takes tells left known faults stop_causes (tag stop_at layout).read layout.used result old new

-- the same of a field that is read by itself: what a string leaves unread, and why it is refused. Layouts are
-- read by what their fields take alone, so these words stay closed there
unfoldable pub StopsUnread : {S A : Type 0} → (S → Type 0) → (S → List ℕ) → (S → Option ℕ) → Result A Stop → S → S
    → Type 0
StopsUnread tells left known result old new = Unread tells left known stop_causes result old new

unfoldable pub StopHasCause : {A : Type 0} → Grammar Flaw A → Type 0 → Stop → Type 0
StopHasCause field fault stop = HasCause stop_causes (tag flaw_stop field).read fault stop

unfoldable pub StopIsShort : Type 0 → Stop → Type 0
StopIsShort fault stop = StopsShort stop_causes fault stop
