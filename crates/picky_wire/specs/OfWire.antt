-- The wire's errors in the words of another type of errors, each in a place of its own.
use Rattle.std.specs.Prelude.{◌≢◌}
use Rattle.picky_wire.specs.declared.error.WireError.{WireError}
use Rattle.picky_wire.specs.declared.error.WireError.TheVariants as errors
use Rattle.picky_wire.specs.declared.error.IoKind.{IoKind}
use Rattle.picky_wire.specs.declared.error.IoKind.TheVariants as kinds

-- the error that says what the wire's error says, of a type that has one for each kind of input and output, and three more
abbrev pub said_as : {E : Type 0} → (IoKind → E) → (not_utf8 too_long no_memory : E) → WireError → E
said_as io not_utf8 too_long no_memory errors.UnexpectedEnd = io kinds.UnexpectedEnd
said_as io not_utf8 too_long no_memory errors.ReadFault = io kinds.ReadFault
said_as io not_utf8 too_long no_memory errors.WriteFault = io kinds.WriteFault
said_as io not_utf8 too_long no_memory errors.InvalidUtf8 = not_utf8
said_as io not_utf8 too_long no_memory errors.TooLong = too_long
said_as io not_utf8 too_long no_memory errors.NoMemory = no_memory

-- bytes are refused with the error: it is no fault of a source and no want of memory
abbrev pub IsErrorOfBytes : {E : Type 0} → (WireError → E) → E → Type 0
IsErrorOfBytes of e = (e ≢ of errors.ReadFault) × (e ≢ of errors.NoMemory)
