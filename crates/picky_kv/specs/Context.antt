-- Steps that may be refused, one after another.
use Rattle.std.specs.Prelude.{ℕ, List, Option, Some, None, Result, Ok, Err}
use Rattle.picky_kv.specs.declared.error.KvError.{KvError}
use Rattle.picky_kv.specs.declared.error.KvError.TheVariants as kv
use Rattle.picky_kv_words.specs.declared.error.PpkValueError.{PpkValueError}
use Rattle.picky_kv_words.specs.declared.error.PpkValueError.TheVariants as value

-- a step that gives a value or this refusal, and the steps after it
abbrev pub need : {A B : Type 0} → KvError → Option A → (A → Result B KvError) → Result B KvError
need e (Some v) next = next v
need e None next = Err e

-- the refusal of a text, with the name of the type of its line's key
abbrev pub refusal_in : List ℕ → PpkValueError → KvError
refusal_in context (value.Parsing p) = kv.InvalidInput context p.expected p.actual
refusal_in context value.TooLong = kv.TooLong
refusal_in context value.NoMemory = kv.NoMemory

-- the answer for a text, in a line with such a key
abbrev pub in_context : {A : Type 0} → List ℕ → Result A PpkValueError → Result A KvError
in_context context (Ok v) = Ok v
in_context context (Err e) = Err (refusal_in context e)
