-- What a suite is that answers by a table, and what its calls leave. The table is the record of a run: its entries are used in
-- their order, and a question that was asked before is answered again from where it stands.
use Rattle.std.specs.Prelude.{◌≡◌, ◌⊎◌, ◌<◌, ◌≤◌, ◌+◌, ◌^◌, List, ℕ, Option, None, Some, Result, Ok, Err, OnOk, OnErr, length, max}
use Rattle.picky_wire.specs.Count.{count_one}
use Rattle.picky_ask.specs.declared.missing.Missing.{Missing}
use Rattle.picky_ask.specs.declared.missing.Missing.TheVariants as missings
use Rattle.picky_ask.specs.declared.question.Question.{Question}
use Rattle.picky_ask.specs.declared.question.Entry.{Entry}
use Rattle.picky_ask.specs.Head.{IsHead}
use Rattle.picky_ask.specs.Cause.{HasCause}
use Rattle.picky_ask.specs.Lookup.{place_of}

-- its table, how many of the entries were used, why the last call that failed has no answer, and how many calls failed
pub record State : Type 0 where
  pub entries : List Entry
  pub used : ℕ
  pub missing : Option Missing
  pub faults : ℕ

-- the suite of a table, before any call
abbrev pub fresh : List Entry → State
fresh entries = record { entries = entries; used = 0; missing = None; faults = 0 }

-- one for a reason that is kept
abbrev pub one_if : Option Missing → ℕ
one_if None = 0
one_if (Some missing) = 1

-- how often it was asked, at least: once for each entry that was used, and once for the call that failed
abbrev pub calls_made : State → ℕ
calls_made s = s.used + one_if s.missing

-- what every such suite keeps: the table is its caller's, where that is told; no more entries were used than there are; the table
-- has the cause of the reason, and a question is asked behind its last entry; and while nothing is missing, no call has failed
pub record IsState (told : Option (List Entry)) (s : State) : Type 0 where
  pub table : (entries : List Entry) → told ≡ Some entries → s.entries ≡ entries
  pub within : s.used ≤ length s.entries
  pub cause : (reason : Missing) → s.missing ≡ Some reason → HasCause reason s.entries
  pub last : (q : Question) → s.missing ≡ Some (missings.Asked q) → s.used ≡ length s.entries
  pub calm : s.missing ≡ None → s.faults ≡ 0

-- the entries up to the question's are used
abbrev pub used_up : Question → State → State
used_up q s = record s { used = max s.used (place_of q s.entries + 1) }

-- the call failed for this reason, which is kept, and counted it; the rest stays
abbrev pub FailsFor : Missing → (old new : State) → Type 0
FailsFor missing old new = new ≡ record old { missing = Some missing; faults = count_one old.faults }

-- each argument, and the text, has fewer than 2^32 bytes; else no bytes say the question
abbrev pub IsShort : Question → Type 0
IsShort q = IsHead q.head × (length q.text < 2 ^ 32)

abbrev pub IsTooLong : Question → Type 0
IsTooLong q = IsShort q → ⊥

-- why a question that is to be asked can't be: want of memory, or it is too long
abbrev pub IsUnasked : Question → Missing → Type 0
IsUnasked q missings.NoMemory = IsShort q
IsUnasked q missings.TooLong = IsTooLong q
IsUnasked q reason = ⊥

-- the reason is what the call says; or the question is to be asked, and can't be
abbrev pub IsReason : Question → (says : Result (List ℕ) Missing) → Missing → Type 0
IsReason q says reason = (says ≡ Err reason) ⊎ ((says ≡ Err (missings.Asked q)) × IsUnasked q reason)

pub record HasReason (q : Question) (says : Result (List ℕ) Missing) (old new : State) : Type 0 where
  pub reason : Missing
  pub is : IsReason q says reason
  pub fails : FailsFor reason old new

-- what a call promises that looks up the answer to a question: an Ok fills the buffer with what the call says, and has used the
-- entries up to it; a failure has a reason
pub record LooksUp {A E : Type 0} (q : Question) (says : Result (List ℕ) Missing) (result : Result A E) (filled : List ℕ)
    (old new : State) : Type 0 where
  pub value : OnOk result (says ≡ Ok filled)
  pub moved : OnOk result (new ≡ used_up q old)
  pub failed : OnErr result (HasReason q says old new)
