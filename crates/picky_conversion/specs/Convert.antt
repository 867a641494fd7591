-- The conversion to a key's text: what is written for what a key text means, the order in which it is refused, and when a
-- suite is asked.
use Rattle.std.specs.Prelude.{◌≡◌, ◌⊎◌, ◌||◌, List, ℕ, Bool, false, Result, Ok, Err}
use Rattle.picky_wire_base.specs.Outcome.{and_then, map_err}
use Rattle.picky_suite.specs.Failures.{IsAskedFault}
use Rattle.picky_suite.specs.Meanings.{Meanings}
use Rattle.picky_wire.specs.Count.{Rose}
use Rattle.picky_key_text.specs.declared.error.ReadError.{ReadError}
use Rattle.picky_key_text.specs.declared.meaning.Meaning.{Meaning}
use Rattle.picky_key_text.specs.Order.{asks, fault_of as input_fault, reading}
use Rattle.picky_key_text.specs.Reads.{Reads}
use Rattle.picky_target.specs.declared.error.ConvertError.{ConvertError}
use Rattle.picky_target.specs.declared.error.ConvertError.TheVariants as errors
use Rattle.picky_target.specs.declared.target.KeyTarget.{KeyTarget}
use Rattle.picky_target.specs.Carried.{Carries}
use Rattle.picky_target.specs.ReadBack.{kept}
use Rattle.picky_target.specs.Texts.{Spells}
use Rattle.picky_target.specs.Written.{target_fault, written, writing_asks}
use Rattle.picky_conversion.specs.Made.{AnswersPlain}
use Rattle.picky_conversion.specs.Outside.{Outside, reader, reader_back}
use Rattle.picky_conversion.specs.Want.{IsFault}

-- the text that is written for a key text, or the first reason why none is
unfoldable pub conversion : Outside → KeyTarget → List ℕ → Result (List ℕ) ConvertError
conversion o target input =
    and_then (map_err errors.Input (reading (reader o) input)) (written o.meanings o.output target)

-- ---- a conversion's text

-- the text is the one that spells the one thing that the key text means, and it is read back
pub record IsConversion (o : Outside) (target : KeyTarget) (input text : List ℕ) : Type 0 where
  pub meaning : Meaning
  pub reads : Reads (reader o) input meaning
  pub one : (other : Meaning) → Reads (reader o) input other → other ≡ meaning
  pub carries : Carries o.output target meaning
  pub spells : Spells o.meanings o.output target meaning text
  pub only : (other : List ℕ) → Spells o.meanings o.output target meaning other → other ≡ text
  pub read_back : Reads (reader_back o) text (kept target meaning)

-- ---- the suite

-- it is asked to seal what a key text means
abbrev pub asks_for : Outside → KeyTarget → Result Meaning ReadError → Bool
asks_for o target (Ok meaning) = writing_asks o.output target meaning
asks_for o target (Err e) = false

unfoldable pub asks_to_write : Outside → KeyTarget → List ℕ → Bool
asks_to_write o target input = asks_for o target (reading (reader o) input)

-- it is asked to open the key text, or to seal what is written
unfoldable pub converting_asks : Outside → KeyTarget → List ℕ → Bool
converting_asks o target input = asks o.pass_in input || asks_to_write o target input

-- the refusal is its fault: in reading the key text or in writing, where it was asked and counted one
abbrev pub IsFaultOf : Outside → KeyTarget → List ℕ → ConvertError → Type 0 → Type 0
IsFaultOf o target input e rose =
    ((e ≡ errors.Input (input_fault input)) × IsAskedFault (asks o.pass_in input) rose)
    ⊎ ((e ≡ target_fault target) × IsAskedFault (asks_to_write o target input) rose)

-- what the conversion to a key's text answers: it, or the first reason; in its place want of memory may come, or the suite's
-- fault
abbrev pub AnswersKeyText : {X : Type 0} → (X → List ℕ) → Outside → KeyTarget → List ℕ → Type 0
    → Result X ConvertError → Type 0
AnswersKeyText view o target input rose result =
    AnswersPlain view (conversion o target input) (λ e. IsFaultOf o target input e rose) result

-- what the suite's calls mean stays; the count rises exactly where a fault is answered; a suite that isn't asked is as it was
pub record LeavesAskedSuite {S A : Type 0} (meanings : S → Meanings) (faults : S → ℕ) (asked : Bool)
    (result : Result A ConvertError) (old new : S) : Type 0 where
  pub kept : meanings new ≡ meanings old
  pub counted : (e : ConvertError) → result ≡ Err e → IsFault e → Rose (faults old) (faults new)
  pub calm : ((e : ConvertError) → result ≡ Err e → IsFault e → ⊥) → faults new ≡ faults old
  pub unasked : asked ≡ false → new ≡ old
