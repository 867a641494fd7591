-- A text that isn't encrypted is read without a passphrase, which asks no suite.
use Rattle.std.specs.Prelude.{◌≡◌, ◌⊎◌, List, ℕ, true, false, None, Result, Ok, Err}
use Rattle.std.proofs.Common.{◌∙◌, ap, inl, inr, sym}
use Rattle.picky_wire_base.specs.Outcome.{map_ok}
use Rattle.picky_suite.specs.Asked.{LeavesSuite}
use Rattle.picky_suite.specs.Failures.{IsAskedFault}
use Rattle.picky_suite.specs.Meanings.{Meanings}
use Rattle.picky_key_text.specs.Order.{asks, reading}
use Rattle.picky_key_text.specs.declared.error.ReadError.{ReadError}
use Rattle.picky_key_text.specs.declared.error.ReadError.TheVariants as errors
use Rattle.picky_key_text.specs.declared.meaning.Meaning.{Meaning}
use Rattle.picky_key_text.proofs.UnaskedLaws.{unasked}
use Rattle.picky_shown.specs.Shown.{meaning_shown, open_shows}

-- what is read is shown
pub open_is_shown : (m : Meanings) (text : List ℕ) (meaning : Meaning)
    → reading (record { meanings = m; pass = None }) text ≡ Ok meaning → open_shows m text ≡ Ok (meaning_shown meaning)
open_is_shown m text meaning is = ap (map_ok meaning_shown) is

-- what isn't read is refused, and never for the suite
pub open_is_refused : (m : Meanings) (text : List ℕ) (e fault : ReadError) (rose : Type 0)
    → (e ≡ errors.NoMemory) ⊎ ((e ≡ fault) × IsAskedFault (asks None text) rose)
    ⊎ (reading (record { meanings = m; pass = None }) text ≡ Err e)
    → (e ≡ errors.NoMemory) ⊎ (open_shows m text ≡ Err e)
open_is_refused m text e fault rose (inl want) = inl want
open_is_refused m text e fault rose (inr (inl asked)) =
    let never : true ≡ false = sym asked.1.0 ∙ unasked text in cc never
open_is_refused m text e fault rose (inr (inr refused)) = inr (ap (map_ok meaning_shown) refused)

-- the suite stays
pub open_leaves : {S A : Type 0} (meanings : S → Meanings) (faults : S → ℕ) (fault : ReadError) (result : Result A ReadError)
    (text : List ℕ) (old new : S) → LeavesSuite meanings faults fault (asks None text) result old new → new ≡ old
open_leaves meanings faults fault result text old new leaves = leaves.unasked (unasked text)

pub ruleset open_texts = (open_is_shown, open_is_refused, open_leaves)
