-- Why a login isn't decided.
use Rattle.std.specs.Prelude.{◌≡◌, ◌⊎◌, ℕ, List, Err}
use Rattle.picky.specs.Entries.{keys_in}
use Rattle.picky.specs.Offer.{offer_in}
use Rattle.picky.specs.declared.convert.ReadError.TheVariants as reads
use Rattle.picky.specs.declared.policy.DecideError.TheVariants as decides
use Rattle.picky.specs.declared.policy.PolicyError.TheVariants as keys
use Rattle.picky_callers.specs.declared.login.Undecided.{Undecided}
use Rattle.picky_callers.specs.declared.login.Undecided.TheVariants as causes

-- the text of keys or that of the offer is refused, the verifier's count rose, or memory ran out
abbrev pub IsUndecided : (authorized offer : List ℕ) → (rose : Type 0) → Undecided → Type 0
IsUndecided authorized offer rose (causes.Keys e) = (e ≡ keys.NoMemory) ⊎ (keys_in authorized ≡ Err e)
IsUndecided authorized offer rose (causes.Offer e) = (e ≡ reads.NoMemory) ⊎ (offer_in offer ≡ Err e)
IsUndecided authorized offer rose (causes.Decision e) = (e ≡ decides.NoMemory) ⊎ ((e ≡ decides.VerifierFault) × rose)
