-- What a decision says of who is let in.
use Rattle.std.proofs.Common.{◌≡◌, ℕ, Bool, true, false, List, Result, Ok, Err, ap, if◌then◌else◌}
use Rattle.picky.specs.Decided.{Accepts, Allows, IsDecision, IsDecisionBy, decided}
use Rattle.picky.specs.Entries.{entries_in, keys_in}
use Rattle.picky.specs.SshPublicLineRefusal.{is_short}
use Rattle.picky.specs.Verifies.{VerifyRelation}
use Rattle.picky.specs.declared.policy.AuthEntry.{AuthEntry}
use Rattle.picky.specs.declared.policy.DecideError.{DecideError}
use Rattle.picky.specs.declared.policy.Decision.{Decision}
use Rattle.picky.specs.declared.policy.Decision.TheVariants as decisions
use Rattle.picky.specs.declared.policy.Denial.{Denial}
use Rattle.picky.specs.declared.policy.Grant.{Grant}
use Rattle.picky.specs.declared.policy.Offer.{Offer}
use Rattle.picky.specs.declared.policy.PolicyError.{PolicyError}
use Rattle.picky.specs.declared.wire.Timestamp.{Timestamp}

chosen : (short : Bool) (entries given : List AuthEntry) (e : PolicyError) → (if short then Ok entries else Err e) ≡ Ok given → entries ≡ given
chosen true entries given e is = cc is
chosen false entries given e is = absurd (cc is)

-- what is read is the entries of the text
pub read_entries : (text : List ℕ) (given : List AuthEntry) → keys_in text ≡ Ok given → entries_in text ≡ given
read_entries text given is = chosen (is_short text) (entries_in text) given _ is

abbrev pub answered : Decision → Result Decision DecideError
answered decision = Ok decision

pub decision_is : (verifies : VerifyRelation) (entries : List AuthEntry) (offer : Offer) (user : List ℕ) (moment : Timestamp)
    (decision : Decision) → IsDecisionBy (Accepts verifies offer) (decided entries offer user moment) decision
    → ((grant : Grant) → answered decision ≡ Ok (decisions.Granted grant) → Allows verifies entries offer user moment grant)
    → ((why : Denial) (grant : Grant) → answered decision ≡ Ok (decisions.Denied why)
    → Allows verifies entries offer user moment grant → ⊥)
    → IsDecision verifies entries offer user moment decision
decision_is verifies entries offer user moment decision decides granted denied = record {
  answers = decides;
  granted = λ grant is. granted grant (ap Ok is);
  denied = λ why grant is. denied why grant (ap Ok is);
}
