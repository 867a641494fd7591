-- What is decided by a verifier, where another relation gives the same signatures.
use Rattle.std.proofs.Common.{ℕ, Bool, List, ap}
use Rattle.std.specs.Prelude.{◌↔◌, Result, Ok, Err, IfOk}
use Rattle.picky_wire.specs.declared.timestamp.Timestamp.{Timestamp}
use Rattle.picky_authorized.specs.declared.entry.AuthEntry.{AuthEntry}
use Rattle.picky_policy.specs.Decided.{Accepts, Allows, Decides, IsDecision, IsDecisionBy, decided}
use Rattle.picky_policy.specs.Verifies.{KeepsVerified, VerifyRelation}
use Rattle.picky_policy.specs.declared.decision.Decision.{Decision}
use Rattle.picky_policy.specs.declared.decision.Decision.TheVariants as decisions
use Rattle.picky_policy.specs.declared.decision.Denial.{Denial}
use Rattle.picky_policy.specs.declared.decision.Grant.{Grant}
use Rattle.picky_policy.specs.declared.offer.Offer.{Offer}
use Rattle.picky_policy.specs.declared.offer.Offer.TheVariants as offers
use Rattle.picky_policy.proofs.DecideLemmas.{granted_so, denied_so}

accepts_same : (one other : VerifyRelation) → KeepsVerified one other → (offer : Offer) → Accepts other offer ↔ Accepts one offer
accepts_same one other same (offers.Key key) = (λ is. is, λ is. is)
accepts_same one other same (offers.Certificate c message) = same c.signature_key.inner_key c.signature message

by_same : (one other : Type 0) → other ↔ one → (says : Result Grant Denial) (decision : Decision) → IsDecisionBy one says decision
    → IsDecisionBy other says decision
by_same one other same (Ok grant) (decisions.Granted given) is = (is.0, same.1 is.1)
by_same one other same (Ok grant) (decisions.Denied why) is = (is.0, λ accepts. is.1 (same.0 accepts))
by_same one other same (Err why) (decisions.Granted given) is = is
by_same one other same (Err why) (decisions.Denied denial) is = is

allows_same : (one other : VerifyRelation) → KeepsVerified one other → (entries : List AuthEntry) (offer : Offer) (user : List ℕ)
    (moment : Timestamp) (grant : Grant)
    → Allows other entries offer user moment grant ↔ Allows one entries offer user moment grant
allows_same one other same entries (offers.Key key) user moment grant = (λ is. is, λ is. is)
allows_same one other same entries (offers.Certificate c message) user moment grant =
    let good = same c.signature_key.inner_key c.signature message in (
      λ is. (is.0, is.1, is.2, is.3, good.0 is.4, is.5),
      λ is. (is.0, is.1, is.2, is.3, good.1 is.4, is.5),
    )

-- what is a decision by one relation is one by another that calls the same signatures good
pub decision_same : (one other : VerifyRelation) → KeepsVerified one other → (entries : List AuthEntry) (offer : Offer)
    (user : List ℕ) (moment : Timestamp) (decision : Decision) → IsDecision one entries offer user moment decision
    → IsDecision other entries offer user moment decision
decision_same one other same entries offer user moment decision is = record {
  answers = by_same (Accepts one offer) (Accepts other offer) (accepts_same one other same offer)
      (decided entries offer user moment) decision is.answers;
  granted = λ grant so. (allows_same one other same entries offer user moment grant).1 (is.granted grant so);
  denied = λ why grant so allows.
      is.denied why grant so ((allows_same one other same entries offer user moment grant).0 allows);
}

-- what is answered is a decision
pub decision_so : (verifies : VerifyRelation) (entries : List AuthEntry) (offer : Offer) (user : List ℕ) (moment : Timestamp)
    (asked : Bool) (rose : Type 0) (decision : Decision)
    → Decides (Accepts verifies offer) (decided entries offer user moment) asked rose (Ok decision)
    → IsDecision verifies entries offer user moment decision
decision_so verifies entries offer user moment asked rose decision decides = record {
  answers = decides;
  granted = λ grant is. granted_so verifies entries user moment offer asked rose (Ok decision) grant decides
      (ap (λ (d : Decision). Ok d) is);
  denied = λ why grant is. denied_so verifies entries user moment offer asked rose (Ok decision) why grant decides
      (ap (λ (d : Decision). Ok d) is);
}

pub decided_same : {E : Type 0} (one other : VerifyRelation) → KeepsVerified one other → (entries : List AuthEntry) (offer : Offer)
    (user : List ℕ) (moment : Timestamp) (result : Result Decision E)
    → IfOk result (λ decision. IsDecision one entries offer user moment decision)
    → IfOk result (λ decision. IsDecision other entries offer user moment decision)
decided_same one other same entries offer user moment (Ok decision) is =
    decision_same one other same entries offer user moment decision is
decided_same one other same entries offer user moment (Err e) is = tt
