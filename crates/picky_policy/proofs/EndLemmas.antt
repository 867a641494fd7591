-- How a run ends, status by status.
use Rattle.std.proofs.Common.{◌≡◌, ◌⊎◌, ℕ, List, Ok, Err, refl, inl, inr}
use Rattle.picky_policy.specs.Command.{Asked}
use Rattle.picky_policy.specs.Run.{Ends, IsDone, IsOutsideFault, WritesAnswer, offered}
use Rattle.picky_policy.specs.Verifies.{VerifyRelation}
use Rattle.picky_policy.specs.declared.offer.Offer.{Offer}
use Rattle.picky_policy.specs.declared.status.PolicyStatus.{PolicyStatus}
use Rattle.picky_policy.specs.declared.status.PolicyStatus.TheVariants as statuses

module _ (verifies : VerifyRelation) (asked : Asked) (input : List ℕ) (read_rose rose write_rose tells : Type 0)
    (before after : List ℕ) where
  pub ends_done : (status : PolicyStatus) → IsDone status
      → Ends verifies asked input read_rose rose write_rose tells before after status → tells
      → WritesAnswer verifies asked input status before after
  ends_done statuses.Granted done (text, gives, written) told = record { text = text; gives = gives; written = written told }
  ends_done statuses.Denied done (text, gives, written) told = record { text = text; gives = gives; written = written told }
  ends_done statuses.Message done (text, gives, written) told = record { text = text; gives = gives; written = written told }
  ends_done status done ends told = absurd done

  -- where there is no offer, and the source didn't fail, its status is the end, or memory ran out
  pub exact_end : (status : PolicyStatus) (why : PolicyStatus)
      → Ends verifies asked input read_rose rose write_rose tells before after status → (read_rose → ⊥)
      → offered input ≡ Err why → (status ≡ why) ⊎ (status ≡ statuses.NoMemory)
  exact_end statuses.WriteFault why ends read none = absurd (cc (ends.3.offered, none))
  exact_end statuses.Usage why ends read none = absurd ends
  exact_end statuses.NoMemory why ends read none = inr refl
  exact_end statuses.ReadFault why ends read none = absurd (read ends)
  exact_end statuses.OutsideFault why ends read none = absurd (cc (ends.offered, none))
  exact_end statuses.BadOffer why ends read none = inl (cc (ends, none))
  exact_end statuses.InputTooLong why ends read none = inl (cc (ends, none))
  exact_end statuses.InputNotUtf8 why ends read none = inl (cc (ends, none))
  exact_end statuses.Granted why ends read none = absurd (cc (ends.1.offered, none))
  exact_end statuses.Denied why ends read none = absurd (cc (ends.1.offered, none))
  exact_end statuses.Message why ends read none = absurd (cc (ends.1.offered, none))

  -- where there is one, and nothing failed, the end is done, or memory ran out
  pub complete_end : (status : PolicyStatus) (offer : Offer)
      → Ends verifies asked input read_rose rose write_rose tells before after status → (read_rose → ⊥) → (write_rose → ⊥)
      → (IsOutsideFault asked input rose → ⊥) → offered input ≡ Ok offer → IsDone status ⊎ (status ≡ statuses.NoMemory)
  complete_end statuses.WriteFault offer ends read write outside is = absurd (write ends.0)
  complete_end statuses.Usage offer ends read write outside is = absurd ends
  complete_end statuses.NoMemory offer ends read write outside is = inr refl
  complete_end statuses.ReadFault offer ends read write outside is = absurd (read ends)
  complete_end statuses.OutsideFault offer ends read write outside is = absurd (outside ends)
  complete_end statuses.BadOffer offer ends read write outside is = absurd (cc (ends, is))
  complete_end statuses.InputTooLong offer ends read write outside is = absurd (cc (ends, is))
  complete_end statuses.InputNotUtf8 offer ends read write outside is = absurd (cc (ends, is))
  complete_end statuses.Granted offer ends read write outside is = inl tt
  complete_end statuses.Denied offer ends read write outside is = inl tt
  complete_end statuses.Message offer ends read write outside is = inl tt
