-- The offer of a source's bytes, or why they have none.
use Rattle.std.proofs.Common.{◌≡◌, ◌↔◌, ◌<◌, ◌≤◌, ℕ, List, length}
use Rattle.std.proofs.Common.{Result, Ok, Err, refl, sym, ◌∙◌, ap, inl, inr}
use Rattle.std.specs.Str.{IsUtf8}
use Rattle.picky_wire_base.specs.Outcome.{and_then, map_err}
use Rattle.picky_input.specs.Input.{input_limit}
use Rattle.picky_input.specs.SourceText.{IsSourceText, source_text_of}
use Rattle.picky_input.specs.declared.source_text.SourceError.{SourceError}
use Rattle.picky_input.specs.declared.source_text.SourceError.TheVariants as source
use Rattle.picky_input.proofs.TextLaws.{is_source_text, no_text_exactly, source_text_is, text_err, too_long_exactly}
use Rattle.picky_key_text.specs.declared.error.ReadError.{ReadError}
use Rattle.picky_policy.specs.Offer.{offer_in}
use Rattle.picky_policy.specs.Run.{bad_offer, offer_part, offered, offered_in, source_status}
use Rattle.picky_policy.specs.declared.offer.Offer.{Offer}
use Rattle.picky_policy.specs.declared.status.PolicyStatus.{PolicyStatus}
use Rattle.picky_policy.specs.declared.status.PolicyStatus.TheVariants as statuses

pub offered_of : (input text : List ℕ) → source_text_of input ≡ Ok text → offered input ≡ offered_in text
unfolding offered
offered_of input text is = ap (λ t. and_then (map_err source_status t) offered_in) is

pub offered_without : (input : List ℕ) (e : SourceError) → source_text_of input ≡ Err e → offered input ≡ Err (source_status e)
unfolding offered
offered_without input e is = ap (λ t. and_then (map_err source_status t) offered_in) is

-- why there is none
pub data NoOffer (input : List ℕ) (status : PolicyStatus) : Type 0 where
  TooLong : input_limit < length input → status ≡ statuses.InputTooLong → NoOffer input status
  NoText : (length input ≤ input_limit) × (IsUtf8 input → ⊥) → status ≡ statuses.InputNotUtf8 → NoOffer input status
  Bad : IsSourceText input → (e : ReadError) → offer_in (offer_part input) ≡ Err e → status ≡ statuses.BadOffer
      → NoOffer input status

bad_text : (input text : List ℕ) (status : PolicyStatus) (read : Result Offer ReadError) → IsSourceText input → text ≡ input
    → offer_in (offer_part text) ≡ read → map_err bad_offer read ≡ Err status → NoOffer input status
bad_text input text status (Ok offer) short same says is = cc is
bad_text input text status (Err e) short same says is =
    Bad short e (ap (λ t. offer_in (offer_part t)) (sym same) ∙ says) (cc is)

pub no_offer : (input : List ℕ) (status : PolicyStatus) → offered input ≡ Err status → NoOffer input status
no_offer input status failed = go (source_text_of input) refl
  where
    go : (text : Result (List ℕ) SourceError) → source_text_of input ≡ text → NoOffer input status
    go (Ok text) says =
        bad_text input text status (offer_in (offer_part text)) (is_source_text input text says).0
        (is_source_text input text says).1 refl
        (sym (offered_of input text says) ∙ failed)
    go (Err e) says =
        let same : source_status e ≡ status = cc (sym (offered_without input e says) ∙ failed) in
        elim (text_err input e says) [
          | inl long ↦ TooLong ((too_long_exactly input).0 (says ∙ ap Err long)) (sym same ∙ ap source_status long)
          | inr other ↦ NoText ((no_text_exactly input).0 (says ∙ ap Err other)) (sym same ∙ ap source_status other)
        ]

-- ---- each status, exactly

pub refused_too_long : (input : List ℕ) → (offered input ≡ Err statuses.InputTooLong) ↔ (input_limit < length input)
refused_too_long input = (
  λ is. elim (no_offer input statuses.InputTooLong is) [
    | TooLong long same ↦ long
    | NoText none same ↦ absurd (cc same)
    | Bad short e says same ↦ absurd (cc same)
  ],
  λ long. offered_without input source.InputTooLong ((too_long_exactly input).1 long),
)

pub refused_no_text : (input : List ℕ)
    → (offered input ≡ Err statuses.InputNotUtf8) ↔ ((length input ≤ input_limit) × (IsUtf8 input → ⊥))
refused_no_text input = (
  λ is. elim (no_offer input statuses.InputNotUtf8 is) [
    | TooLong long same ↦ absurd (cc same)
    | NoText none same ↦ none
    | Bad short e says same ↦ absurd (cc same)
  ],
  λ none. offered_without input source.InputNotUtf8 ((no_text_exactly input).1 none),
)

pub refused_bad : (input : List ℕ)
    → (offered input ≡ Err statuses.BadOffer) ↔ (IsSourceText input × (e : ReadError) × (offer_in (offer_part input) ≡ Err e))
refused_bad input = (
  λ is. elim (no_offer input statuses.BadOffer is) [
    | TooLong long same ↦ absurd (cc same)
    | NoText none same ↦ absurd (cc same)
    | Bad short e says same ↦ (short, e, says)
  ],
  λ bad. offered_of input input (source_text_is input input (bad.0, refl)) ∙ ap (map_err bad_offer) bad.2,
)
