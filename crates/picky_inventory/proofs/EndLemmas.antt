-- How a run ends, status by status.
use Rattle.std.proofs.Common.{◌≡◌, ◌↔◌, ◌<◌, ◌≤◌, ◌++◌, ℕ, List, length, Some}
use Rattle.std.proofs.Common.{Result, Ok, Err, refl, sym, ◌∙◌, ap, inl, inr, subst}
use Rattle.std.specs.Str.{IsUtf8}
use Rattle.picky_wire_base.specs.Outcome.{and_then, map_err}
use Rattle.picky_input.specs.Input.{input_limit}
use Rattle.picky_input.specs.SourceText.{IsSourceText, source_text_of}
use Rattle.picky_input.specs.declared.source_text.SourceError.{SourceError}
use Rattle.picky_input.specs.declared.source_text.SourceError.TheVariants as source
use Rattle.picky_input.proofs.TextLaws.{is_source_text, no_text_exactly, source_text_is, text_err, too_long_exactly}
use Rattle.picky_key_text.specs.Reader.{Reader}
use Rattle.picky_key_text.specs.declared.error.ReadError.{ReadError}
use Rattle.picky_inventory.specs.declared.command.Command.{Command}
use Rattle.picky_inventory.specs.declared.command.Command.TheVariants as commands
use Rattle.picky_inventory.specs.declared.status.InventoryStatus.{InventoryStatus}
use Rattle.picky_inventory.specs.declared.status.InventoryStatus.TheVariants as statuses
use Rattle.picky_inventory.specs.BadLine.{bad_line}
use Rattle.picky_inventory.specs.Listing.{inventory}
use Rattle.picky_inventory.specs.Merging.{left_part, right_part, unless_bad}
use Rattle.picky_inventory.specs.OrderedText.{merged}
use Rattle.picky_inventory.specs.Run.{Ends, answer, outcome, part_refusal, source_status, unmerged_status}
use Rattle.picky_inventory.specs.inner.Comes.{Comes}
use Rattle.picky_inventory.proofs.RunLemmas.{Bad, Cause, Unread, answer_cause, outcome_of, outcome_without}

-- ---- the statuses of an outcome

-- why a command writes nothing for the bytes of a source
data InputCause (r : Reader) (command : Command) (input : List ℕ) (status : InventoryStatus) : Type 0 where
  TooLong : input_limit < length input → status ≡ statuses.InputTooLong → InputCause r command input status
  NoText : (length input ≤ input_limit) × (IsUtf8 input → ⊥) → status ≡ statuses.InputNotUtf8 → InputCause r command input status
  OfText : IsSourceText input → Cause r command input status → InputCause r command input status

outcome_cause : (r : Reader) (command : Command) (input : List ℕ) (status : InventoryStatus)
    → outcome r command input ≡ Err status → InputCause r command input status
unfolding outcome
outcome_cause r command input status = go (source_text_of input) refl
  where
    go : (text : Result (List ℕ) SourceError) → source_text_of input ≡ text
        → and_then (map_err source_status text) (answer r command) ≡ Err status → InputCause r command input status
    go (Ok text) says is =
        let known = is_source_text input text says in
        OfText known.0 (subst (λ t. Cause r command t status) known.1 (answer_cause r command text status is))
    go (Err e) says is =
        let same : source_status e ≡ status = cc is in
        elim (text_err input e says) [
          | inl long ↦ TooLong ((too_long_exactly input).0 (says ∙ ap Err long)) (sym same ∙ ap source_status long)
          | inr other ↦ NoText ((no_text_exactly input).0 (says ∙ ap Err other)) (sym same ∙ ap source_status other)
        ]

-- ---- the causes, exactly

too_long_so : (r : Reader) (command : Command) (input : List ℕ) → outcome r command input ≡ Err statuses.InputTooLong
    → input_limit < length input
too_long_so r command input is = elim (outcome_cause r command input statuses.InputTooLong is) [
  | TooLong long same ↦ long
  | NoText none same ↦ cc same
  | OfText text cause ↦ elim cause [ Unread n e listing says same ↦ cc same | Bad k merging says same ↦ cc same ]
]

pub long_exactly : (r : Reader) (command : Command) (input : List ℕ)
    → (outcome r command input ≡ Err statuses.InputTooLong) ↔ (input_limit < length input)
long_exactly r command input =
    (too_long_so r command input, λ long. outcome_without r command input source.InputTooLong ((too_long_exactly input).1 long))

no_text_so : (r : Reader) (command : Command) (input : List ℕ) → outcome r command input ≡ Err statuses.InputNotUtf8
    → (length input ≤ input_limit) × (IsUtf8 input → ⊥)
no_text_so r command input is = elim (outcome_cause r command input statuses.InputNotUtf8 is) [
  | TooLong long same ↦ cc same
  | NoText none same ↦ none
  | OfText text cause ↦ elim cause [ Unread n e listing says same ↦ cc same | Bad k merging says same ↦ cc same ]
]

pub other_exactly : (r : Reader) (command : Command) (input : List ℕ)
    → (outcome r command input ≡ Err statuses.InputNotUtf8) ↔ ((length input ≤ input_limit) × (IsUtf8 input → ⊥))
other_exactly r command input =
    (no_text_so r command input, λ none. outcome_without r command input source.InputNotUtf8 ((no_text_exactly input).1 none))

refused_so : (r : Reader) (command : Command) (input : List ℕ) (n : ℕ) (e : ReadError)
    → outcome r command input ≡ Err (statuses.Refused n e)
    → (command ≡ commands.Listing) × IsSourceText input × (inventory r input ≡ Err (n, e))
refused_so r command input n e is = elim (outcome_cause r command input (statuses.Refused n e) is) [
  | TooLong long same ↦ cc same
  | NoText none same ↦ cc same
  | OfText text cause ↦ elim cause [
    | Unread m f listing says same ↦
        let number : n ≡ m = cc same in
        let why : e ≡ f = cc same in
        (listing, text, says ∙ ap (λ k. Err (k, f)) (sym number) ∙ ap (λ h. Err (n, h)) (sym why))
    | Bad k merging says same ↦ cc same
  ]
]

refused_if : (r : Reader) (command : Command) (input : List ℕ) (n : ℕ) (e : ReadError) → command ≡ commands.Listing
    → IsSourceText input → inventory r input ≡ Err (n, e) → outcome r command input ≡ Err (statuses.Refused n e)
refused_if r command input n e listing text says =
    ap (λ c. outcome r c input) listing
    ∙ outcome_of r commands.Listing input input (source_text_is input input (text, refl)) ∙ ap (map_err part_refusal) says

pub refused_exactly : (r : Reader) (command : Command) (input : List ℕ) (n : ℕ) (e : ReadError)
    → (outcome r command input ≡ Err (statuses.Refused n e))
    ↔ ((command ≡ commands.Listing) × IsSourceText input × (inventory r input ≡ Err (n, e)))
refused_exactly r command input n e =
    (refused_so r command input n e, λ (listing, text, says). refused_if r command input n e listing text says)

bad_so : (r : Reader) (command : Command) (input : List ℕ) (k : ℕ) → outcome r command input ≡ Err (statuses.BadLine k)
    → (command ≡ commands.Merging) × IsSourceText input × (bad_line (left_part input) (right_part input) ≡ Some k)
bad_so r command input k is = elim (outcome_cause r command input (statuses.BadLine k) is) [
  | TooLong long same ↦ cc same
  | NoText none same ↦ cc same
  | OfText text cause ↦ elim cause [
    | Unread m f listing says same ↦ cc same
    | Bad j merging says same ↦ let number : k ≡ j = cc same in (merging, text, says ∙ ap Some (sym number))
  ]
]

bad_if : (r : Reader) (command : Command) (input : List ℕ) (k : ℕ) → command ≡ commands.Merging → IsSourceText input
    → bad_line (left_part input) (right_part input) ≡ Some k → outcome r command input ≡ Err (statuses.BadLine k)
bad_if r command input k merging text says =
    ap (λ c. outcome r c input) merging
    ∙ outcome_of r commands.Merging input input (source_text_is input input (text, refl))
    ∙ ap (λ bad. map_err unmerged_status (unless_bad bad (merged (left_part input) (right_part input)))) says

pub bad_exactly : (r : Reader) (command : Command) (input : List ℕ) (k : ℕ)
    → (outcome r command input ≡ Err (statuses.BadLine k))
    ↔ ((command ≡ commands.Merging) × IsSourceText input × (bad_line (left_part input) (right_part input) ≡ Some k))
bad_exactly r command input k =
    (bad_so r command input k, λ (merging, text, says). bad_if r command input k merging text says)

-- ---- from the answer to the end

module _ (r : Reader) (command : Command) (input : List ℕ) (read_rose rose write_rose tells : Type 0) (before after : List ℕ)
  where
    outcome_ends : (status : InventoryStatus) → outcome r command input ≡ Err status → InputCause r command input status
        → Ends r command input read_rose rose write_rose tells before after status
    outcome_ends status failed (TooLong long is) = rw is (failed ∙ ap Err is)
    outcome_ends status failed (NoText none is) = rw is (failed ∙ ap Err is)
    outcome_ends status failed (OfText short (Unread n e listing says is)) = rw is (failed ∙ ap Err is)
    outcome_ends status failed (OfText short (Bad k merging says is)) = rw is (failed ∙ ap Err is)

    pub comes_ends : (status : InventoryStatus) → Comes r command input read_rose rose (Err status)
        → Ends r command input read_rose rose write_rose tells before after status
    comes_ends status (inl want) = rw want tt
    comes_ends status (inr (inl read)) = rw read.0 read.1
    comes_ends status (inr (inr (inl fault))) = rw fault.0 fault.1
    comes_ends status (inr (inr (inr failed))) = outcome_ends status failed (outcome_cause r command input status failed)

-- where that is Done, the answer was written
pub ends_done : (r : Reader) (command other : Command) (input : List ℕ) (read_rose rose write_rose tells : Type 0)
    (before after : List ℕ) (status : InventoryStatus) → command ≡ other → status ≡ statuses.Done
    → Ends r command input read_rose rose write_rose tells before after status
    → (text : List ℕ) × (outcome r other input ≡ Ok text) × (tells → after ≡ before ++ text)
ends_done r command other input read_rose rose write_rose tells before after status same is ends =
    let done = subst (Ends r command input read_rose rose write_rose tells before after) is ends in
    (done.0, ap (λ c. outcome r c input) (sym same) ∙ done.1, done.2)
