-- What the bytes of a source come to, status by status.
use Rattle.std.proofs.Common.{◌≡◌, ◌⊎◌, ◌+◌, ℕ, List, [], ◌∷◌, Option, Some, None, Result, Ok, Err, refl, sym, ◌∙◌, ap, inl}
use Rattle.std.proofs.Common.{inr, subst}
use Rattle.std.proofs.lemmas.Bool.{cases_Bool}
use Rattle.picky_wire_base.specs.Outcome.{and_then, map_err, map_ok}
use Rattle.picky_sshkey_blob.specs.declared.error.SshPrivateKeyError.TheVariants as private
use Rattle.picky_ppk_parts.specs.declared.error.PuttyError.TheVariants as putty
use Rattle.picky_input.specs.{Extent.{ToEnd, Anywhere}, SourceText.{ReadsSourceText, source_text_of}}
use Rattle.picky_input.specs.declared.source_text.SourceError.{SourceError}
use Rattle.picky_input.specs.declared.source_text.SourceError.TheVariants as source
use Rattle.picky_input.proofs.TextLaws.{is_source_text}
use Rattle.picky_key_text.specs.{Form.{form_of}, Order.{fault_as, fault_of, reading}, Reader.{Reader}}
use Rattle.picky_key_text.specs.{Want.{IsFault, WantsMemory}, declared.error.ReadError.{ReadError}}
use Rattle.picky_key_text.specs.{declared.form.Form.{Form}, declared.meaning.Meaning.{Meaning}}
use Rattle.picky_key_text.specs.declared.error.ReadError.TheVariants as errors
use Rattle.picky_key_text.specs.declared.form.Form.TheVariants as forms
use Rattle.picky_key_text.proofs.RefusalLaws.{IsOwnRead, reading_own}
use Rattle.picky_inventory.specs.declared.command.Command.{Command}
use Rattle.picky_inventory.specs.{declared.status.InventoryStatus.{InventoryStatus}, BadLine.{bad_line}}
use Rattle.picky_inventory.specs.Items.{Item, is_blank, item_line, item_of, items_from, refused}
use Rattle.picky_inventory.specs.{Listing.{FaultAt, NoneAsks, inventory}, OrderedText.{merged, ordered_text}}
use Rattle.picky_inventory.specs.{Parted.{text_parts}, Merging.{left_part, right_part, unless_bad}}
use Rattle.picky_inventory.specs.Run.{IsFaultOf, SparesSuite, answer, extent_of, outcome, part_refusal, source_status}
use Rattle.picky_inventory.specs.Run.{unmerged_status}
use Rattle.picky_inventory.specs.inner.Comes.{Comes, AnswersText, extent_for, unread_status}
use Rattle.picky_inventory.specs.declared.command.Command.TheVariants as commands
use Rattle.picky_inventory.specs.declared.status.InventoryStatus.TheVariants as statuses
use Rattle.picky_inventory.proofs.ListingLaws.{none_asks}

-- ---- the refusal of a part

form_fault : (form : Form) → IsFault (fault_as form)
form_fault forms.Envelope = refl
form_fault forms.Ppk = refl
form_fault forms.PuttyPublic = refl
form_fault forms.Certificate = refl
form_fault forms.PublicLine = refl

fault_is : (text : List ℕ) → IsFault (fault_of text)
fault_is text = form_fault (form_of text)

-- a count is as it was, where the refusal is no fault of the suite
pub calm_of : (e : ReadError) (text : List ℕ) (start before after : ℕ) → ((e ≡ fault_of text → ⊥) → after ≡ before)
    → before ≡ start → (IsFault e → ⊥) → after ≡ start
calm_of e text start before after calm same other = calm (λ is. other (subst IsFault (sym is) (fault_is text))) ∙ same

own_there : (n : ℕ) (says : Result Meaning ReadError) (rest : Result (List Item) (ℕ × ReadError)) (k : ℕ) (e : ReadError)
    → ((f : ReadError) → says ≡ Err f → IsOwnRead f) → (rest ≡ Err (k, e) → IsOwnRead e)
    → and_then (map_err (refused n) says) (λ meaning. map_ok (λ items. item_of meaning ∷ items) rest) ≡ Err (k, e)
    → IsOwnRead e
own_there n (Ok meaning) (Ok items) k e first later is = cc is
own_there n (Ok meaning) (Err found) k e first later is =
    let there : ℕ × ReadError = (k, e) in
    let same : found ≡ there = cc is in
    later (ap Err same)
own_there n (Err f) rest k e first later is =
    let here : ℕ × ReadError = (n, f) in
    let there : ℕ × ReadError = (k, e) in
    let pair : here ≡ there = cc is in
    let same : f ≡ e = ap (λ (p : ℕ × ReadError). p.1) pair in
    subst IsOwnRead same (first f refl)

items_own : (r : Reader) (n : ℕ) (parts : List (List ℕ)) (k : ℕ) (e : ReadError) → items_from r n parts ≡ Err (k, e) → IsOwnRead e
items_own r n [] k e is = cc is
items_own r n (part ∷ parts) k e is = elim (cases_Bool (is_blank part)) [
  | inl blank ↦ items_own r (n + 1) parts k e (rw blank at is)
  | inr other ↦
      own_there n (reading r part) (items_from r (n + 1) parts) k e
      (λ f failed. let known = reading_own r part f failed in (known.0, known.1))
      (items_own r (n + 1) parts k e) (rw other at is)
]

mapped_err : {A B E : Type 0} (f : A → B) (r : Result A E) (e : E) → map_ok f r ≡ Err e → r ≡ Err e
mapped_err f (Ok x) e is = cc is
mapped_err f (Err g) e is = let same : g ≡ e = cc is in ap Err same

pub inventory_own : (r : Reader) (text : List ℕ) (n : ℕ) (e : ReadError) → inventory r text ≡ Err (n, e) → IsOwnRead e
inventory_own r text n e is =
    items_own r 0 (text_parts text) n e (mapped_err (ordered_text item_line) (items_from r 0 (text_parts text)) (n, e) is)

pub fault_status : (n : ℕ) (e : ReadError) → IsFault e → unread_status n e ≡ statuses.OutsideFault
fault_status n (errors.Private e) fault = ap (λ f. unread_status n (errors.Private f)) fault
fault_status n (errors.Putty e) fault = ap (λ f. unread_status n (errors.Putty f)) fault
fault_status n e fault = absurd fault

own_status : (n : ℕ) (e : ReadError) → (IsFault e → ⊥) → (WantsMemory e → ⊥) → unread_status n e ≡ statuses.Refused n e
own_status n errors.NoMemory fault want = absurd (want tt)
own_status n (errors.Private private.SuiteFault) fault want = absurd (fault refl)
own_status n (errors.Putty putty.SuiteFault) fault want = absurd (fault refl)
own_status n e fault want = refl

pub listed_gives : (r : Reader) (text : List ℕ) (rose : Type 0) (n : ℕ) (e : ReadError) (status : InventoryStatus)
    → status ≡ unread_status n e
    → (e ≡ errors.NoMemory) ⊎ FaultAt r (text_parts text) n e rose ⊎ (inventory r text ≡ Err (n, e))
    → (status ≡ statuses.NoMemory) ⊎ ((status ≡ statuses.OutsideFault) × IsFaultOf r commands.Listing text rose)
    ⊎ (answer r commands.Listing text ≡ Err status)
listed_gives r text rose n e status is (inl want) = inl (is ∙ ap (unread_status n) want)
listed_gives r text rose n e status is (inr (inl fault)) =
    inr (inl (is ∙ fault_status n e (subst IsFault (sym fault.fault) (fault_is fault.part)), (n, e, fault)))
listed_gives r text rose n e status is (inr (inr failed)) =
    let own = inventory_own r text n e failed in
    inr (inr (ap (map_err part_refusal) failed ∙ ap Err (sym (is ∙ own_status n e own.0 own.1))))

-- ---- the status of a text

-- why a command writes nothing for a text
pub data Cause (r : Reader) (command : Command) (text : List ℕ) (status : InventoryStatus) : Type 0 where
  Unread : (n : ℕ) (e : ReadError) → command ≡ commands.Listing → inventory r text ≡ Err (n, e) → status ≡ statuses.Refused n e
      → Cause r command text status
  Bad : (k : ℕ) → command ≡ commands.Merging → bad_line (left_part text) (right_part text) ≡ Some k → status ≡ statuses.BadLine k
      → Cause r command text status

unread_cause : (r : Reader) (text : List ℕ) (status : InventoryStatus) (says : Result (List ℕ) (ℕ × ReadError))
    → inventory r text ≡ says → map_err part_refusal says ≡ Err status → Cause r commands.Listing text status
unread_cause r text status (Ok written) says is = cc is
unread_cause r text status (Err (n, e)) says is = Unread n e refl says (cc is)

bad_cause : (r : Reader) (text : List ℕ) (status : InventoryStatus) (bad : Option ℕ)
    → bad_line (left_part text) (right_part text) ≡ bad
    → map_err unmerged_status (unless_bad bad (merged (left_part text) (right_part text))) ≡ Err status
    → Cause r commands.Merging text status
bad_cause r text status None says is = cc is
bad_cause r text status (Some k) says is = Bad k refl says (cc is)

pub answer_cause : (r : Reader) (command : Command) (text : List ℕ) (status : InventoryStatus)
    → answer r command text ≡ Err status → Cause r command text status
answer_cause r commands.Listing text status is = unread_cause r text status (inventory r text) refl is
answer_cause r commands.Merging text status is = bad_cause r text status (bad_line (left_part text) (right_part text)) refl is

-- ---- the bytes of a source

pub outcome_of : (r : Reader) (command : Command) (input text : List ℕ) → source_text_of input ≡ Ok text
    → outcome r command input ≡ answer r command text
unfolding outcome
outcome_of r command input text is = ap (λ t. and_then (map_err source_status t) (answer r command)) is

pub outcome_without : (r : Reader) (command : Command) (input : List ℕ) (e : SourceError) → source_text_of input ≡ Err e
    → outcome r command input ≡ Err (source_status e)
unfolding outcome
outcome_without r command input e is = ap (λ t. and_then (map_err source_status t) (answer r command)) is

pub text_comes : (r : Reader) (command : Command) (input text : List ℕ) (read_rose rose : Type 0)
    (result : Result (List ℕ) InventoryStatus) → source_text_of input ≡ Ok text → AnswersText r command text rose result
    → Comes r command input read_rose rose result
text_comes r command input text read_rose rose (Ok written) is gives = outcome_of r command input text is ∙ gives
text_comes r command input text read_rose rose (Err status) is (inl want) = inl want
text_comes r command input text read_rose rose (Err status) is (inr (inl fault)) =
    let known = is_source_text input text is in
    inr (inr (inl (
      fault.0,
      record { text = known.0; fault = subst (λ t. IsFaultOf r command t rose) known.1 fault.1 },
    )))
text_comes r command input text read_rose rose (Err status) is (inr (inr failed)) =
    inr (inr (inr (outcome_of r command input text is ∙ failed)))

pub source_comes : (r : Reader) (command : Command) (input : List ℕ) (read_rose rose : Type 0) (e : SourceError)
    (status : InventoryStatus) → status ≡ source_status e → ReadsSourceText (Err e) input → (e ≡ source.ReadFault → read_rose)
    → Comes r command input read_rose rose (Err status)
source_comes r command input read_rose rose source.ReadFault status is reads count = inr (inl (is, count refl))
source_comes r command input read_rose rose source.NoMemory status is reads count = inl is
source_comes r command input read_rose rose source.InputTooLong status is reads count =
    inr (inr (inr (outcome_without r command input source.InputTooLong reads ∙ ap Err (sym is))))
source_comes r command input read_rose rose source.InputNotUtf8 status is reads count =
    inr (inr (inr (outcome_without r command input source.InputNotUtf8 reads ∙ ap Err (sym is))))

-- ---- how far the source is read

-- for a text to its end, but where memory ran out
pub text_extent : (r : Reader) (command : Command) (text : List ℕ) (rose : Type 0) (result : Result (List ℕ) InventoryStatus)
    → AnswersText r command text rose result → (extent_for result ≡ ToEnd) ⊎ (extent_for result ≡ Anywhere)
text_extent r command text rose (Ok written) gives = inl refl
text_extent r command text rose (Err status) (inl want) = inr (ap extent_of want)
text_extent r command text rose (Err status) (inr (inl fault)) = inl (ap extent_of fault.0)
text_extent r command text rose (Err status) (inr (inr failed)) = inl (elim (answer_cause r command text status failed) [
  | Unread n e listing says is ↦ ap extent_of is
  | Bad k merging says is ↦ ap extent_of is
])

-- ---- whether the suite is asked

pub spares_text : (command : Command) (pass : Option (List ℕ)) (tells : Type 0) (input text : List ℕ)
    → (tells → source_text_of input ≡ Ok text) → SparesSuite (Some command) pass tells input
    → (command ≡ commands.Merging) ⊎ NoneAsks pass (text_parts text)
spares_text command pass tells input text reads (inl none) = absurd (none command refl)
spares_text command pass tells input text reads (inr (inl merges)) = inl (cc merges)
spares_text command pass tells input text reads (inr (inr (inl (told, none)))) =
    inr (subst (λ t. NoneAsks pass (text_parts t)) (sym (is_source_text input text (reads told)).1) none)
spares_text command pass tells input text reads (inr (inr (inr never))) = inr (none_asks pass never (text_parts text))
