-- What the bytes of a source come to, status by status.
use Rattle.std.proofs.Common.{◌≡◌, ◌⊎◌, ◌<◌, ◌++◌, ℕ, List, length, Bool, true, false, take, IfErr, IfOk, Result, Ok, Err, Some}
use Rattle.std.proofs.Common.{refl, sym, ◌∙◌, ap, inl, inr, subst, if◌then◌else◌}
use Rattle.picky_wire_base.specs.Outcome.{map_err, map_ok}
use Rattle.picky_input.specs.{Extent.{Anywhere, ToEnd}, SourceText.{ReadsSourceText, source_text_of}}
use Rattle.picky_input.specs.declared.source_text.SourceError.{SourceError}
use Rattle.picky_input.specs.declared.source_text.SourceError.TheVariants as source
use Rattle.picky_input.proofs.TextLaws.{is_source_text, some_input}
use Rattle.picky_wire.specs.declared.timestamp.Timestamp.{Timestamp}
use Rattle.picky_keys.specs.LineRefusal.{is_short}
use Rattle.picky_authorized.specs.{Entries.{entries_in, keys_in}, declared.entry.AuthEntry.{AuthEntry}}
use Rattle.picky_authorized.specs.declared.keys.PolicyError.TheVariants as keys
use Rattle.picky_key_text.specs.declared.error.ReadError.{ReadError}
use Rattle.picky_key_text.specs.declared.error.ReadError.TheVariants as reading
use Rattle.picky_policy.specs.Command.{Asked, Deciding, Printing}
use Rattle.picky_policy.specs.Decided.{Accepts, Allows, Decides, IsDecision, verifier_asks, decided}
use Rattle.picky_policy.specs.{Offer.{message_of, offer_in}, Printed.{decision_text, message_text}}
use Rattle.picky_policy.specs.Run.{Ends, IsAnswerTo, IsAnswer, IsDecided, IsFaultOf, IsSpared, asks_with, bad_offer, extent_of}
use Rattle.picky_policy.specs.Run.{file_part, is_asked, offer_part, offered_in, source_status}
use Rattle.picky_policy.specs.{Verifies.{VerifyRelation}, declared.answer.Answer.{Answer}}
use Rattle.picky_policy.specs.{declared.deciding.DecideError.{DecideError}, declared.decision.Decision.{Decision}}
use Rattle.picky_policy.specs.{declared.decision.Denial.{Denial}, declared.decision.Grant.{Grant}}
use Rattle.picky_policy.specs.{declared.offer.Offer.{Offer}, declared.status.PolicyStatus.{PolicyStatus}}
use Rattle.picky_policy.specs.inner.Comes.{AnswersOffer, AnswersText, Comes, answer_shown, decision_status, extent_for}
use Rattle.picky_policy.specs.declared.decision.Decision.TheVariants as decisions
use Rattle.picky_policy.specs.declared.status.PolicyStatus.TheVariants as statuses
use Rattle.picky_policy.proofs.SourceLaws.{Bad, NoText, TooLong, no_offer, offered_of, offered_without}

-- ---- an answer

-- a decision is answered by its status and its lines
pub decision_answers : (verifies : VerifyRelation) (user : List ℕ) (moment : Timestamp) (file : List ℕ) (offer : Offer) (decision : Decision)
    (said : PolicyStatus × List ℕ) → IsDecided verifies file offer user moment decision
    → said ≡ (decision_status decision, decision_text decision)
    → IsAnswer verifies (Deciding user moment) file offer said.0 said.1
decision_answers verifies user moment file offer (decisions.Granted grant) said is same = rw same (grant, (is, refl))
decision_answers verifies user moment file offer (decisions.Denied why) said is same = rw same (why, (is, refl))

-- and so is what is signed
pub line_answers : (verifies : VerifyRelation) (file : List ℕ) (offer : Offer) (said : PolicyStatus × List ℕ)
    → said ≡ (statuses.Message, message_text (message_of offer)) → IsAnswer verifies Printing file offer said.0 said.1
line_answers verifies file offer said same = rw same refl

-- the printed line, or want of memory
pub printed_answers : (verifies : VerifyRelation) (file : List ℕ) (offer : Offer) (rose : Type 0) (result : Result Answer PolicyStatus)
    → IfOk result (λ answer. answer_shown answer ≡ (statuses.Message, message_text (message_of offer)))
    → IfErr result (λ status. status ≡ statuses.NoMemory)
    → AnswersOffer verifies Printing file offer rose (map_ok answer_shown result)
printed_answers verifies file offer rose (Ok answer) line want = line_answers verifies file offer (answer_shown answer) line
printed_answers verifies file offer rose (Err status) line want = inl want

-- the lines of a decision, or want of memory
pub lines_answer : (verifies : VerifyRelation) (user : List ℕ) (moment : Timestamp) (file : List ℕ) (offer : Offer)
    (decision : Decision) (rose : Type 0) (result : Result Answer PolicyStatus)
    → IsDecided verifies file offer user moment decision
    → IfOk result (λ answer. answer_shown answer ≡ (decision_status decision, decision_text decision))
    → IfErr result (λ status. status ≡ statuses.NoMemory)
    → AnswersOffer verifies (Deciding user moment) file offer rose (map_ok answer_shown result)
lines_answer verifies user moment file offer decision rose (Ok answer) is lines want =
    decision_answers verifies user moment file offer decision (answer_shown answer) is lines
lines_answer verifies user moment file offer decision rose (Err status) is lines want = inl want

-- ---- the entries of a file

pub keys_are : (file : List ℕ) (entries : List AuthEntry) → keys_in file ≡ Ok entries → entries ≡ entries_in file
keys_are file entries = go (is_short file)
  where
    go : (short : Bool) → (if short then Ok (entries_in file) else Err keys.TooLong) ≡ Ok entries → entries ≡ entries_in file
    go true is = sym (cc is)
    go false is = cc is

-- what a call decides over them, and its lines
module _ (verifies : VerifyRelation) (user : List ℕ) (moment : Timestamp) (file : List ℕ) (offer : Offer) (entries : List AuthEntry)
    (rose : Type 0) (result : Result Decision DecideError) (read : keys_in file ≡ Ok entries)
    (decides : Decides (Accepts verifies offer) (decided entries offer user moment) (verifier_asks entries offer user moment) rose result) where
  pub decided_answers : (decision : Decision) (said : Result Answer PolicyStatus) → result ≡ Ok decision
      → ((grant : Grant) → result ≡ Ok (decisions.Granted grant) → Allows verifies entries offer user moment grant)
      → ((why : Denial) (grant : Grant) → result ≡ Ok (decisions.Denied why)
      → Allows verifies entries offer user moment grant → ⊥)
      → IfOk said (λ answer. answer_shown answer ≡ (decision_status decision, decision_text decision))
      → IfErr said (λ status. status ≡ statuses.NoMemory)
      → AnswersOffer verifies (Deciding user moment) file offer rose (map_ok answer_shown said)
  decided_answers decision said is granted denied =
      lines_answer verifies user moment file offer decision rose said
      (subst (λ e. IsDecision verifies e offer user moment decision) (keys_are file entries read) (record {
        answers =
            subst (Decides (Accepts verifies offer) (decided entries offer user moment) (verifier_asks entries offer user moment) rose) is decides;
        granted = λ grant same. granted grant (is ∙ ap Ok same);
        denied = λ why grant same. denied why grant (is ∙ ap Ok same);
      }))

-- ---- an offer that isn't read

pub unread_gives : (text : List ℕ) (e : ReadError) (status : PolicyStatus) → (e ≡ reading.NoMemory) ⊎ (offer_in text ≡ Err e)
    → (e ≡ reading.NoMemory → status ≡ statuses.NoMemory) → (status ≡ statuses.NoMemory) ⊎ (status ≡ statuses.BadOffer)
    → (status ≡ statuses.NoMemory) ⊎ (map_err bad_offer (offer_in text) ≡ Err status)
unread_gives text e status (inl none) want two = inl (want none)
unread_gives text e status (inr is) want (inl none) = inl none
unread_gives text e status (inr is) want (inr bad) = inr (ap (map_err bad_offer) is ∙ ap Err (sym bad))

-- the offer of a text was answered
pub offer_answers : (verifies : VerifyRelation) (asked : Asked) (text file : List ℕ) (offer : Offer) (rose : Type 0)
    (result : Result (PolicyStatus × List ℕ) PolicyStatus) → offered_in text ≡ Ok offer → file ≡ file_part text
    → AnswersOffer verifies asked file offer rose result → AnswersText verifies asked text rose result
offer_answers verifies asked text file offer rose (Ok said) is same answers =
    (offer, is, rw (sym same) answers)
offer_answers verifies asked text file offer rose (Err status) is same (inl want) = inl want
offer_answers verifies asked text file offer rose (Err status) is same (inr fault) =
    inr (inl (offer, fault.0, is, rw (sym same) fault.1))

-- or there is none
pub none_answers : (verifies : VerifyRelation) (asked : Asked) (text : List ℕ) (rose : Type 0) (status : PolicyStatus)
    → (status ≡ statuses.NoMemory) ⊎ (offered_in text ≡ Err status) → AnswersText verifies asked text rose (Err status)
none_answers verifies asked text rose status (inl want) = inl want
none_answers verifies asked text rose status (inr failed) = inr (inr failed)

-- the verifier is asked for the text only where it is for the offer
pub not_asked : (asked : Asked) (text file : List ℕ) (offer : Offer) → offered_in text ≡ Ok offer → file ≡ file_part text
    → asks_with asked text (offered_in text) ≡ false → is_asked asked file offer ≡ false
not_asked asked text file offer is same none =
    ap (λ f. is_asked asked f offer) same ∙ ap (asks_with asked text) (sym is) ∙ none

-- and to print it is never
printing_asks_none : (text : List ℕ) (read : Result Offer PolicyStatus) → asks_with Printing text read ≡ false
printing_asks_none text (Ok offer) = refl
printing_asks_none text (Err status) = refl

-- ---- from a text to its source

pub text_comes : (verifies : VerifyRelation) (asked : Asked) (input text : List ℕ) (read_rose rose : Type 0)
    (result : Result (PolicyStatus × List ℕ) PolicyStatus) → source_text_of input ≡ Ok text
    → AnswersText verifies asked text rose result → Comes verifies asked input read_rose rose result
text_comes verifies asked input text read_rose rose (Ok said) is answers =
    let same : text ≡ input = (is_source_text input text is).1 in record {
      offer = answers.0;
      offered = offered_of input text is ∙ answers.1;
      answer = subst (λ t. IsAnswer verifies asked (file_part t) answers.0 said.0 said.1) same answers.2;
    }
text_comes verifies asked input text read_rose rose (Err status) is (inl want) = inl want
text_comes verifies asked input text read_rose rose (Err status) is (inr (inl fault)) =
    let same : text ≡ input = (is_source_text input text is).1 in
    inr (inr (inl (
      fault.1,
      record {
        offer = fault.0;
        offered = offered_of input text is ∙ fault.2;
        fault = subst (λ t. IsFaultOf asked (file_part t) fault.0 rose) same fault.3;
      },
    )))
text_comes verifies asked input text read_rose rose (Err status) is (inr (inr failed)) =
    inr (inr (inr (offered_of input text is ∙ failed)))

pub source_comes : (verifies : VerifyRelation) (asked : Asked) (input : List ℕ) (read_rose rose : Type 0) (e : SourceError)
    (status : PolicyStatus) → status ≡ source_status e → ReadsSourceText (Err e) input → (e ≡ source.ReadFault → read_rose)
    → Comes verifies asked input read_rose rose (Err status)
source_comes verifies asked input read_rose rose source.ReadFault status is reads count = inr (inl (is, count refl))
source_comes verifies asked input read_rose rose source.NoMemory status is reads count = inl is
source_comes verifies asked input read_rose rose source.InputTooLong status is reads count =
    inr (inr (inr (offered_without input source.InputTooLong reads ∙ ap Err (sym is))))
source_comes verifies asked input read_rose rose source.InputNotUtf8 status is reads count =
    inr (inr (inr (offered_without input source.InputNotUtf8 reads ∙ ap Err (sym is))))

-- of a source that doesn't tell its bytes there are some that are refused so
pub some_comes : (verifies : VerifyRelation) (asked : Asked) (read_rose rose : Type 0) (e : SourceError) (status : PolicyStatus)
    → status ≡ source_status e → (e ≡ source.ReadFault → read_rose)
    → (input : List ℕ) × Comes verifies asked input read_rose rose (Err status)
some_comes verifies asked read_rose rose e status is count =
    let input = some_input e in (input.0, source_comes verifies asked input.0 read_rose rose e status is input.1 count)

-- the verifier isn't asked for the text of a source for whose bytes it is spared
pub spared_by_text : (asked : Asked) (tells : Type 0) (input text : List ℕ) → (tells → source_text_of input ≡ Ok text)
    → IsSpared (Some asked) tells input → asks_with asked text (offered_in text) ≡ false
spared_by_text Printing tells input text is spared = printing_asks_none text (offered_in text)
spared_by_text (Deciding user moment) tells input text is (told, none) =
    let asked = Deciding user moment in
    let same : text ≡ input = (is_source_text input text (is told)).1 in
    ap (λ t. asks_with asked t (offered_in text)) same ∙ ap (asks_with asked input) (sym (offered_of input text (is told))) ∙ none

-- ---- how far the source was read

-- a text that is refused has a bad offer
bad_alone : (text : List ℕ) (status : PolicyStatus) → offered_in text ≡ Err status → status ≡ statuses.BadOffer
bad_alone text status = go (offer_in (offer_part text))
  where
    go : (read : Result Offer ReadError) → map_err bad_offer read ≡ Err status → status ≡ statuses.BadOffer
    go (Ok offer) is = cc is
    go (Err e) is = cc is

-- for a text the source was read to its end
pub text_extent : (verifies : VerifyRelation) (asked : Asked) (text : List ℕ) (rose : Type 0) (result : Result Answer PolicyStatus)
    → AnswersText verifies asked text rose (map_ok answer_shown result)
    → (extent_for result ≡ ToEnd) ⊎ (extent_for result ≡ Anywhere)
text_extent verifies asked text rose (Ok answer) answers = inl refl
text_extent verifies asked text rose (Err status) (inl want) = inr (ap extent_of want)
text_extent verifies asked text rose (Err status) (inr (inl fault)) = inl (ap extent_of fault.1)
text_extent verifies asked text rose (Err status) (inr (inr failed)) = inl (ap extent_of (bad_alone text status failed))

-- ---- from the answer to the end

module _ (verifies : VerifyRelation) (asked : Asked) (input : List ℕ) (read_rose rose write_rose tells : Type 0)
    (before after : List ℕ) where
  pub comes_ends : (status : PolicyStatus) → Comes verifies asked input read_rose rose (Err status)
      → Ends verifies asked input read_rose rose write_rose tells before after status
  comes_ends status (inl want) = rw want tt
  comes_ends status (inr (inl read)) = rw read.0 read.1
  comes_ends status (inr (inr (inl fault))) = rw fault.0 fault.1
  comes_ends status (inr (inr (inr failed))) = elim (no_offer input status failed) [
    | TooLong long is ↦ rw is (failed ∙ ap Err is)
    | NoText none is ↦ rw is (failed ∙ ap Err is)
    | Bad short e says is ↦ rw is (failed ∙ ap Err is)
  ]

  -- a text that was written whole
  pub done_ends : (status : PolicyStatus) (text piece : List ℕ) → IsAnswerTo verifies asked input status text → piece ≡ text
      → (tells → after ≡ before ++ piece)
      → Ends verifies asked input read_rose rose write_rose tells before after status
  done_ends statuses.Granted text piece gives same written = (text, gives, λ told. written told ∙ ap (λ p. before ++ p) same)
  done_ends statuses.Denied text piece gives same written = (text, gives, λ told. written told ∙ ap (λ p. before ++ p) same)
  done_ends statuses.Message text piece gives same written = (text, gives, λ told. written told ∙ ap (λ p. before ++ p) same)
  done_ends status text piece gives same written = absurd gives.answer

  -- or a prefix of it alone
  pub prefix_ends : (fault : PolicyStatus) (status : PolicyStatus) (text piece : List ℕ)
      → (fault ≡ statuses.WriteFault) × write_rose → IsAnswerTo verifies asked input status text → piece ≡ text
      → (tells → (n : ℕ) × (after ≡ before ++ take n piece) × (n < length piece))
      → Ends verifies asked input read_rose rose write_rose tells before after fault
  prefix_ends fault status text piece cause gives same prefix =
      rw cause.0 (cause.1, status, text, gives, λ told. rw (sym same) (prefix told))
