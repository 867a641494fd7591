-- Lemmas on what is written for the bytes of a source, and on the status of a refusal.
use Rattle.std.proofs.Common.{◌≡◌, ◌≤◌, ℕ, List, false, length, Result, Ok, Err, refl, sym, ap, ◌∙◌, subst, inl, inr}
use Rattle.std.proofs.lemmas.Bool.{le-ltb, le-leb, cases_Bool}
use Rattle.std.proofs.lemmas.Str.{is_utf8-from_IsUtf8, IsUtf8-from_is_utf8}
use Rattle.std.specs.Str.{IsUtf8, is_utf8}
use Rattle.picky_wire_base.specs.Outcome.{map_err, map_ok}
use Rattle.picky_suite.specs.{Failures.{IsAskedFault}, Meanings.{Meanings}}
use Rattle.picky_sshkey_blob.specs.declared.error.SshPrivateKeyError.TheVariants as private
use Rattle.picky_ppk_parts.specs.declared.error.PuttyError.TheVariants as putty
use Rattle.picky_cert_builder.specs.declared.error.SshCertificateGenerationError.TheVariants as requests
use Rattle.picky_key_text.specs.declared.error.ReadError.TheVariants as input_errors
use Rattle.picky_key_text.specs.{Key.{public_part}, Order.{reading}}
use Rattle.picky_target.specs.{declared.error.ConvertError.{ConvertError}, declared.target.KeyTarget.{KeyTarget}}
use Rattle.picky_target.specs.Written.{written}
use Rattle.picky_target.specs.declared.error.ConvertError.TheVariants as errors
use Rattle.picky_conversion.specs.{Certified.{SignRelation}, Certify.{hex_line}, Convert.{LeavesAskedSuite, conversion}}
use Rattle.picky_conversion.specs.Issue.{issued, issued_bytes, unsigned}
use Rattle.picky_conversion.specs.Made.{AnswersMade, IsUnwritten, LeavesAskedSigner, Made, ToSign, Whole, WritesMade, is_signed}
use Rattle.picky_conversion.specs.{Outside.{Outside, reader}, Want.{IsFault, IsSignerFault, WantsMemory}}
use Rattle.picky_convert.specs.declared.command.Command.{Command}
use Rattle.picky_convert.specs.Command.{IsFaultFor, answer, answering_asks, fingerprints}
use Rattle.picky_convert.specs.Fingerprint.{fingerprint_text}
use Rattle.picky_convert.specs.Run.{Devices, Stops, input_limit, outcome, outcome_asks, outcome_signs}
use Rattle.picky_convert.specs.inner.Causes.{Comes, refusal_status}
use Rattle.picky_convert.specs.declared.command.Command.TheVariants as commands
use Rattle.picky_convert.specs.declared.error.Status.TheVariants as statuses
use Rattle.picky_conversion.proofs.AnswerLemmas.{input_fault_is, output_fault_is, opening_asks, sealing_asks}
use Rattle.picky_conversion.proofs.CertifyLemmas.{one_counted}
use Rattle.picky_conversion.proofs.IssueLemmas.{issued_is_own, issuing_fault_asks, unsigned_is_own}
use Rattle.picky_conversion.proofs.JudgedLemmas.{IsOwnConvert, next_is, reading_is_own, written_is_own}

-- ---- what a command refuses

-- a refusal of what was mapped
mapped_err : {A B : Type 0} (f : A → B) (r : Result A ConvertError) (e : ConvertError) → map_ok f r ≡ Err e → r ≡ Err e
mapped_err f (Ok x) e is = cc is
mapped_err f (Err g) e is = let same : g ≡ e = cc is in ap Err same

conversion_is_own : (o : Outside) (target : KeyTarget) (text : List ℕ) (e : ConvertError) → conversion o target text ≡ Err e → IsOwnConvert e
unfolding conversion
conversion_is_own o target text e refused =
    next_is IsOwnConvert (map_err errors.Input (reading (reader o) text)) (written o.meanings o.output target) e
    (reading_is_own (reader o) text) (λ meaning f was is. written_is_own o.meanings o.output target meaning f is) refused

pub answer_is_own : (o : Outside) (command : Command) (text : List ℕ) (e : ConvertError) → answer o command text ≡ Err e → IsOwnConvert e
answer_is_own o (commands.Convert target) text e refused =
    conversion_is_own o target text e (mapped_err Whole (conversion o target text) e refused)
answer_is_own o (commands.Certify options) text e refused =
    issued_is_own o options text e (mapped_err ToSign (issued o options text) e refused)
answer_is_own o (commands.PrintSigned options) text e refused =
    unsigned_is_own o options text e
    (mapped_err hex_line (unsigned o options text) e (mapped_err Whole (issued_bytes o options text) e refused))
answer_is_own o commands.Fingerprint text e refused =
    next_is IsOwnConvert (map_err errors.Input (reading (reader o) text)) (λ meaning. Ok (fingerprint_text (public_part meaning.key))) e
    (reading_is_own (reader o) text) (λ meaning f was is. cc is) (mapped_err Whole (fingerprints o text) e refused)
answer_is_own o (commands.Sample keys) text e refused = cc refused

-- the suite's fault is one, and it was asked for the command
pub fault_asks : (o : Outside) (command : Command) (input : List ℕ) (e : ConvertError) (rose : Type 0)
    → IsFaultFor o command input e rose → IsFault e × IsAskedFault (answering_asks o command input) rose
fault_asks o (commands.Convert target) input e rose (inl fault) = (
  subst IsFault (sym fault.0) (input_fault_is input),
  (opening_asks o target input fault.1.0, fault.1.1),
)
fault_asks o (commands.Convert target) input e rose (inr fault) = (
  subst IsFault (sym fault.0) (output_fault_is target),
  (sealing_asks o target input fault.1.0, fault.1.1),
)
fault_asks o (commands.Certify options) input e rose fault = issuing_fault_asks o input e rose fault
fault_asks o (commands.PrintSigned options) input e rose fault = issuing_fault_asks o input e rose fault
fault_asks o commands.Fingerprint input e rose fault = (subst IsFault (sym fault.0) (input_fault_is input), fault.1)
fault_asks o (commands.Sample keys) input e rose fault = absurd fault

-- ---- the status of a refusal

pub status_from_fault : (e : ConvertError) → IsFault e → refusal_status e ≡ statuses.OutsideFault
status_from_fault (errors.Input (input_errors.Private e)) fault =
    ap (λ f. refusal_status (errors.Input (input_errors.Private f))) fault
status_from_fault (errors.Input (input_errors.Putty e)) fault =
    ap (λ f. refusal_status (errors.Input (input_errors.Putty f))) fault
status_from_fault (errors.Issuer (input_errors.Private e)) fault =
    ap (λ f. refusal_status (errors.Issuer (input_errors.Private f))) fault
status_from_fault (errors.Issuer (input_errors.Putty e)) fault =
    ap (λ f. refusal_status (errors.Issuer (input_errors.Putty f))) fault
status_from_fault (errors.Private e) fault = ap (λ f. refusal_status (errors.Private f)) fault
status_from_fault (errors.Putty e) fault = ap (λ f. refusal_status (errors.Putty f)) fault
status_from_fault e fault = absurd fault

status_of_own : (e : ConvertError) → (e ≡ errors.NoMemory → ⊥) → (IsFault e → ⊥) → (IsSignerFault e → ⊥)
    → refusal_status e ≡ statuses.Refused e
status_of_own errors.NoMemory memory fault device = absurd (memory refl)
status_of_own (errors.Input (input_errors.Private private.SuiteFault)) memory fault device = absurd (fault refl)
status_of_own (errors.Input (input_errors.Putty putty.SuiteFault)) memory fault device = absurd (fault refl)
status_of_own (errors.Issuer (input_errors.Private private.SuiteFault)) memory fault device = absurd (fault refl)
status_of_own (errors.Issuer (input_errors.Putty putty.SuiteFault)) memory fault device = absurd (fault refl)
status_of_own (errors.Request requests.SignatureError) memory fault device = absurd (device refl)
status_of_own (errors.Private private.SuiteFault) memory fault device = absurd (fault refl)
status_of_own (errors.Putty putty.SuiteFault) memory fault device = absurd (fault refl)
status_of_own e memory fault device = refl

own_status : (e : ConvertError) → IsOwnConvert e → refusal_status e ≡ statuses.Refused e
own_status e own = status_of_own e (λ is. own.0 (subst WantsMemory (sym is) refl)) own.1 own.2

-- ---- the outcome of bytes

-- the bytes are a text for which the command comes to something
pub outcome_done : (o : Outside) (command : Command) (input : List ℕ) (made : Made) → length input ≤ input_limit → IsUtf8 input
    → answer o command input ≡ Ok made → outcome o command input ≡ Ok made
unfolding outcome
outcome_done o command input made short utf8 done =
    rw (le-ltb input_limit (length input) short, is_utf8-from_IsUtf8 input utf8, done) refl

-- the bytes are a text that is refused
outcome_refused : (o : Outside) (command : Command) (input : List ℕ) (e : ConvertError) → length input ≤ input_limit
    → IsUtf8 input → answer o command input ≡ Err e → outcome o command input ≡ Err (statuses.Refused e)
unfolding outcome
outcome_refused o command input e short utf8 refused =
    rw (le-ltb input_limit (length input) short, is_utf8-from_IsUtf8 input utf8, refused) refl

-- the bytes are no text
pub outcome_no_text : (o : Outside) (command : Command) (input : List ℕ) → length input ≤ input_limit → (IsUtf8 input → ⊥)
    → outcome o command input ≡ Err statuses.InputNotUtf8
unfolding outcome
outcome_no_text o command input short not_utf8 = elim (cases_Bool (is_utf8 input)) [
  | inl utf8 ↦ absurd (not_utf8 (IsUtf8-from_is_utf8 input utf8))
  | inr other ↦ rw (le-ltb input_limit (length input) short, other) refl
]

-- of bytes that are a text the signer is asked as the command asks it
outcome_signs_as : (o : Outside) (command : Command) (input : List ℕ) → length input ≤ input_limit → IsUtf8 input
    → outcome_signs o command input ≡ is_signed (answer o command input)
unfolding outcome
outcome_signs_as o command input short utf8 =
    rw (le-ltb input_limit (length input) short, is_utf8-from_IsUtf8 input utf8) (signed_mapped (answer o command input))
  where
    signed_mapped : (r : Result Made ConvertError) → is_signed (map_err statuses.Refused r) ≡ is_signed r
    signed_mapped (Ok (Whole text)) = refl
    signed_mapped (Ok (ToSign u)) = refl
    signed_mapped (Err e) = refl

-- of bytes that are a text the suite is asked as the command asks it
outcome_asks_as : (o : Outside) (command : Command) (input : List ℕ) → length input ≤ input_limit → IsUtf8 input
    → outcome_asks o command input ≡ answering_asks o command input
unfolding outcome_asks
outcome_asks_as o command input short utf8 =
    rw (le-leb (length input) input_limit short, is_utf8-from_IsUtf8 input utf8) refl

-- ---- what a command answers, as a run's status

pub text_comes : (signs : SignRelation) (o : Outside) (command : Command) (input text : List ℕ) → length input ≤ input_limit
    → IsUtf8 input → WritesMade signs (answer o command input) text → WritesMade signs (outcome o command input) text
text_comes signs o command input text short utf8 (made, is, of) = (made, outcome_done o command input made short utf8 is, of)

-- why there is no text of what it came to
left_comes : (signs : SignRelation) (o : Outside) (command : Command) (input : List ℕ) (e : ConvertError)
    (read_rose suite_rose signer_rose : Type 0) (made : Made) → outcome o command input ≡ Ok made → IsUnwritten signs made signer_rose e
    → Stops signs o command input read_rose suite_rose signer_rose (refusal_status e)
left_comes signs o command input e read_rose suite_rose signer_rose (Whole text) is left = absurd left
left_comes signs o command input e read_rose suite_rose signer_rose (ToSign u) is (inl device) =
    subst (λ s. Stops signs o command input read_rose suite_rose signer_rose s) (sym (ap refusal_status device.0))
    (inr (ap is_signed is, device.1))
left_comes signs o command input e read_rose suite_rose signer_rose (ToSign u) is (inr long) =
    subst (λ s. Stops signs o command input read_rose suite_rose signer_rose s) (sym (ap refusal_status long.0))
    (inr (refl, (ToSign u, is, long.1)))

pub refused_comes : {X Y : Type 0} (signs : SignRelation) (view : X → List ℕ) (seen : Y → List ℕ) (o : Outside) (command : Command)
    (input : List ℕ) (read_rose suite_rose signer_rose : Type 0) (e : ConvertError) → length input ≤ input_limit → IsUtf8 input
    → AnswersMade {X = X} signs view (answer o command input) (λ f. IsFaultFor o command input f suite_rose) signer_rose (Err e)
    → Comes {X = Y} signs seen o command input read_rose suite_rose signer_rose (Err (refusal_status e))
refused_comes signs view seen o command input read_rose suite_rose signer_rose e short utf8 (inl want) =
    subst (λ s. Stops signs o command input read_rose suite_rose signer_rose s) (sym (ap refusal_status want)) tt
refused_comes signs view seen o command input read_rose suite_rose signer_rose e short utf8 (inr (inl fault)) =
    let asked = fault_asks o command input e suite_rose fault in
    subst (λ s. Stops signs o command input read_rose suite_rose signer_rose s) (sym (status_from_fault e asked.0))
    (inl (outcome_asks_as o command input short utf8 ∙ asked.1.0, asked.1.1))
refused_comes signs view seen o command input read_rose suite_rose signer_rose e short utf8 (inr (inr (inl (made, is, left)))) =
    left_comes signs o command input e read_rose suite_rose signer_rose made (outcome_done o command input made short utf8 is) left
refused_comes signs view seen o command input read_rose suite_rose signer_rose e short utf8 (inr (inr (inr refused))) =
    subst (λ s. Stops signs o command input read_rose suite_rose signer_rose s)
    (sym (own_status e (answer_is_own o command input e refused))) (inl (outcome_refused o command input e short utf8 refused))

-- ---- the devices

pub done_leaves : {S G A : Type 0} (meanings : S → Meanings) (faults : S → ℕ) (signs : G → SignRelation) (signer_faults : G → ℕ)
    (o : Outside) (command : Command) (input : List ℕ) (x : A) (ended : Type 0) (old new : S) (before after : G)
    → length input ≤ input_limit → IsUtf8 input
    → LeavesAskedSuite {A = A} meanings faults (answering_asks o command input) (Ok x) old new
    → LeavesAskedSigner {A = A} signs signer_faults (is_signed (answer o command input)) (Ok x) before after
    → Devices meanings faults signs signer_faults ended (outcome_asks o command input ≡ false) (outcome_signs o command input ≡ false)
    old new before after
done_leaves meanings faults signs signer_faults o command input x ended old new before after short utf8 leaves keeps = record {
  suite = record {
    kept = leaves.kept;
    calm = λ other. leaves.calm (λ f is fault. cc is);
    unasked = λ no. leaves.unasked (sym (outcome_asks_as o command input short utf8) ∙ no);
  };
  signer = record {
    kept = keeps.kept;
    calm = λ other. keeps.calm (λ is. cc is);
    unasked = λ no. keeps.unasked (sym (outcome_signs_as o command input short utf8) ∙ no);
  };
  one_counts = one_counted meanings faults (answering_asks o command input) signs signer_faults (is_signed (answer o command input)) (Ok x)
      old new before after leaves keeps;
}

pub refused_leaves : {S G A : Type 0} (meanings : S → Meanings) (faults : S → ℕ) (signs : G → SignRelation) (signer_faults : G → ℕ)
    (o : Outside) (command : Command) (input : List ℕ) (e : ConvertError) (ended : Type 0) (old new : S) (before after : G)
    → (refusal_status e ≡ statuses.OutsideFault → ended) → length input ≤ input_limit → IsUtf8 input
    → LeavesAskedSuite {A = A} meanings faults (answering_asks o command input) (Err e) old new
    → LeavesAskedSigner {A = A} signs signer_faults (is_signed (answer o command input)) (Err e) before after
    → Devices meanings faults signs signer_faults ended (outcome_asks o command input ≡ false) (outcome_signs o command input ≡ false)
    old new before after
refused_leaves meanings faults signs signer_faults o command input e ended old new before after ends short utf8 leaves keeps = record {
  suite = record {
    kept = leaves.kept;
    calm = λ other. leaves.calm (λ f is fault.
        let same : f ≡ e = cc is in other (ends (status_from_fault e (subst IsFault same fault))));
    unasked = λ no. leaves.unasked (sym (outcome_asks_as o command input short utf8) ∙ no);
  };
  signer = record {
    kept = keeps.kept;
    calm = λ other. keeps.calm (λ is.
        let same : e ≡ errors.Request requests.SignatureError = cc is in other (ends (ap refusal_status same)));
    unasked = λ no. keeps.unasked (sym (outcome_signs_as o command input short utf8) ∙ no);
  };
  one_counts = one_counted meanings faults (answering_asks o command input) signs signer_faults (is_signed (answer o command input)) (Err e)
      old new before after leaves keeps;
}

-- devices that weren't asked are as they were
pub untouched_devices : {S G : Type 0} (meanings : S → Meanings) (faults : S → ℕ) (signs : G → SignRelation) (signer_faults : G → ℕ)
    (failed unasked unsigned : Type 0) (suite : S) (signer : G)
    → Devices meanings faults signs signer_faults failed unasked unsigned suite suite signer signer
untouched_devices meanings faults signs signer_faults failed unasked unsigned suite signer = record {
  suite = record { kept = refl; calm = λ other. refl; unasked = λ no. refl };
  signer = record { kept = λ k a m s. (λ x. x, λ x. x); calm = λ other. refl; unasked = λ no. refl };
  one_counts = inl refl;
}
