-- What the commands that issue certificates answer: the issuer's text is read, and then the key text.
use Rattle.std.proofs.Common.{◌≡◌, ℕ, List, [], Bool, false, Option, None, Some, Result, Ok, Err, refl, sym, ap, ◌∙◌, subst}
use Rattle.std.proofs.Common.{◌⊎◌, inl, inr, ◌&&◌}
use Rattle.std.specs.Prelude.{is_ok}
use Rattle.picky_wire_base.specs.Outcome.{map_err, map_ok}
use Rattle.picky_suite.specs.Asked.{LeavesSuite}
use Rattle.picky_suite.specs.Failures.{IsAskedFault}
use Rattle.picky_suite.specs.Meanings.{Meanings}
use Rattle.picky_wire.specs.Count.{Rose}
use Rattle.picky_cert.specs.Spelled.{signed_of}
use Rattle.picky_cert_builder.specs.Draft.{Unsigned}
use Rattle.picky_issuing.specs.declared.options.CertOptions.{CertOptions}
use Rattle.picky_issuing.specs.Parts.{issuer_text_part, key_part}
use Rattle.picky_key_text.specs.declared.error.ReadError.{ReadError}
use Rattle.picky_key_text.specs.declared.meaning.Key.{Key}
use Rattle.picky_key_text.specs.declared.meaning.Meaning.{Meaning}
use Rattle.picky_key_text.specs.Order.{asks, fault_of as input_fault, reading}
use Rattle.picky_target.specs.declared.error.ConvertError.{ConvertError}
use Rattle.picky_target.specs.declared.error.ConvertError.TheVariants as errors
use Rattle.picky_conversion.specs.Certified.{SignRelation}
use Rattle.picky_conversion.specs.Certify.{IsInputFault, certification, drafting, hex_line}
use Rattle.picky_conversion.specs.Convert.{LeavesAskedSuite}
use Rattle.picky_conversion.specs.Issue.{IsIssuingFault, asks_issuer, asks_key, issued, issued_bytes, issuer_fault}
use Rattle.picky_conversion.specs.Issue.{issuer_read, issuing_asks, unsigned}
use Rattle.picky_conversion.specs.Request.{request_by}
use Rattle.picky_conversion.specs.Made.{AnswersMade, AnswersPlain, LeavesAskedSigner, Made, ToSign, is_signed}
use Rattle.picky_conversion.specs.Outside.{Outside, reader}
use Rattle.picky_conversion.specs.Want.{IsFault}
use Rattle.picky_conversion.specs.Refusal.{issuer_refusal}
use Rattle.picky_conversion.proofs.AnswerLemmas.{ReadingRefuses, either_false, either_true, input_fault_is, refused_gives, refuses_issuer}
use Rattle.picky_conversion.proofs.CertifyLemmas.{certification_is_own, drafting_is_own}
use Rattle.picky_conversion.proofs.JudgedLemmas.{IsOwnConvert, issuer_is_own, mapped_is, next_is}

-- ---- the same answer to what is the same

pub answers_same : {X : Type 0} (signs : SignRelation) (view : X → List ℕ) (says other : Result Made ConvertError)
    (Faults Others : ConvertError → Type 0) (rose : Type 0) (r : Result X ConvertError) → says ≡ other
    → ((e : ConvertError) → Faults e → Others e) → AnswersMade signs view says Faults rose r → AnswersMade signs view other Others rose r
answers_same signs view says other Faults Others rose (Ok x) same each is = (is.0, sym same ∙ is.1, is.2)
answers_same signs view says other Faults Others rose (Err e) same each (inl want) = inl want
answers_same signs view says other Faults Others rose (Err e) same each (inr (inl fault)) = inr (inl (each e fault))
answers_same signs view says other Faults Others rose (Err e) same each (inr (inr (inl left))) =
    inr (inr (inl (left.0, sym same ∙ left.1, left.2)))
answers_same signs view says other Faults Others rose (Err e) same each (inr (inr (inr refused))) =
    inr (inr (inr (sym same ∙ refused)))

-- ---- the issuer

pub issuer_is_read : (o : Outside) (text : List ℕ) (m : Meaning) → reading (reader o) text ≡ Ok m
    → issuer_read o (Some text) ≡ Ok (Some m.key)
issuer_is_read o text m means = rw means refl

pub issuer_is_refused : (o : Outside) (text : List ℕ) (e : ReadError) → reading (reader o) text ≡ Err e
    → issuer_read o (Some text) ≡ Err (errors.Issuer e)
issuer_is_refused o text e refused = rw refused refl

issuer_own : (o : Outside) (issuer : Option (List ℕ)) (e : ConvertError) → issuer_read o issuer ≡ Err e → IsOwnConvert e
issuer_own o None e is = cc is
issuer_own o (Some text) e is =
    next_is IsOwnConvert (map_err errors.Issuer (reading (reader o) text)) (λ m. Ok (Some m.key)) e
    (λ f. mapped_is IsOwnConvert errors.Issuer (reading (reader o) text) f (issuer_is_own (reader o) text)) (λ m f was. cc was) is

pub issued_is_own : (o : Outside) (options : CertOptions) (input : List ℕ) (e : ConvertError) → issued o options input ≡ Err e
    → IsOwnConvert e
unfolding issued
issued_is_own o options input e is =
    next_is IsOwnConvert (issuer_read o (issuer_text_part input)) _ e (issuer_own o (issuer_text_part input))
    (λ issuer f was. certification_is_own o (request_by options issuer) (key_part input) f) is

pub unsigned_is_own : (o : Outside) (options : CertOptions) (input : List ℕ) (e : ConvertError) → unsigned o options input ≡ Err e
    → IsOwnConvert e
unfolding unsigned
unsigned_is_own o options input e is =
    next_is IsOwnConvert (issuer_read o (issuer_text_part input)) _ e (issuer_own o (issuer_text_part input))
    (λ issuer f was. drafting_is_own o (request_by options issuer) (key_part input) f) is

-- ---- what is issued by an issuer that was read

pub issued_by : (o : Outside) (options : CertOptions) (input : List ℕ) (issuer : Option Key)
    → issuer_read o (issuer_text_part input) ≡ Ok issuer → certification o (request_by options issuer) (key_part input) ≡ issued o options input
unfolding issued
issued_by o options input issuer is = rw is refl

pub unsigned_by : (o : Outside) (options : CertOptions) (input : List ℕ) (issuer : Option Key)
    → issuer_read o (issuer_text_part input) ≡ Ok issuer → drafting o (request_by options issuer) (key_part input) ≡ unsigned o options input
unfolding unsigned
unsigned_by o options input issuer is = rw is refl

issued_refused : (o : Outside) (options : CertOptions) (input : List ℕ) (e : ConvertError)
    → issuer_read o (issuer_text_part input) ≡ Err e → issued o options input ≡ Err e
unfolding issued
issued_refused o options input e is = rw is refl

unsigned_refused : (o : Outside) (options : CertOptions) (input : List ℕ) (e : ConvertError)
    → issuer_read o (issuer_text_part input) ≡ Err e → unsigned o options input ≡ Err e
unfolding unsigned
unsigned_refused o options input e is = rw is refl

-- a fault in reading the key text is one in issuing
key_fault : (o : Outside) (input : List ℕ) (issuer : Option Key) (later rose : Type 0)
    → issuer_read o (issuer_text_part input) ≡ Ok issuer → (later → rose) → (e : ConvertError) → IsInputFault o (key_part input) e later
    → IsIssuingFault o input e rose
key_fault o input issuer later rose is whole e fault =
    inr (fault.0, ((rw is fault.1.0), whole fault.1.1))

-- ---- answers

-- how the issuer is read
abbrev pub ReadsIssuer : Outside → Option (List ℕ) → Type 0 → Result (Option Key) ConvertError → Type 0
ReadsIssuer o issuer rose r =
    AnswersPlain (λ key. key) (issuer_read o issuer) (λ e. (e ≡ issuer_fault issuer) × IsAskedFault (asks_issuer o issuer) rose) r

pub issue_gives : {X : Type 0} (signs : SignRelation) (view : X → List ℕ) (o : Outside) (m : Meanings) (options : CertOptions)
    (input : List ℕ) (issuer : Option Key) (before between after : ℕ) (signer_rose : Type 0) (r : Result X ConvertError)
    → issuer_read o (issuer_text_part input) ≡ Ok issuer → m ≡ o.meanings → between ≡ before
    → AnswersMade signs view (map_ok ToSign (certification (record o { meanings = m }) (request_by options issuer) (key_part input)))
    (λ e. IsInputFault (record o { meanings = m }) (key_part input) e (Rose between after)) signer_rose r
    → AnswersMade signs view (map_ok ToSign (issued o options input)) (λ e. IsIssuingFault o input e (Rose before after)) signer_rose r
issue_gives signs view o m options input issuer before between after signer_rose r is same count answers =
    answers_same signs view (map_ok ToSign (certification o (request_by options issuer) (key_part input))) _ _ _ signer_rose r
    (ap (map_ok ToSign) (issued_by o options input issuer is))
    (key_fault o input issuer (Rose between after) (Rose before after) is (λ rose. subst (λ n. Rose n after) count rose))
    (subst (λ n. AnswersMade signs view (map_ok ToSign (certification (record o { meanings = n }) (request_by options issuer) (key_part input)))
    (λ e. IsInputFault (record o { meanings = n }) (key_part input) e (Rose between after)) signer_rose r) same answers)

pub issue_refused : {X : Type 0} (signs : SignRelation) (view : X → List ℕ) (o : Outside) (options : CertOptions) (input : List ℕ)
    (rose signer_rose : Type 0) (e : ConvertError) → ReadsIssuer o (issuer_text_part input) rose (Err e)
    → AnswersMade signs view (map_ok ToSign (issued o options input)) (λ f. IsIssuingFault o input f rose) signer_rose (Err e)
issue_refused signs view o options input rose signer_rose e (inl want) = inl want
issue_refused signs view o options input rose signer_rose e (inr (inl fault)) = inr (inl (inl fault))
issue_refused signs view o options input rose signer_rose e (inr (inr refused)) =
    inr (inr (inr (ap (map_ok ToSign) (issued_refused o options input e refused))))

-- the same of what is printed
pub printed_gives : {X : Type 0} (view : X → List ℕ) (says : Result Unsigned ConvertError) (bytes : List ℕ) (text : X)
    → map_ok (λ u. signed_of u.certificate) says ≡ Ok bytes
    → ((u : Unsigned) → bytes ≡ signed_of u.certificate → view text ≡ hex_line u) → map_ok hex_line says ≡ Ok (view text)
printed_gives view (Ok u) bytes text given printed = ap Ok (sym (printed u (cc given)))
printed_gives view (Err e) bytes text given printed = cc given

pub printed_refused : (says : Result Unsigned ConvertError) (fault : Type 0) (e : ConvertError)
    → (e ≡ errors.NoMemory) ⊎ fault ⊎ (map_ok (λ u. signed_of u.certificate) says ≡ Err e)
    → (e ≡ errors.NoMemory) ⊎ fault ⊎ (map_ok hex_line says ≡ Err e)
printed_refused says fault e (inl want) = inl want
printed_refused says fault e (inr (inl asked)) = inr (inl asked)
printed_refused (Ok u) fault e (inr (inr refused)) = cc refused
printed_refused (Err f) fault e (inr (inr refused)) =
    let same : f ≡ e = cc refused in
    inr (inr (ap Err same))

plain_same : {X : Type 0} (view : X → List ℕ) (says other : Result (List ℕ) ConvertError) (Faults Others : ConvertError → Type 0)
    (r : Result X ConvertError) → says ≡ other → ((e : ConvertError) → Faults e → Others e) → AnswersPlain view says Faults r
    → AnswersPlain view other Others r
plain_same view says other Faults Others (Ok x) same each is = sym same ∙ is
plain_same view says other Faults Others (Err e) same each (inl want) = inl want
plain_same view says other Faults Others (Err e) same each (inr (inl fault)) = inr (inl (each e fault))
plain_same view says other Faults Others (Err e) same each (inr (inr refused)) = inr (inr (sym same ∙ refused))

pub print_gives : {X : Type 0} (view : X → List ℕ) (o : Outside) (m : Meanings) (options : CertOptions) (input : List ℕ)
    (issuer : Option Key) (before between after : ℕ) (r : Result X ConvertError)
    → issuer_read o (issuer_text_part input) ≡ Ok issuer → m ≡ o.meanings → between ≡ before
    → AnswersPlain view (map_ok hex_line (drafting (record o { meanings = m }) (request_by options issuer) (key_part input)))
    (λ e. IsInputFault (record o { meanings = m }) (key_part input) e (Rose between after)) r
    → AnswersPlain view (issued_bytes o options input) (λ e. IsIssuingFault o input e (Rose before after)) r
print_gives view o m options input issuer before between after r is same count answers =
    plain_same view (map_ok hex_line (drafting o (request_by options issuer) (key_part input))) _ _ _ r
    (ap (map_ok hex_line) (unsigned_by o options input issuer is))
    (key_fault o input issuer (Rose between after) (Rose before after) is (λ rose. subst (λ n. Rose n after) count rose))
    (subst (λ n. AnswersPlain view (map_ok hex_line (drafting (record o { meanings = n }) (request_by options issuer) (key_part input)))
    (λ e. IsInputFault (record o { meanings = n }) (key_part input) e (Rose between after)) r) same answers)

pub print_refused : {X : Type 0} (view : X → List ℕ) (o : Outside) (options : CertOptions) (input : List ℕ) (rose : Type 0)
    (e : ConvertError) → ReadsIssuer o (issuer_text_part input) rose (Err e)
    → AnswersPlain {X = X} view (issued_bytes o options input) (λ f. IsIssuingFault o input f rose) (Err e)
print_refused view o options input rose e (inl want) = inl want
print_refused view o options input rose e (inr (inl fault)) = inr (inl (inl fault))
print_refused view o options input rose e (inr (inr refused)) =
    let at = unsigned_refused o options input e refused in inr (inr (rw at refl))

-- ---- the suite

-- its fault is one, and it was asked
issuer_fault_is : (issuer : Option (List ℕ)) → IsFault (issuer_fault issuer)
issuer_fault_is None = input_fault_is []
issuer_fault_is (Some text) = input_fault_is text

pub issuing_fault_asks : (o : Outside) (input : List ℕ) (e : ConvertError) (rose : Type 0) → IsIssuingFault o input e rose
    → IsFault e × IsAskedFault (issuing_asks o input) rose
unfolding issuing_asks
issuing_fault_asks o input e rose (inl fault) = (
  subst IsFault (sym fault.0) (issuer_fault_is (issuer_text_part input)),
  (either_true (asks_issuer o (issuer_text_part input)) (asks_key o input) (inl fault.1.0), fault.1.1),
)
issuing_fault_asks o input e rose (inr fault) = (
  subst IsFault (sym fault.0) (input_fault_is (key_part input)),
  (either_true (asks_issuer o (issuer_text_part input)) (asks_key o input) (inr fault.1.0), fault.1.1),
)

-- it is asked neither for the issuer's text nor for the key text
asks_none : (o : Outside) (input : List ℕ) (issuer : Option Key) → issuer_read o (issuer_text_part input) ≡ Ok issuer
    → issuing_asks o input ≡ false → (asks_issuer o (issuer_text_part input) ≡ false) × (asks o.pass_in (key_part input) ≡ false)
unfolding issuing_asks
asks_none o input issuer is unasked =
    let two = either_false (asks_issuer o (issuer_text_part input)) (asks_key o input) unasked in
    (two.0, sym (ap (λ r. is_ok r && asks o.pass_in (key_part input)) is) ∙ two.1)

pub asks_no_issuer : (o : Outside) (input : List ℕ) → issuing_asks o input ≡ false → asks_issuer o (issuer_text_part input) ≡ false
unfolding issuing_asks
asks_no_issuer o input unasked = (either_false (asks_issuer o (issuer_text_part input)) (asks_key o input) unasked).0

-- two texts are read, one after the other
pub then_leaves : {S A : Type 0} (meanings : S → Meanings) (faults : S → ℕ) (o : Outside) (input : List ℕ) (issuer : Option Key)
    (r : Result A ConvertError) (old between new : S) → issuer_read o (issuer_text_part input) ≡ Ok issuer
    → LeavesAskedSuite {A = Option Key} meanings faults (asks_issuer o (issuer_text_part input)) (Ok issuer) old between
    → LeavesAskedSuite meanings faults (asks o.pass_in (key_part input)) r between new
    → LeavesAskedSuite meanings faults (issuing_asks o input) r old new
then_leaves meanings faults o input issuer r old between new is first second = record {
  kept = second.kept ∙ first.kept;
  counted = λ e was fault.
      subst (λ n. Rose n (faults new)) (first.calm (λ f is fault. cc is)) (second.counted e was fault);
  calm = λ calm. second.calm calm ∙ first.calm (λ f is fault. cc is);
  unasked = λ no.
      let two = asks_none o input issuer is no in second.unasked two.1 ∙ first.unasked two.0;
}

-- the first is refused
pub first_leaves : {S A B : Type 0} (meanings : S → Meanings) (faults : S → ℕ) (o : Outside) (input : List ℕ) (e : ConvertError)
    (old new : S) → LeavesAskedSuite {A = A} meanings faults (asks_issuer o (issuer_text_part input)) (Err e) old new
    → LeavesAskedSuite {A = B} meanings faults (issuing_asks o input) (Err e) old new
first_leaves meanings faults o input e old new leaves = record {
  kept = leaves.kept;
  counted = λ f was fault. let same : f ≡ e = cc was in leaves.counted e refl (subst IsFault same fault);
  calm = λ calm. leaves.calm (λ f was fault. let same : f ≡ e = cc was in calm e refl (subst IsFault same fault));
  unasked = λ no. leaves.unasked (asks_no_issuer o input no);
}

-- ---- the signer

pub issue_signer : {S A : Type 0} (signs : S → SignRelation) (faults : S → ℕ) (o : Outside) (m : Meanings) (options : CertOptions)
    (input : List ℕ) (issuer : Option Key) (r : Result A ConvertError) (old new : S) → issuer_read o (issuer_text_part input) ≡ Ok issuer
    → m ≡ o.meanings
    → LeavesAskedSigner signs faults (is_signed (map_ok ToSign (certification (record o { meanings = m }) (request_by options issuer) (key_part input)))) r old new
    → LeavesAskedSigner signs faults (is_signed (map_ok ToSign (issued o options input))) r old new
issue_signer signs faults o m options input issuer r old new is same leaves =
    let at = subst (λ n. LeavesAskedSigner signs faults (is_signed (map_ok ToSign (certification (record o { meanings = n }) (request_by options issuer) (key_part input)))) r old new) same leaves in
    subst (λ says. LeavesAskedSigner signs faults (is_signed (map_ok ToSign says)) r old new) (issued_by o options input issuer is) at

-- a text that is read leaves the suite so
pub read_leaves : {S A : Type 0} (meanings : S → Meanings) (faults : S → ℕ) (input : List ℕ) (asked : Bool) (m : Meaning) (x : A)
    (old new : S) → LeavesSuite {A = Meaning} {E = ReadError} meanings faults (input_fault input) asked (Ok m) old new
    → LeavesAskedSuite meanings faults asked (Ok x) old new
read_leaves meanings faults input asked m x old new leaves = record {
  kept = leaves.kept;
  counted = λ e is fault. cc is;
  calm = λ calm. leaves.calm;
  unasked = leaves.unasked;
}

-- and an issuer that isn't given leaves it as it was
pub none_leaves : {S A : Type 0} (meanings : S → Meanings) (faults : S → ℕ) (asked : Bool) (x : A) (s : S)
    → LeavesAskedSuite meanings faults asked (Ok x) s s
none_leaves meanings faults asked x s = record {
  kept = refl;
  counted = λ e is fault. cc is;
  calm = λ calm. refl;
  unasked = λ no. refl;
}

-- an issuer's text that is refused
pub issuer_refused : (o : Outside) (text : List ℕ) (e : ReadError) (rose : Type 0) → ReadingRefuses (reader o) text e rose
    → (issuer_refusal e ≡ errors.NoMemory)
    ⊎ ((issuer_refusal e ≡ issuer_fault (Some text)) × IsAskedFault (asks_issuer o (Some text)) rose)
    ⊎ (issuer_read o (Some text) ≡ Err (issuer_refusal e))
issuer_refused o text e rose gives =
    refused_gives (λ f. errors.Issuer f) issuer_refusal refuses_issuer (reader o) text e rose
    (λ f. (f ≡ issuer_fault (Some text)) × IsAskedFault (asks_issuer o (Some text)) rose) (issuer_read o (Some text)) gives
    (λ is asked. (ap errors.Issuer is, asked)) (issuer_is_refused o text e)

-- another value leaves the suite so too, and so does want of memory
pub ok_leaves : {S A B : Type 0} (meanings : S → Meanings) (faults : S → ℕ) (asked : Bool) (x : A) (y : B) (old new : S)
    → LeavesAskedSuite meanings faults asked (Ok x) old new → LeavesAskedSuite meanings faults asked (Ok y) old new
ok_leaves meanings faults asked x y old new leaves = record {
  kept = leaves.kept;
  counted = λ e is fault. cc is;
  calm = λ calm. leaves.calm (λ e is fault. cc is);
  unasked = leaves.unasked;
}

pub want_leaves : {S A B : Type 0} (meanings : S → Meanings) (faults : S → ℕ) (asked : Bool) (x : A) (old new : S)
    → LeavesAskedSuite meanings faults asked (Ok x) old new
    → LeavesAskedSuite {A = B} meanings faults asked (Err errors.NoMemory) old new
want_leaves meanings faults asked x old new leaves = record {
  kept = leaves.kept;
  counted = λ e is fault. let same : e ≡ errors.NoMemory = cc is in absurd (subst IsFault same fault);
  calm = λ calm. leaves.calm (λ e is fault. cc is);
  unasked = leaves.unasked;
}

-- and the signer
pub ok_signs : {S A B : Type 0} (signs : S → SignRelation) (faults : S → ℕ) (asked : Bool) (x : A) (y : B) (old new : S)
    → LeavesAskedSigner signs faults asked (Ok x) old new → LeavesAskedSigner signs faults asked (Ok y) old new
ok_signs signs faults asked x y old new leaves = record {
  kept = leaves.kept;
  calm = λ other. leaves.calm (λ is. cc is);
  unasked = leaves.unasked;
}
