-- What the conversion to a certificate's line answers, from what reading and signing answer.
use Rattle.std.proofs.Common.{◌≡◌, ℕ, List, Bool, true, false, Result, Ok, Err, refl, sym, ap, ◌∙◌, subst, ◌⊎◌, inl, inr}
use Rattle.std.proofs.Common.{if◌then◌else◌}
use Rattle.std.specs.Prelude.{length, nat_le, take, IfErr}
use Rattle.picky_wire_base.specs.{Outcome.{and_then, map_err, map_ok}, Gives.{Gives}}
use Rattle.picky_suite.specs.{Asked.{LeavesSuite}, Meanings.{Meanings}}
use Rattle.picky_keys.specs.LineRefusal.{is_short}
use Rattle.picky_cert_builder.specs.declared.builder.SshCertificateBuilder.{SshCertificateBuilder}
use Rattle.picky_cert_builder.specs.declared.error.SshCertificateGenerationError.{SshCertificateGenerationError}
use Rattle.picky_cert_builder.specs.{Draft.{Unsigned, requested}, Request.{terms_of}, Terms.{judged_terms}}
use Rattle.picky_cert_builder.specs.declared.error.SshCertificateGenerationError.TheVariants as requests
use Rattle.picky_cert_builder.proofs.OwnLaws.{IsOwnGeneration, judged_is_own as judged_request, requested_is_own}
use Rattle.picky_key_text.specs.{declared.error.ReadError.{ReadError}, declared.meaning.Meaning.{Meaning}}
use Rattle.picky_key_text.specs.Order.{fault_of as input_fault, reading}
use Rattle.picky_target.specs.{declared.error.ConvertError.{ConvertError}, Judged.{carries_comment}}
use Rattle.picky_target.specs.declared.error.ConvertError.TheVariants as errors
use Rattle.picky_target.specs.declared.target.KeyTarget.TheVariants as targets
use Rattle.picky_conversion.specs.declared.request.CertRequest.{CertRequest}
use Rattle.picky_conversion.specs.Certified.{Certifies, SignRelation, LeavesDraftSigner}
use Rattle.picky_conversion.specs.Drafted.{drafted, drafted_of, if_line_fits, line_drafted, nonce_in, request_refusal}
use Rattle.picky_conversion.specs.Drafted.{unsigned_line}
use Rattle.picky_conversion.specs.{Request.{builder_asked}, Certify.{IsInputFault, certification, drafting}}
use Rattle.picky_conversion.specs.Convert.{LeavesAskedSuite}
use Rattle.picky_conversion.specs.Made.{AnswersMade, AnswersPlain, LeavesAskedSigner, Made, ToSign, Whole, is_signed}
use Rattle.picky_conversion.specs.{Outside.{Outside, reader}, Want.{IsFault}, Refusal.{input_refusal}}
use Rattle.picky_conversion.proofs.AnswerLemmas.{ReadingRefuses, refused_gives, refuses_input}
use Rattle.picky_conversion.proofs.JudgedLemmas.{IsOwnConvert, mapped_is, next_is, reading_is_own}

-- ---- the order's own refusals

either_is : {A : Type 0} (b : Bool) (x : Result A ConvertError) (f e : ConvertError) → IsOwnConvert f → (x ≡ Err e → IsOwnConvert e)
    → (if b then x else Err f) ≡ Err e → IsOwnConvert e
either_is true x f e own first is = first is
either_is false x f e own first is = let same : f ≡ e = cc is in subst IsOwnConvert same own

request_is_own : (e : SshCertificateGenerationError) → IsOwnGeneration e → IsOwnConvert (request_refusal e)
request_is_own requests.NoMemory own = absurd (own.0 refl)
request_is_own requests.SignatureError own = absurd (own.1 refl)
request_is_own requests.TooLong own = (λ want. cc want, λ fault. fault, λ fault. fault)
request_is_own (requests.UnsupportedCertificateKeyType t) own = (λ want. cc want, λ fault. fault, λ fault. cc fault)
request_is_own requests.IncorrectSignatureAlgorithm own = (λ want. cc want, λ fault. fault, λ fault. cc fault)
request_is_own requests.MissingPublicKey own = (λ want. cc want, λ fault. fault, λ fault. cc fault)
request_is_own requests.MissingCertificateType own = (λ want. cc want, λ fault. fault, λ fault. cc fault)
request_is_own requests.InvalidTime own = (λ want. cc want, λ fault. fault, λ fault. cc fault)
request_is_own requests.MissingSignatureKey own = (λ want. cc want, λ fault. fault, λ fault. cc fault)
request_is_own requests.HostCertificateExtensions own = (λ want. cc want, λ fault. fault, λ fault. cc fault)
request_is_own requests.HostCertificateCriticalOptions own = (λ want. cc want, λ fault. fault, λ fault. cc fault)
request_is_own requests.NoKeyType own = (λ want. cc want, λ fault. fault, λ fault. cc fault)

own_comment : IsOwnConvert errors.CommentNotCarried
own_comment = (λ want. cc want, λ fault. fault, λ fault. fault)

own_fresh : IsOwnConvert errors.FreshTooShort
own_fresh = (λ want. cc want, λ fault. fault, λ fault. fault)

pub own_length : IsOwnConvert errors.TooLong
own_length = (λ want. cc want, λ fault. fault, λ fault. fault)

nonce_is_own : (fresh : List ℕ) (e : ConvertError) → nonce_in fresh ≡ Err e → IsOwnConvert e
nonce_is_own fresh e is = either_is (nat_le 32 (length fresh)) (Ok (take 32 fresh)) errors.FreshTooShort e own_fresh (λ is. cc is) is

drafted_of_is_own : (b : SshCertificateBuilder) (fresh : List ℕ) (e : ConvertError) → drafted_of b fresh ≡ Err e → IsOwnConvert e
unfolding drafted_of
drafted_of_is_own b fresh e is =
    next_is IsOwnConvert (map_err request_refusal (judged_terms (terms_of b)))
    (λ _. and_then (nonce_in fresh) (λ nonce. map_err request_refusal (requested b nonce))) e
    (λ f. mapped_is IsOwnConvert request_refusal (judged_terms (terms_of b)) f (λ g was. request_is_own g (judged_request (terms_of b) g was)))
    (λ fit f was. next_is IsOwnConvert (nonce_in fresh) (λ nonce. map_err request_refusal (requested b nonce)) f (nonce_is_own fresh)
    (λ nonce g so. mapped_is IsOwnConvert request_refusal (requested b nonce) g (λ h was. request_is_own h (requested_is_own b nonce h was)))) is

drafted_is_own : (request : CertRequest) (m : Meaning) (fresh : List ℕ) (e : ConvertError) → drafted request m fresh ≡ Err e → IsOwnConvert e
unfolding drafted
drafted_is_own request m fresh e is =
    either_is (carries_comment targets.OpenSshPublic m.comment) _ errors.CommentNotCarried e own_comment
    (drafted_of_is_own (builder_asked request m) fresh e) is

pub line_is_own : (request : CertRequest) (m : Meaning) (fresh : List ℕ) (e : ConvertError) → line_drafted request m fresh ≡ Err e
    → IsOwnConvert e
unfolding line_drafted
line_is_own request m fresh e is =
    next_is IsOwnConvert (drafted request m fresh) if_line_fits e (drafted_is_own request m fresh)
    (λ u f was. either_is (is_short (unsigned_line u.certificate)) (Ok u) errors.TooLong f own_length (λ is. cc is)) is

pub certification_is_own : (o : Outside) (request : CertRequest) (input : List ℕ) (e : ConvertError)
    → certification o request input ≡ Err e → IsOwnConvert e
unfolding certification
certification_is_own o request input e is =
    next_is IsOwnConvert (map_err errors.Input (reading (reader o) input)) (λ m. line_drafted request m o.output.fresh) e
    (reading_is_own (reader o) input) (λ m f was. line_is_own request m o.output.fresh f) is

pub drafting_is_own : (o : Outside) (request : CertRequest) (input : List ℕ) (e : ConvertError)
    → drafting o request input ≡ Err e → IsOwnConvert e
unfolding drafting
drafting_is_own o request input e is =
    next_is IsOwnConvert (map_err errors.Input (reading (reader o) input)) (λ m. drafted request m o.output.fresh) e
    (reading_is_own (reader o) input) (λ m f was. drafted_is_own request m o.output.fresh f) is

-- ---- where no device signs

pub plain_made : {X : Type 0} (signs : SignRelation) (view : X → List ℕ) (says : Result (List ℕ) ConvertError)
    (Faults : ConvertError → Type 0) (rose : Type 0) (r : Result X ConvertError) → AnswersPlain view says Faults r
    → AnswersMade signs view (map_ok Whole says) Faults rose r
plain_made signs view says Faults rose (Ok x) is = (Whole (view x), ap (map_ok Whole) is, refl)
plain_made signs view says Faults rose (Err e) (inl want) = inl want
plain_made signs view says Faults rose (Err e) (inr (inl fault)) = inr (inl fault)
plain_made signs view says Faults rose (Err e) (inr (inr refused)) = inr (inr (inr (ap (map_ok Whole) refused)))

pub still : {S A : Type 0} (signs : S → SignRelation) (faults : S → ℕ) (asked : Bool) (r : Result A ConvertError) (s : S)
    → LeavesAskedSigner signs faults asked r s s
still signs faults asked r s = record {
  kept = λ k a m b. (λ x. x, λ x. x);
  calm = λ other. refl;
  unasked = λ no. refl;
}

-- ---- where one does

-- what is said of a meaning
pub certification_of : (o : Outside) (request : CertRequest) (input : List ℕ) (m : Meaning) → reading (reader o) input ≡ Ok m
    → certification o request input ≡ line_drafted request m o.output.fresh
unfolding certification
certification_of o request input m means = rw means refl

pub certification_refused : (o : Outside) (request : CertRequest) (input : List ℕ) (e : ReadError) → reading (reader o) input ≡ Err e
    → certification o request input ≡ Err (errors.Input e)
unfolding certification
certification_refused o request input e refused = rw refused refl

certifies_gives : (Faults : ConvertError → Type 0) (signs : SignRelation) (says : Result Unsigned ConvertError) (rose : Type 0)
    (r : Result (List ℕ) ConvertError) → Certifies signs says rose r
    → AnswersMade signs (λ text. text) (map_ok ToSign says) Faults rose r
certifies_gives Faults signs (Ok u) rose (Ok text) is = (ToSign u, refl, is)
certifies_gives Faults signs (Ok u) rose (Err e) (inl want) = inl want
certifies_gives Faults signs (Ok u) rose (Err e) (inr left) = inr (inr (inl (ToSign u, refl, left)))
certifies_gives Faults signs (Err f) rose (Ok text) is = absurd is
certifies_gives Faults signs (Err f) rose (Err e) (inl want) = inl want
certifies_gives Faults signs (Err f) rose (Err e) (inr is) = inr (inr (inr (ap Err (sym is))))

pub certified_gives : (signs : SignRelation) (o : Outside) (request : CertRequest) (input : List ℕ) (m : Meaning)
    (Faults : ConvertError → Type 0) (rose : Type 0) (r : Result (List ℕ) ConvertError) → reading (reader o) input ≡ Ok m
    → Certifies signs (line_drafted request m o.output.fresh) rose r
    → AnswersMade signs (λ text. text) (map_ok ToSign (certification o request input)) Faults rose r
certified_gives signs o request input m Faults rose r means is =
    rw (certification_of o request input m means) (certifies_gives Faults signs (line_drafted request m o.output.fresh) rose r is)

-- no refusal of it is the suite's fault
certifies_no_fault : (signs : SignRelation) (request : CertRequest) (m : Meaning) (fresh : List ℕ) (says : Result Unsigned ConvertError)
    (rose : Type 0) (e : ConvertError) → line_drafted request m fresh ≡ says → Certifies signs says rose (Err e) → IsFault e → ⊥
certifies_no_fault signs request m fresh (Ok u) rose e same (inl want) fault = absurd (subst IsFault want fault)
certifies_no_fault signs request m fresh (Ok u) rose e same (inr (inl device)) fault = absurd (subst IsFault device.0 fault)
certifies_no_fault signs request m fresh (Ok u) rose e same (inr (inr long)) fault = absurd (subst IsFault long.0 fault)
certifies_no_fault signs request m fresh (Err f) rose e same (inl want) fault = absurd (subst IsFault want fault)
certifies_no_fault signs request m fresh (Err f) rose e same (inr is) fault =
    (line_is_own request m fresh f same).1 (subst IsFault is fault)

pub certified_leaves : {S : Type 0} (meanings : S → Meanings) (faults : S → ℕ) (signs : SignRelation) (request : CertRequest)
    (m : Meaning) (input : List ℕ) (fresh : List ℕ) (asked : Bool) (rose : Type 0) (r : Result (List ℕ) ConvertError) (old new : S)
    → LeavesSuite {A = Meaning} {E = ReadError} meanings faults (input_fault input) asked (Ok m) old new
    → Certifies signs (line_drafted request m fresh) rose r → LeavesAskedSuite meanings faults asked r old new
certified_leaves meanings faults signs request m input fresh asked rose (Ok text) old new leaves is = record {
  kept = leaves.kept;
  counted = λ e is fault. cc is;
  calm = λ calm. leaves.calm;
  unasked = leaves.unasked;
}
certified_leaves meanings faults signs request m input fresh asked rose (Err e) old new leaves is = record {
  kept = leaves.kept;
  counted = λ f was fault.
      let same : f ≡ e = cc was in
      absurd (certifies_no_fault signs request m fresh (line_drafted request m fresh) rose e refl is (subst IsFault same fault));
  calm = λ calm. leaves.calm;
  unasked = leaves.unasked;
}

-- a device that isn't asked
not_signed : (says : Result Unsigned ConvertError) (Same : Type 0) → is_signed (map_ok ToSign says) ≡ false
    → IfErr says (λ e. Same) → Same
not_signed (Ok u) Same none same = cc none
not_signed (Err e) Same none same = same

pub certified_signer : {S A : Type 0} (signs : S → SignRelation) (faults : S → ℕ) (o : Outside) (request : CertRequest)
    (input : List ℕ) (m : Meaning) (r : Result A ConvertError) (old new : S) → reading (reader o) input ≡ Ok m
    → LeavesDraftSigner signs faults (line_drafted request m o.output.fresh) r old new
    → LeavesAskedSigner signs faults (is_signed (map_ok ToSign (certification o request input))) r old new
certified_signer signs faults o request input m r old new means leaves = record {
  kept = leaves.kept;
  calm = leaves.calm;
  unasked = λ no.
      not_signed (line_drafted request m o.output.fresh) (new ≡ old)
      (ap (λ says. is_signed (map_ok ToSign says)) (sym (certification_of o request input m means)) ∙ no) leaves.unasked;
}

-- ---- a refusal, as what may be signed

pub refused_made : {X A : Type 0} (signs : SignRelation) (view : X → List ℕ) (make : A → Made) (says : Result A ConvertError)
    (Faults : ConvertError → Type 0) (rose : Type 0) (e : ConvertError)
    → (e ≡ errors.NoMemory) ⊎ Faults e ⊎ (says ≡ Err e) → AnswersMade {X = X} signs view (map_ok make says) Faults rose (Err e)
refused_made signs view make says Faults rose e (inl want) = inl want
refused_made signs view make says Faults rose e (inr (inl fault)) = inr (inl fault)
refused_made signs view make says Faults rose e (inr (inr refused)) = inr (inr (inr (ap (map_ok make) refused)))

-- ---- what is to be signed, as bytes

pub drafting_of : (o : Outside) (request : CertRequest) (input : List ℕ) (m : Meaning) → reading (reader o) input ≡ Ok m
    → drafting o request input ≡ drafted request m o.output.fresh
unfolding drafting
drafting_of o request input m means = rw means refl

pub drafting_refused : (o : Outside) (request : CertRequest) (input : List ℕ) (e : ReadError) → reading (reader o) input ≡ Err e
    → drafting o request input ≡ Err (errors.Input e)
unfolding drafting
drafting_refused o request input e refused = rw refused refl

pub drafted_gives : {A : Type 0} (view : Unsigned → A) (o : Outside) (request : CertRequest) (input : List ℕ) (m : Meaning)
    (Faults : ConvertError → Type 0) (r : Result A ConvertError) → reading (reader o) input ≡ Ok m
    → Gives errors.NoMemory (λ x. x) r (map_ok view (drafted request m o.output.fresh))
    → AnswersPlain (λ x. x) (map_ok view (drafting o request input)) Faults r
drafted_gives view o request input m Faults (Ok x) means gives = ap (map_ok view) (drafting_of o request input m means) ∙ gives
drafted_gives view o request input m Faults (Err e) means (inl want) = inl want
drafted_gives view o request input m Faults (Err e) means (inr refused) =
    inr (inr (ap (map_ok view) (drafting_of o request input m means) ∙ refused))

mapped_err : {A B : Type 0} (f : A → B) (r : Result A ConvertError) (e : ConvertError) → map_ok f r ≡ Err e → r ≡ Err e
mapped_err f (Ok x) e is = cc is
mapped_err f (Err g) e is = let same : g ≡ e = cc is in ap Err same

-- no refusal of it is the suite's fault
drafted_no_fault : {A : Type 0} (view : Unsigned → A) (request : CertRequest) (m : Meaning) (fresh : List ℕ) (e : ConvertError)
    → Gives {X = A} errors.NoMemory (λ x. x) (Err e) (map_ok view (drafted request m fresh)) → IsFault e → ⊥
drafted_no_fault view request m fresh e (inl want) fault = absurd (subst IsFault want fault)
drafted_no_fault view request m fresh e (inr refused) fault =
    (drafted_is_own request m fresh e (mapped_err view (drafted request m fresh) e refused)).1 fault

pub drafted_leaves : {S A : Type 0} (view : Unsigned → A) (meanings : S → Meanings) (faults : S → ℕ) (request : CertRequest)
    (m : Meaning) (input fresh : List ℕ) (asked : Bool) (r : Result A ConvertError) (old new : S)
    → LeavesSuite {A = Meaning} {E = ReadError} meanings faults (input_fault input) asked (Ok m) old new
    → Gives errors.NoMemory (λ x. x) r (map_ok view (drafted request m fresh)) → LeavesAskedSuite meanings faults asked r old new
drafted_leaves view meanings faults request m input fresh asked (Ok x) old new leaves gives = record {
  kept = leaves.kept;
  counted = λ e is fault. cc is;
  calm = λ calm. leaves.calm;
  unasked = leaves.unasked;
}
drafted_leaves view meanings faults request m input fresh asked (Err e) old new leaves gives = record {
  kept = leaves.kept;
  counted = λ f was fault.
      let same : f ≡ e = cc was in absurd (drafted_no_fault view request m fresh e gives (subst IsFault same fault));
  calm = λ calm. leaves.calm;
  unasked = leaves.unasked;
}

-- ---- a key text that is refused

pub input_refused : {A : Type 0} (o : Outside) (input : List ℕ) (e : ReadError) (rose : Type 0) (says : Result A ConvertError)
    → ReadingRefuses (reader o) input e rose → (reading (reader o) input ≡ Err e → says ≡ Err (errors.Input e))
    → (input_refusal e ≡ errors.NoMemory) ⊎ IsInputFault o input (input_refusal e) rose ⊎ (says ≡ Err (input_refusal e))
input_refused o input e rose says gives refused =
    refused_gives (λ f. errors.Input f) input_refusal refuses_input (reader o) input e rose (λ f. IsInputFault o input f rose) says gives
    (λ is asked. (ap errors.Input is, asked)) refused

-- ---- the devices

-- the same answer of another value leaves the suite and the signer as it did
pub still_leaves : {S A B : Type 0} (meanings : S → Meanings) (faults : S → ℕ) (asked : Bool) (e : ConvertError) (old new : S)
    → LeavesAskedSuite {A = A} meanings faults asked (Err e) old new
    → LeavesAskedSuite {A = B} meanings faults asked (Err e) old new
still_leaves meanings faults asked e old new leaves = record {
  kept = leaves.kept;
  counted = λ f is fault. let same : f ≡ e = cc is in leaves.counted e refl (subst IsFault same fault);
  calm = λ calm. leaves.calm (λ f is fault. let same : f ≡ e = cc is in calm e refl (subst IsFault same fault));
  unasked = leaves.unasked;
}

pub still_signs : {S A B : Type 0} (signs : S → SignRelation) (faults : S → ℕ) (asked : Bool) (e : ConvertError) (old new : S)
    → LeavesAskedSigner {A = A} signs faults asked (Err e) old new → LeavesAskedSigner {A = B} signs faults asked (Err e) old new
still_signs signs faults asked e old new leaves = record {
  kept = leaves.kept;
  calm = λ other. leaves.calm (λ is. let same : e ≡ errors.Request requests.SignatureError = cc is in other (ap Err same));
  unasked = leaves.unasked;
}

-- no more than one of the two counts moved
pub one_counted : {S G A : Type 0} (meanings : S → Meanings) (faults : S → ℕ) (asked : Bool) (signs : G → SignRelation) (signer_faults : G → ℕ)
    (signed : Bool) (r : Result A ConvertError) (old new : S) (before after : G) → LeavesAskedSuite meanings faults asked r old new
    → LeavesAskedSigner signs signer_faults signed r before after → (faults new ≡ faults old) ⊎ (signer_faults after ≡ signer_faults before)
one_counted meanings faults asked signs signer_faults signed (Ok x) old new before after suite signer = inl (suite.calm (λ e is fault. cc is))
one_counted meanings faults asked signs signer_faults signed (Err (errors.Request requests.SignatureError)) old new before after suite signer =
    inl (suite.calm (λ e is fault. let same : e ≡ errors.Request requests.SignatureError = cc is in subst IsFault same fault))
one_counted meanings faults asked signs signer_faults signed (Err e) old new before after suite signer = inr (signer.calm (λ is. cc is))
