-- What is come to of a certificate by what a signer of answers says.
use Rattle.std.proofs.Common.{◌≡◌, ◌⊎◌, ◌∙◌, ◌≤◌, ◌^◌, ℕ, List, None, Option, Some, Result, Ok, Err, ap, sym, subst, inl, inr, refl}
use Rattle.std.proofs.Common.{arith, length}
use Rattle.picky_keys.specs.Key.{public_key_of}
use Rattle.picky_keys.specs.PrivateKey.{issuer_key}
use Rattle.picky_ask.specs.Head.{head_of}
use Rattle.picky_ask.specs.Lookup.{answer_to}
use Rattle.picky_ask.specs.Question.{IsQuestion}
use Rattle.picky_ask.specs.Signing.{LooksUpSignature, SignerState, fresh_signer, sign_question}
use Rattle.picky_ask.specs.State.{IsTooLong}
use Rattle.picky_ask.specs.declared.missing.Missing.{Missing}
use Rattle.picky_ask.specs.declared.missing.Missing.TheVariants as missings
use Rattle.picky_ask.specs.declared.question.Entry.{Entry}
use Rattle.picky_ask.specs.declared.question.Question.{Question}
use Rattle.picky_suite.specs.declared.signer.SignError.{SignError}
use Rattle.picky_suite.specs.declared.signer.SignError.TheVariants as signers
use Rattle.picky_cert_parts.specs.declared.error.SshCertificateError.TheVariants as lines
use Rattle.picky_cert.specs.Line.{IsReadBackCertificate}
use Rattle.picky_cert.specs.LineRefusal.{cert_line_text}
use Rattle.picky_cert_builder.specs.Draft.{Unsigned, signed_with}
use Rattle.picky_cert_builder.specs.Drafted.{IsWholeDraft, draft_shown}
use Rattle.picky_cert_builder.specs.Keeps.{without_key_comments}
use Rattle.picky_cert_builder.specs.declared.draft.CertificateDraft.{CertificateDraft}
use Rattle.picky_target.specs.declared.error.ConvertError.TheVariants as conversions
use Rattle.picky_conversion.specs.Certified.{IsLineOf}
use Rattle.picky_certify.specs.Certified.{AsksFor, IsUnanswered, IsUnsigned, SignedBy, Signs, question_for}
use Rattle.picky_certify.specs.declared.error.CertifyError.{CertifyError}
use Rattle.picky_certify.specs.declared.error.CertifyError.TheVariants as errors
use Rattle.picky_certify.specs.declared.signing.Certified.{Certified}
use Rattle.picky_certify.specs.declared.signing.Certified.TheVariants as rounds

-- a draft asks for the signature of its certificate
pub question_is : (d : CertificateDraft) → IsWholeDraft d
    → sign_question (issuer_key d.issuer) d.algorithm d.message ≡ question_for (draft_shown d)
question_is d whole =
    ap (λ k. sign_question k d.algorithm d.message) whole.issuer
    ∙ ap (λ m. sign_question (public_key_of d.certificate.signature_key.inner_key) d.algorithm m) whole.message

pub line_is_signed : (entries : List Entry) (u : Unsigned) (signature line : List ℕ)
    → answer_to (question_for u) entries ≡ Some signature
    → cert_line_text (signed_with u.certificate signature) ≡ Ok line
    → IsReadBackCertificate (without_key_comments (signed_with u.certificate signature)) → IsLineOf (SignedBy entries) u line
line_is_signed entries u signature line good text back =
    (signed_with u.certificate signature, (signature, refl, good), back, text)

pub line_is_refused : (entries : List Entry) (u : Unsigned) (signature : List ℕ) (e : CertifyError)
    → answer_to (question_for u) entries ≡ Some signature
    → (e ≡ errors.NoMemory)
    ⊎ ((e ≡ errors.Refused conversions.TooLong) × (cert_line_text (signed_with u.certificate signature) ≡ Err lines.TooLong))
    → (e ≡ errors.NoMemory) ⊎ IsUnsigned entries u e
line_is_refused entries u signature e good (inl want) = inl want
line_is_refused entries u signature e good (inr long) =
    inr (inl (long.0, (signed_with u.certificate signature, (signature, refl, good), long.1)))

-- ---- where the table has no answer

no_bytes : (q : Question) → IsTooLong q → IsQuestion q → ⊥
no_bytes q long is = long (is.head, is.text)

pub head_too_long : (q : Question) → 2 ^ 32 ≤ length (head_of q.head) → IsQuestion q → ⊥
head_too_long q long is = omega (arith, long, is.short)

question_left : (entries : List Entry) (u : Unsigned) (result : Result Certified CertifyError) → answer_to (question_for u) entries ≡ None
    → AsksFor (question_for u) result → Signs entries u result
question_left entries u (Ok (rounds.Line bytes)) none is = absurd is
question_left entries u (Ok (rounds.Question bytes)) none is = (none, is)
question_left entries u (Err e) none (inl want) = inl want
question_left entries u (Err e) none (inr long) = inr (inr long)

pub unanswered_signs : (entries : List Entry) (u : Unsigned) (q : Question) (old new : SignerState) (missing : Option Missing)
    (result : Result Certified CertifyError) → q ≡ question_for u → old.entries ≡ entries
    → LooksUpSignature q (Err signers.Failed) old new → missing ≡ new.missing → IsUnanswered missing result → Signs entries u result
unanswered_signs entries u q old new missing result same table (inl (none, fails)) left is =
    let asked : missing ≡ Some (missings.Asked q) = left ∙ ap (λ s. s.missing) fails in
    let asks = subst (λ m. IsUnanswered m result) asked is in
    question_left entries u result (subst (λ es. answer_to (question_for u) es ≡ None) table (subst (λ r. answer_to r old.entries ≡ None) same none))
    (subst (λ r. AsksFor r result) same asks)
unanswered_signs entries u q old new missing result same table (inr (long, fails)) left is =
    let asked : missing ≡ Some missings.TooLong = left ∙ ap (λ s. s.missing) fails in
    let refused : result ≡ Err errors.TooLong = subst (λ m. IsUnanswered m result) asked is in
    subst (Signs entries u) (sym refused) (inr (inr (refl, subst (λ r. IsQuestion r → ⊥) same (no_bytes q long))))

-- ---- the table's signature

pub table_signed : (entries : List Entry) (d : CertificateDraft) (message signature : List ℕ) (old : SignerState) → IsWholeDraft d
    → message ≡ d.message → old ≡ fresh_signer entries
    → answer_to (sign_question (issuer_key d.issuer) d.algorithm message) old.entries ≡ Some signature
    → answer_to (question_for (draft_shown d)) entries ≡ Some signature
table_signed entries d message signature old whole same fresh good =
    let asked = ap (λ m. sign_question (issuer_key d.issuer) d.algorithm m) same ∙ question_is d whole in
    let table : old.entries ≡ entries = ap (λ (s : SignerState). s.entries) fresh in
    subst (λ es. answer_to (question_for (draft_shown d)) es ≡ Some signature) table
    (subst (λ q. answer_to q old.entries ≡ Some signature) asked good)

pub draft_unanswered : (entries : List Entry) (d : CertificateDraft) (message : List ℕ) (e : SignError) (old new : SignerState) (missing : Option Missing)
    (result : Result Certified CertifyError) → IsWholeDraft d → message ≡ d.message → old ≡ fresh_signer entries
    → e ≡ signers.Failed → LooksUpSignature (sign_question (issuer_key d.issuer) d.algorithm message) (Err e) old new → missing ≡ new.missing
    → IsUnanswered missing result → Signs entries (draft_shown d) result
draft_unanswered entries d message e old new missing result whole same fresh failed fails left is =
    unanswered_signs entries (draft_shown d) (sign_question (issuer_key d.issuer) d.algorithm message) old new missing result
    (ap (λ m. sign_question (issuer_key d.issuer) d.algorithm m) same ∙ question_is d whole) (ap (λ (s : SignerState). s.entries) fresh)
    (subst (λ f. LooksUpSignature (sign_question (issuer_key d.issuer) d.algorithm message) (Err f) old new) failed fails) left is
