-- What the answer of a certificate's builder is to a ledger.
use Rattle.std.proofs.Common.{◌≡◌, ◌≢◌, ℕ, ◌==◌, List, Bool, false, Result, Ok, Err, refl, sym, ap, subst, inl, inr, arith, if◌then◌else◌}
use Rattle.std.specs.Prelude.{IfOk, IfErr}
use Rattle.std.proofs.lemmas.Bool.Decides.{nat_tests}
use Rattle.picky_suite.specs.Signs.{SignRelation}
use Rattle.picky_cert.specs.declared.certificate.SshCertificate.{SshCertificate}
use Rattle.picky_cert_builder.specs.Built.{IsBuilt}
use Rattle.picky_cert_builder.specs.declared.error.SshCertificateGenerationError.{SshCertificateGenerationError}
use Rattle.picky_cert_builder.specs.declared.error.SshCertificateGenerationError.TheVariants as refusals
use Rattle.picky_cert_builder.specs.Draft.{Unsigned, requested}
use Rattle.picky_cert_builder.proofs.OwnLaws.{requested_is_own}
use Rattle.picky_request.specs.Builder.{asked_of}
use Rattle.picky_request.specs.declared.request.CertRequestLine.{CertRequestLine}
use Rattle.picky_ledger.specs.Apply.{Applies, SignatureAsked, IssuerTerms, added, signature_asked_for, issuing, last_next}
use Rattle.picky_ledger.specs.declared.apply.LedgerError.{LedgerError}
use Rattle.picky_ledger.specs.declared.apply.LedgerError.TheVariants as errors
use Rattle.picky_ledger.specs.declared.reply.Reply.{Reply}
use Rattle.picky_ledger.specs.declared.reply.Reply.TheVariants as replies
use Rattle.picky_ledger.specs.Entry.{IsEntry, entry_of}
use Rattle.picky_ledger.specs.State.{State}

-- ---- which stage

issuing_asks : (t : IssuerTerms) (next : ℕ) (r : CertRequestLine) → next ≢ last_next
    → issuing t next r ≡ signature_asked_for r.id (requested (asked_of t.issuer next r) t.nonce)
unfolding issuing
issuing_asks t next r apart =
    let test : (next == last_next) ≡ false = grind (arith, nat_tests) in
    ap (λ (b : Bool). if b then Err replies.Full else signature_asked_for r.id (requested (asked_of t.issuer next r) t.nonce)) test

-- ---- the reply and the ledger

-- want of memory leaves the ledger
memory_applies : (signs : SignRelation) (old new : State) (line : List ℕ) (says : Result SignatureAsked Reply) (rose : Type 0) → new ≡ old
    → Applies signs old line says rose (Err errors.NoMemory) new
memory_applies signs old new line (Ok a) rose same = same
memory_applies signs old new line (Err reply) rose same = same

-- the device's fault comes for what was to be signed
fault_applies : (signs : SignRelation) (old : State) (line id : List ℕ) (says : Result Unsigned SshCertificateGenerationError)
    (rose : Type 0) → IsBuilt signs says rose (Err refusals.SignatureError) → says ≢ Err refusals.SignatureError
    → Applies signs old line (signature_asked_for id says) rose (Err errors.SignerFault) old
fault_applies signs old line id (Ok u) rose built own = elim built [
  | inl same ↦ absurd (cc same)
  | inr both ↦ (both.1, refl)
]
fault_applies signs old line id (Err refused) rose built own = elim built [
  | inl same ↦ absurd (cc same)
  | inr same ↦ absurd (own (ap Err (sym same)))
]

-- a certificate that is entered
issued_applies : (signs : SignRelation) (old new : State) (line id : List ℕ) (says : Result Unsigned SshCertificateGenerationError)
    (rose : Type 0) (c : SshCertificate) (reply : Reply) → IsBuilt signs says rose (Ok c) → IsEntry (entry_of id line c)
    → reply ≡ replies.Issued old.next → new ≡ added old (entry_of id line c)
    → Applies signs old line (signature_asked_for id says) rose (Ok reply) new
issued_applies signs old new line id (Ok u) rose c reply built is_entry answered after = (c, built, is_entry, answered, after)
issued_applies signs old new line id (Err e) rose c reply built is_entry answered after = absurd built

-- ---- the same for a new request

-- what was entered, or not for want of memory
pub added_applies : (signs : SignRelation) (old new : State) (line : List ℕ) (t : IssuerTerms) (r : CertRequestLine) (rose : Type 0)
    (c : SshCertificate) (result : Result Reply LedgerError) → old.next ≢ last_next
    → IsBuilt signs (requested (asked_of t.issuer old.next r) t.nonce) rose (Ok c) → c.key_id ≡ r.id
    → IsEntry (entry_of r.id line c)
    → IfOk result (λ reply. (reply ≡ replies.Issued old.next) × (new ≡ added old (entry_of c.key_id line c)))
    → IfErr result (λ e. (e ≡ errors.NoMemory) × (new ≡ old))
    → Applies signs old line (issuing t old.next r) rose result new
added_applies signs old new line t r rose c (Ok reply) room built id is_entry ok err =
    let says : Result Unsigned SshCertificateGenerationError = requested (asked_of t.issuer old.next r) t.nonce in
    let entered = subst (λ (i : List ℕ). new ≡ added old (entry_of i line c)) id ok.1 in
    subst (λ (s : Result SignatureAsked Reply). Applies signs old line s rose (Ok reply) new) (sym (issuing_asks t old.next r room))
    (issued_applies signs old new line r.id says rose c reply built is_entry ok.0 entered)
added_applies signs old new line t r rose c (Err e) room built id is_entry ok err =
    subst (λ (f : LedgerError). Applies signs old line (issuing t old.next r) rose (Err f) new) (sym err.0)
    (memory_applies signs old new line (issuing t old.next r) rose err.1)

-- the device failed
pub new_fault_applies : (signs : SignRelation) (old : State) (line : List ℕ) (t : IssuerTerms) (r : CertRequestLine) (rose : Type 0)
    (e : SshCertificateGenerationError) → old.next ≢ last_next → e ≡ refusals.SignatureError
    → IsBuilt signs (requested (asked_of t.issuer old.next r) t.nonce) rose (Err e)
    → Applies signs old line (issuing t old.next r) rose (Err errors.SignerFault) old
new_fault_applies signs old line t r rose e room is built =
    let b = asked_of t.issuer old.next r in
    let says : Result Unsigned SshCertificateGenerationError = requested b t.nonce in
    let own : says ≢ Err refusals.SignatureError = λ same. (requested_is_own b t.nonce refusals.SignatureError same).1 refl in
    let fault = subst (λ (f : SshCertificateGenerationError). IsBuilt signs says rose (Err f)) is built in
    subst (λ (s : Result SignatureAsked Reply). Applies signs old line s rose (Err errors.SignerFault) old)
    (sym (issuing_asks t old.next r room)) (fault_applies signs old line r.id says rose fault own)
