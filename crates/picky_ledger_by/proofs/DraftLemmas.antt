-- What is judged of a request line, and the draft of the certificate that it asks for.
use Rattle.std.proofs.Common.{◌≡◌, ◌==◌, ℕ, List, true, false, Option, Some, None, Result, Ok, Err, IfOk, refl, sym, subst}
use Rattle.picky_request.specs.Builder.{asked_of}
use Rattle.picky_request.specs.Request.{request_in}
use Rattle.picky_request.specs.declared.request.CertRequestLine.{CertRequestLine}
use Rattle.picky_cert_builder.specs.Draft.{requested}
use Rattle.picky_cert_builder.specs.Drafted.{IsWholeDraft, draft_shown}
use Rattle.picky_cert_builder.specs.declared.draft.CertificateDraft.{CertificateDraft}
use Rattle.picky_cert_builder.specs.declared.error.SshCertificateGenerationError.{SshCertificateGenerationError}
use Rattle.picky_ledger.specs.Apply.{IssuerTerms, issuing, judged_request_line, last_next}
use Rattle.picky_ledger.specs.State.{State, entry_named}
use Rattle.picky_ledger.specs.declared.entry.Entry.{Entry}
use Rattle.picky_ledger_by.specs.inner.Line.{IsDraftFor}

pub bad_has_none : (t : IssuerTerms) (l : State) (line : List ℕ) → None ≡ request_in line
    → IsDraftFor (judged_request_line t l line) None
unfolding judged_request_line
bad_has_none t l line is = rw (sym is) tt

pub kept_has_none : (t : IssuerTerms) (l : State) (line : List ℕ) (r : CertRequestLine) (e : Entry) → Some r ≡ request_in line
    → Some e ≡ entry_named r.id l.entries → IsDraftFor (judged_request_line t l line) None
unfolding judged_request_line
kept_has_none t l line r e is kept = rw (sym is, sym kept) tt

pub new_has_its_own : (t : IssuerTerms) (l : State) (line : List ℕ) (r : CertRequestLine) (d : Option CertificateDraft)
    → Some r ≡ request_in line → None ≡ entry_named r.id l.entries → IsDraftFor (issuing t l.next r) d
    → IsDraftFor (judged_request_line t l line) d
unfolding judged_request_line
new_has_its_own t l line r d is new own = rw (sym is, sym new) own

pub full_has_none : (t : IssuerTerms) (next : ℕ) (r : CertRequestLine) → (next == last_next) ≡ true
    → IsDraftFor (issuing t next r) None
unfolding issuing
full_has_none t next r full = rw full tt

pub drafted_has_it : (t : IssuerTerms) (next : ℕ) (r : CertRequestLine) (d : CertificateDraft) → (next == last_next) ≡ false
    → requested (asked_of t.issuer next r) t.nonce ≡ Ok (draft_shown d) → IsWholeDraft d → IsDraftFor (issuing t next r) (Some d)
unfolding issuing
drafted_has_it t next r d room is whole = rw (room, is) (refl, whole)

pub refused_has_none : (t : IssuerTerms) (next : ℕ) (r : CertRequestLine) (e : SshCertificateGenerationError)
    → (next == last_next) ≡ false → requested (asked_of t.issuer next r) t.nonce ≡ Err e → IsDraftFor (issuing t next r) None
unfolding issuing
refused_has_none t next r e room is = rw (room, is) tt

pub new_draft_is : {E : Type 0} (result : Result (Option CertificateDraft) E) (t : IssuerTerms) (l : State) (line : List ℕ)
    (r : CertRequestLine) (next : ℕ) → Some r ≡ request_in line → None ≡ entry_named r.id l.entries → next ≡ l.next
    → IfOk result (IsDraftFor (issuing t next r)) → IfOk result (IsDraftFor (judged_request_line t l line))
new_draft_is (Ok d) t l line r next is new same own =
    new_has_its_own t l line r d is new (subst (λ n. IsDraftFor (issuing t n r) d) same own)
new_draft_is (Err e) t l line r next is new same own = own
