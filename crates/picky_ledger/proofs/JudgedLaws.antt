-- What is judged of a line, told from the answer.
use Rattle.std.proofs.Common.{◌≡◌, ◌≢◌, ◌∙◌, ℕ, ◌==◌, ◌++◌, Bool, true, false, List, ◌∷◌}
use Rattle.std.proofs.Common.{Option, Some, None, Result, Ok, Err, refl, ap, subst, if◌then◌else◌}
use Rattle.std.specs.List.{AllByRecursion}
use Rattle.std.specs.Option.{ok_or}
use Rattle.std.specs.Prelude.{bytes_eq}
use Rattle.std.proofs.lemmas.Bool.{eqb-false}
use Rattle.std.proofs.lemmas.Slice.Eq.{bytes_eq-Decides}
use Rattle.picky_wire_base.specs.Outcome.{and_then}
use Rattle.picky_wire_base.specs.carried.Outcome.{and_then_ok}
use Rattle.picky_cert_builder.specs.declared.error.SshCertificateGenerationError.{SshCertificateGenerationError}
use Rattle.picky_cert_builder.specs.Draft.{Unsigned, requested}
use Rattle.picky_request.specs.Builder.{asked_of}
use Rattle.picky_request.specs.Request.{request_in}
use Rattle.picky_request.specs.declared.request.CertRequestLine.{CertRequestLine}
use Rattle.picky_ledger.specs.Apply.{SignatureAsked, IssuerTerms, signature_asked, signature_asked_for, issuing, judged_request_line, kept_reply, last_next, unless_kept}
use Rattle.picky_ledger.specs.declared.entry.Entry.{Entry}
use Rattle.picky_ledger.specs.declared.reply.Reply.{Reply}
use Rattle.picky_ledger.specs.declared.reply.Reply.TheVariants as replies
use Rattle.picky_ledger.specs.State.{Differ, IsLedger, State, entry_named}
use Rattle.picky_ledger.specs.Entry.{IsEntry}
use Rattle.picky_ledger.proofs.StateLemmas.{all_inside, named_is}

-- ---- a kept line

kept_again : (e : Entry) → kept_reply e.request e ≡ replies.Again e.serial
kept_again e = rw ((bytes_eq-Decides e.request e.request).1 refl) refl

-- A line that a ledger has is answered with its serial again.
pub kept_is_again : (t : IssuerTerms) (l : State) (front more : List Entry) (e : Entry) → IsLedger l → l.entries ≡ front ++ e ∷ more
    → judged_request_line t l e.request ≡ Err (replies.Again e.serial)
unfolding judged_request_line
kept_is_again t l front more e is entries =
    let each = subst (AllByRecursion IsEntry) entries is.each in
    let entry = all_inside IsEntry front more e each in
    let named = named_is front more e (subst Differ entries is.differ) in
    let found : entry_named entry.asks.id l.entries ≡ Some e =
    ap (λ id. entry_named id l.entries) entry.id ∙ ap (entry_named e.id) entries ∙ named in
    rw entry.request (rw found (ap Err (kept_again e)))

-- ---- a line that asks for a certificate

-- the line is a request with a new id, there is a serial for it, and a certificate is made of it
pub record AsksFor (t : IssuerTerms) (l : State) (line : List ℕ) (a : SignatureAsked) : Type 0 where
  pub request : CertRequestLine
  pub is : request_in line ≡ Some request
  pub id : request.id ≡ a.id
  pub none : entry_named request.id l.entries ≡ None
  pub room : l.next ≢ last_next
  pub made : requested (asked_of t.issuer l.next request) t.nonce ≡ Ok a.unsigned

some_of : {A E : Type 0} (o : Option A) (e : E) (x : A) → ok_or o e ≡ Ok x → o ≡ Some x
some_of (Some y) e x is = cc is
some_of None e x is = absurd (cc is)

else_is : {A E : Type 0} (b : Bool) (e : E) (r : Result A E) (x : A) → (if b then Err e else r) ≡ Ok x → (b ≡ false) × (r ≡ Ok x)
else_is true e r x is = absurd (cc is)
else_is false e r x is = (refl, is)

asked_says : (id : List ℕ) (says : Result Unsigned SshCertificateGenerationError) (a : SignatureAsked) → signature_asked_for id says ≡ Ok a
    → (id ≡ a.id) × (says ≡ Ok a.unsigned)
asked_says id (Ok u) a is =
    let same : signature_asked id u ≡ a = cc is in (ap (λ (v : SignatureAsked). v.id) same, ap (λ (v : SignatureAsked). Ok v.unsigned) same)
asked_says id (Err e) a is = absurd (cc is)

issuing_says : (t : IssuerTerms) (next : ℕ) (r : CertRequestLine) (a : SignatureAsked) → issuing t next r ≡ Ok a
    → (next ≢ last_next) × (r.id ≡ a.id) × (requested (asked_of t.issuer next r) t.nonce ≡ Ok a.unsigned)
unfolding issuing
issuing_says t next r a is =
    let chosen = else_is (next == last_next) replies.Full (signature_asked_for r.id (requested (asked_of t.issuer next r) t.nonce)) a is in
    let asks = asked_says r.id (requested (asked_of t.issuer next r) t.nonce) a chosen.1 in
    (eqb-false next last_next chosen.0, asks.0, asks.1)

unless_says : (t : IssuerTerms) (line : List ℕ) (next : ℕ) (r : CertRequestLine) (o : Option Entry) (a : SignatureAsked)
    → unless_kept t line next r o ≡ Ok a → (o ≡ None) × (issuing t next r ≡ Ok a)
unless_says t line next r None a is = (refl, is)
unless_says t line next r (Some e) a is = absurd (cc is)

pub judged_asks : (t : IssuerTerms) (l : State) (line : List ℕ) (a : SignatureAsked) → judged_request_line t l line ≡ Ok a → AsksFor t l line a
unfolding judged_request_line
judged_asks t l line a is =
    let request = and_then_ok (ok_or (request_in line) replies.BadRequest) _ a is in
    let new = unless_says t line l.next request.0 (entry_named request.0.id l.entries) a request.2 in
    let issues = issuing_says t l.next request.0 a new.1 in
    record {
      request = request.0;
      is = some_of (request_in line) replies.BadRequest request.0 request.1;
      id = issues.1;
      none = new.0;
      room = issues.0;
      made = issues.2;
    }

-- ---- what is answered without the device is no certificate

abbrev IsNoIssue : Reply → Type 0
IsNoIssue reply = (serial : ℕ) → reply ≢ replies.Issued serial

asked_no_issue : (id : List ℕ) (says : Result Unsigned SshCertificateGenerationError) (reply : Reply) → signature_asked_for id says ≡ Err reply
    → IsNoIssue reply
asked_no_issue id (Ok u) reply is = absurd (cc is)
asked_no_issue id (Err e) reply is = λ serial same. cc (is, same)

full_no_issue : (b : Bool) (r : Result SignatureAsked Reply) (reply : Reply) → ((other : Reply) → r ≡ Err other → IsNoIssue other)
    → (if b then Err replies.Full else r) ≡ Err reply → IsNoIssue reply
full_no_issue true r reply each is = λ serial same. cc (is, same)
full_no_issue false r reply each is = each reply is

issuing_no_issue : (t : IssuerTerms) (next : ℕ) (r : CertRequestLine) (reply : Reply) → issuing t next r ≡ Err reply → IsNoIssue reply
unfolding issuing
issuing_no_issue t next r reply is =
    let says : Result Unsigned SshCertificateGenerationError = requested (asked_of t.issuer next r) t.nonce in
    full_no_issue (next == last_next) (signature_asked_for r.id says) reply (asked_no_issue r.id says) is

kept_no_issue : (b : Bool) (serial : ℕ) (reply : Reply) → (if b then replies.Again serial else replies.Conflict serial) ≡ reply
    → IsNoIssue reply
kept_no_issue true serial reply is = λ other same. cc (is, same)
kept_no_issue false serial reply is = λ other same. cc (is, same)

unless_no_issue : (t : IssuerTerms) (line : List ℕ) (next : ℕ) (r : CertRequestLine) (o : Option Entry) (reply : Reply)
    → unless_kept t line next r o ≡ Err reply → IsNoIssue reply
unless_no_issue t line next r None reply is = issuing_no_issue t next r reply is
unless_no_issue t line next r (Some e) reply is =
    let same : kept_reply line e ≡ reply = cc is in kept_no_issue (bytes_eq e.request line) e.serial reply same

request_no_issue : (o : Option CertRequestLine) (next : CertRequestLine → Result SignatureAsked Reply) (reply : Reply)
    → ((r : CertRequestLine) → next r ≡ Err reply → IsNoIssue reply)
    → and_then (ok_or o replies.BadRequest) next ≡ Err reply → IsNoIssue reply
request_no_issue None next reply each is = λ serial same. cc (is, same)
request_no_issue (Some r) next reply each is = each r is

pub judged_no_issue : (t : IssuerTerms) (l : State) (line : List ℕ) (reply : Reply) → judged_request_line t l line ≡ Err reply → (serial : ℕ)
    → reply ≢ replies.Issued serial
unfolding judged_request_line
judged_no_issue t l line reply is =
    request_no_issue (request_in line) (λ r. unless_kept t line l.next r (entry_named r.id l.entries)) reply
    (λ r. unless_no_issue t line l.next r (entry_named r.id l.entries) reply) is
