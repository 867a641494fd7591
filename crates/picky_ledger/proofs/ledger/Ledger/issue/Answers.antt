-- What is made of a new request, and entered.
use Rattle.std.proofs.Common.{◌≡◌, ◌≢◌, ◌∙◌, ℕ, List, Ok, Err, ap, subst, sym}
use Rattle.picky_wire.specs.Count.{Rose}
use Rattle.picky_cert_builder.specs.Built.{IsBuilt}
use Rattle.picky_cert_builder.specs.Draft.{requested}
use Rattle.picky_request.specs.Builder.{asked_of}
use Rattle.picky_ledger.specs.Apply.{last_next, IssuerTerms}
use Rattle.picky_ledger.specs.Entry.{IsEntry, entry_of}
use Rattle.picky_ledger.specs.State.{IsNew, State}
use Rattle.picky_ledger.proofs.ApplyLemmas.{added_applies, new_fault_applies}
use Rattle.picky_ledger.proofs.ledger.Ledger.issue.Goals as goal

pub add-requires-clause-entry : goal.add-requires-clause-entry
add-requires-clause-entry g c =
    subst (λ (id : List ℕ). IsEntry (entry_of id c.args.line.now c.in-Ok.certificate)) (sym c.in-Ok.ensures.fields.0)
    (c.in-Ok.ensures.entry c.args.line.now c.utf8.line c.requires.is)

pub add-requires-clause-serial : goal.add-requires-clause-serial
add-requires-clause-serial g c = c.in-Ok.ensures.fields.1 ∙ ap (λ (s : State). s.next) c.self.view_is

pub add-requires-clause-new : goal.add-requires-clause-new
add-requires-clause-new g c =
    subst (λ (id : List ℕ). IsNew id c.args.self.now.entries) (sym c.in-Ok.ensures.fields.0) c.requires.new

pub returns-in-Ok-clause-applies : goal.returns-in-Ok-clause-applies
returns-in-Ok-clause-applies g c =
    let old = c.args.self.now in
    let made = c.in-Ok.certificate in
    let signs = g.G.Signer.signs c.args.signer.now in
    let t : IssuerTerms = record { issuer = c.args.issuer.now.inner_key; nonce = c.args.nonce.now } in
    let next : c.self.inside.next ≡ old.next = ap (λ (s : State). s.next) c.self.view_is in
    let room : old.next ≢ last_next = λ last. c.if-self.false (next ∙ last) in
    let rose = Rose (g.G.Signer.faults c.args.signer.now) (g.G.Signer.faults c.certificate_for.new.signer) in
    let built = subst (λ (n : ℕ). IsBuilt signs (requested (asked_of t.issuer n c.args.request) t.nonce) rose (Ok made)) next
    c.in-Ok.ensures.answers in
    let entry = c.in-Ok.ensures.entry c.args.line.now c.utf8.line c.requires.is in
    added_applies signs old c.add.new.self c.args.line.now t c.args.request rose made c.add.result room built
    c.in-Ok.ensures.fields.0 entry c.add.ensures.ok c.add.ensures.err

pub returns-in-Err-SignatureError-clause-applies : goal.returns-in-Err-SignatureError-clause-applies
returns-in-Err-SignatureError-clause-applies g c =
    let old = c.args.self.now in
    let signs = g.G.Signer.signs c.args.signer.now in
    let t : IssuerTerms = record { issuer = c.args.issuer.now.inner_key; nonce = c.args.nonce.now } in
    let next : c.self.inside.next ≡ old.next = ap (λ (s : State). s.next) c.self.view_is in
    let room : old.next ≢ last_next = λ last. c.if-self.false (next ∙ last) in
    let rose = Rose (g.G.Signer.faults c.args.signer.now) (g.G.Signer.faults c.certificate_for.new.signer) in
    let e = c.in-Err-SignatureError.field-0 in
    let built = subst (λ (n : ℕ). IsBuilt signs (requested (asked_of t.issuer n c.args.request) t.nonce) rose (Err e)) next
    c.in-Err-SignatureError.ensures.answers in
    new_fault_applies signs old c.args.line.now t c.args.request rose e room c.in-Err-SignatureError.field-0-is built
