-- The request's id is new.
use Rattle.std.proofs.Common.{◌≡◌, ◌∙◌, None, Some, ap₂, sym}
use Rattle.picky_request.specs.Request.{request_in}
use Rattle.picky_ledger.specs.State.{entry_named}
use Rattle.picky_ledger_by.proofs.DraftLemmas.{new_draft_is}
use Rattle.picky_ledger_by.proofs.asked.draft_for.Goals as goal

pub returns-in-None-entry_named : goal.returns-in-None-entry_named
returns-in-None-entry_named c =
    let says : Some c.in-Some.request ≡ request_in c.args.line.now = sym c.in-Some.is ∙ c.in_ok-request.ensures in
    let new : None ≡ entry_named c.in-Some.request.id c.args.ledger.now.entries =
    c.in-None-entry_named.ensures ∙ ap₂ (λ i es. entry_named i es) c.as_str.ensures.bytes c.entries.ensures.are in
    new_draft_is c.new_draft.result (record { issuer = c.args.issuer.now.inner_key; nonce = c.args.nonce.now }) c.args.ledger.now
    c.args.line.now c.in-Some.request c.next_serial.result says new c.next_serial.ensures.is c.new_draft.ensures
