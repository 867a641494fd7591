-- One request is a run, and leaves a ledger.
use Rattle.std.proofs.Common.{[], ◌∷◌}
use Rattle.picky_callers.proofs.EnteredLemmas.{entered, unwritten}
use Rattle.picky_callers.proofs.ledger.ledger_after.Goals as goal

pub returns-in-Ok-to_string-clause-ok : goal.returns-in-Ok-to_string-clause-ok
returns-in-Ok-to_string-clause-ok g c =
    let issuer = c.args.issuer.now.inner_key in
    entered (g.G.Signer.signs c.args.signer.now) issuer c.in-Ok.ledger c.apply.new.self c.args.nonce.now c.args.ledger.now
    c.args.request.now _ c.in-Ok-apply.reply _ c.in-Ok.ensures c.entries.ensures.is c.told-nonce
    (λ state rs runs. c.requests_leave_a_ledger.ensures issuer c.in-Ok.ledger state c.args.nonce.now (c.args.request.now ∷ []) rs
    c.entries.ensures.is runs) c.in-Ok-apply.ensures.applies
    c.in-Ok-to_string.ensures

pub returns-in-Ok-apply-clause-refused : goal.returns-in-Ok-apply-clause-refused
returns-in-Ok-apply-clause-refused g c =
    let issuer = c.args.issuer.now.inner_key in
    unwritten
    (λ is. (
      c.in-Ok-apply.reply,
      entered (g.G.Signer.signs c.args.signer.now) issuer c.in-Ok.ledger c.apply.new.self c.args.nonce.now
          c.args.ledger.now c.args.request.now _ c.in-Ok-apply.reply _ c.in-Ok.ensures c.entries.ensures.is c.told-nonce
          (λ state rs runs. c.requests_leave_a_ledger.ensures issuer c.in-Ok.ledger state c.args.nonce.now (c.args.request.now ∷ []) rs
          c.entries.ensures.is runs) c.in-Ok-apply.ensures.applies is,
    ))
    c.in-Err-to_string.ensures
