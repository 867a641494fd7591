use Rattle.std.proofs.Common.{◌∙◌, sym, ap, inr, List, ℕ}
use Rattle.std.specs.Prelude.{Ok}
use Rattle.picky_ask.proofs.TableLemmas.{past_end, string_is}
use Rattle.picky_ask.proofs.table.string_in.Goals as goal

pub returns-then-rest-len : goal.returns-then-rest-len
returns-then-rest-len c =
    let found = c.in-Ok.found in
    inr (past_end c.args.bytes.now c.split_at.result.1.now found.0
    (c.in-Ok.ensures.sees ∙ ap (λ (r : List ℕ). Ok (found.0, r)) (sym c.split_at.ensures.back)) c.if-rest-len.true)

pub returns : goal.returns
returns c =
    let found = c.in-Ok.found in
    let parts = c.split_at-2 in
    string_is c.args.bytes.now c.split_at.result.1.now parts.result.0.now parts.result.1.now found.0
    (c.in-Ok.ensures.sees ∙ ap (λ (r : List ℕ). Ok (found.0, r)) (sym c.split_at.ensures.back)) c.if-rest-len.false
    parts.ensures.front parts.ensures.back
