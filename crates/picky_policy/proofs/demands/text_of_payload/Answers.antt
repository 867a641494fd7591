-- The string is whole, or something follows it, or there is none.
use Rattle.std.proofs.Common.{◌∙◌, ℕ, List, Some, ap, arith, drop, sym}
use Rattle.std.proofs.lemmas.List.{drop_all, length-drop}
use Rattle.picky_wire_base.specs.View.{why_of, word_bytes}
use Rattle.picky_policy.proofs.DemandLaws.{payload_all, payload_more, payload_none}
use Rattle.picky_policy.proofs.demands.text_of_payload.Goals as goal

pub returns-then-next-payload : goal.returns-then-next-payload
returns-then-next-payload c =
    let payload : List ℕ = c.args.payload.now in
    sym (payload_more payload (word_bytes c.in-Ok.word) (drop c.in-Ok.next payload) c.in-Ok.ensures.sees
    (omega (arith, length-drop c.in-Ok.next payload)))

pub returns-else-next-payload : goal.returns-else-next-payload
returns-else-next-payload c =
    let payload : List ℕ = c.args.payload.now in
    ap Some c.in-Ok.ensures.placed.0.1
    ∙ sym (payload_all payload (word_bytes c.in-Ok.word) (drop c.in-Ok.next payload) c.in-Ok.ensures.sees
    (drop_all c.in-Ok.next payload (omega arith)))

pub returns-in-Err : goal.returns-in-Err
returns-in-Err c = sym (payload_none c.args.payload.now (why_of c.in-Err.field-0) c.in-Err.ensures.sees)
