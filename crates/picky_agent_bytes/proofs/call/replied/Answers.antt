-- No bytes fail, and others never do.
use Rattle.std.proofs.Common.{◌<◌, ◌∙◌, length, arith, sym}
use Rattle.std.proofs.lemmas.Bool.{eqb-true}
use Rattle.std.proofs.lemmas.Bool.Decides.{nat_tests}
use Rattle.std.proofs.lemmas.List.{nil_from_length}
use Rattle.std.proofs.lemmas.Result.{IfOk-weaker}
use Rattle.picky_agent_bytes.specs.Call.{IsReply}
use Rattle.picky_agent_bytes.proofs.CallLemmas.{given_reply, unsigned_reply}
use Rattle.picky_agent_bytes.proofs.call.replied.Goals as goal

pub returns-then-is_empty : goal.returns-then-is_empty
returns-then-is_empty c =
    let signature = c.args.signature.now in
    let none = nil_from_length signature (eqb-true (length signature) 0 (sym c.is_empty.ensures ∙ c.if-is_empty.true)) in
    IfOk-weaker c.answer.result _ (IsReply c.args.agent.now c.args.message.now signature)
    (λ reply step. unsigned_reply c.new.result signature c.args.agent.now c.args.message.now reply _ none c.new.ensures.handed step)
    c.answer.ensures.step

pub returns : goal.returns
returns c =
    let signature = c.args.signature.now in
    let some : 0 < length signature = grind (arith, nat_tests, c.is_empty.ensures, c.if-is_empty.false) in
    IfOk-weaker c.answer-2.result _ (IsReply c.args.agent.now c.args.message.now signature)
    (λ reply step. given_reply signature c.args.agent.now c.args.message.now reply _ some step) c.answer-2.ensures.step
