-- What is drafted of the meaning.
use Rattle.std.proofs.Common.{◌∙◌, ap}
use Rattle.picky_wire_base.specs.Outcome.{map_err}
use Rattle.picky_certify.specs.Refusal.{conversion_refusal}
use Rattle.picky_certify.proofs.CertifyLemmas.{draft_refused, drafts, input_refused}
use Rattle.picky_certify.proofs.certifying.draft_request.Goals as goal

pub returns-in-Ok-draft_line-clause-gives : goal.returns-in-Ok-draft_line-clause-gives
returns-in-Ok-draft_line-clause-gives c =
    drafts c.args.request c.args.key.now c.args.fresh.now c.in-Ok.meaning c.in-Ok.ensures
    ∙ ap (map_err conversion_refusal) c.in-Ok-draft_line.ensures.gives

pub returns-in-Err-draft_line-clause-gives : goal.returns-in-Err-draft_line-clause-gives
returns-in-Err-draft_line-clause-gives c =
    draft_refused c.args.request c.args.key.now c.args.fresh.now c.in-Ok.meaning c.in-Err-draft_line.e c.conversion_refusal.result
    c.in-Ok.ensures c.conversion_refusal.ensures c.in-Err-draft_line.ensures.gives

pub returns-in-Err-clause-gives : goal.returns-in-Err-clause-gives
returns-in-Err-clause-gives c = input_refused c.args.request c.args.key.now c.args.fresh.now c.in-Err.e c.in-Err.ensures
