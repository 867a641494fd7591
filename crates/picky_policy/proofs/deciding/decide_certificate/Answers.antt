-- The issuer's line grants, or memory runs out.
use Rattle.std.proofs.Common.{◌∙◌, ap, sym}
use Rattle.std.specs.Option.{option_map}
use Rattle.picky_wire_base.specs.Outcome.{map_ok}
use Rattle.picky_policy.specs.inner.Shown.{demands_shown, line_shown}
use Rattle.picky_policy.proofs.DecideLemmas.{certificate_grants}
use Rattle.picky_policy.proofs.deciding.decide_certificate.Goals as goal

pub returns-in-Ok-true-clause-decides : goal.returns-in-Ok-true-clause-decides
returns-in-Ok-true-clause-decides g c =
    certificate_grants _ _ _ c.args.entries.now c.args.certificate.now c.args.message.now c.args.user.now c.args.moment
    (line_shown c.in-Some.line) (demands_shown c.in-Ok.demands) c.grant.result
    (sym c.line_for.ensures ∙ ap (option_map line_shown) c.in-Some.is)
    (sym c.judge.ensures ∙ ap (map_ok demands_shown) c.in-Ok.is)
    (c.in-Ok-true.ensures.verifies.says.0 c.in-Ok-true.field-0-test) c.grant.ensures.granted c.grant.ensures.no_fault
