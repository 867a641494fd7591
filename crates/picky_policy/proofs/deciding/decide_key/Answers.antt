-- The line of a key grants, or memory runs out.
use Rattle.std.proofs.Common.{◌∙◌, ap, sym}
use Rattle.std.specs.Option.{option_map}
use Rattle.picky_policy.specs.inner.Shown.{demands_shown, line_shown}
use Rattle.picky_policy.proofs.DecideLemmas.{key_grants}
use Rattle.picky_policy.proofs.deciding.decide_key.Goals as goal

pub returns-in-Some : goal.returns-in-Some
returns-in-Some c = λ user moment.
    key_grants c.args.entries.now c.args.key.now user moment (line_shown c.in-Some.line) (demands_shown c.nothing.result)
    c.grant.result (sym c.line_for.ensures ∙ ap (option_map line_shown) c.in-Some.is) c.nothing.ensures
    c.grant.ensures.granted c.grant.ensures.no_fault
