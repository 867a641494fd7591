use Rattle.std.proofs.Common.{◌≡◌, true, subst}
use Rattle.std.specs.Option.{option_copied}
use Rattle.picky_wire_base.specs.Gives.{Gives}
use Rattle.picky_target.specs.declared.error.ConvertError.TheVariants as errors
use Rattle.picky_target.specs.declared.target.KeyTarget.TheVariants as targets
use Rattle.picky_target.specs.Judged.{carries_comment}
use Rattle.picky_target.proofs.EnvelopeLemmas.{drafted_is}
use Rattle.picky_target.proofs.envelope.drafted.Goals as goal

pub returns-in-Ok : goal.returns-in-Ok
returns-in-Ok c =
    let carries : carries_comment (targets.OpenSsh c.args.rounds) c.args.comment.now ≡ true = cc (c.if-not-carries_comment.ensures) in
    subst (Gives errors.NoMemory (λ key. key) c.made.result)
    (drafted_is (record { pass = option_copied c.args.pass; fresh = c.args.fresh.now }) c.args.rounds c.args.key c.args.comment.now c.in-Ok.salt carries
    c.in-Ok.ensures.ok.0 c.in-Ok.ensures.ok.1)
    c.made.ensures
