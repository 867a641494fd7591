-- No option is left.
use Rattle.std.proofs.Common.{arith}
use Rattle.std.specs.Option.{option_copied}
use Rattle.picky_policy.proofs.DemandLaws.{one_ends}
use Rattle.picky_policy.proofs.demands.one_of.Goals as goal

pub returns : goal.returns
returns c =
    one_ends c.args.wanted (option_copied c.options.found) c.options.rest.now c.args.options.now
    (omega (arith, c.in_default.len_below)) c.options.invariant
