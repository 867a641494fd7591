-- The options are no longer than the line.
use Rattle.std.proofs.Common.{ap, arith, length}
use Rattle.picky_authorized.specs.declared.quotes.PartEnd.TheVariants.{Blank}
use Rattle.picky_authorized.specs.Quotes.{ends_at}
use Rattle.picky_authorized.proofs.QuoteLemmas.{front_no_longer}
use Rattle.picky_authorized.proofs.content.optioned_line.Goals as goal

pub options_of-requires : goal.options_of-requires
options_of-requires c =
    omega (arith, c.requires, ap length c.split_outside.ensures.front, front_no_longer (ends_at Blank) c.args.line.now)
