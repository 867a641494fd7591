-- What `strip_prefix` says, in the words of the definition.
use Rattle.std.proofs.Common.{arith, None}
use Rattle.std.proofs.lemmas.Str.Pattern.{strip_prefix_char}
use Rattle.picky_authorized.proofs.LineLemmas.{neither_is_dropped}
use Rattle.picky_authorized.proofs.content.strip_blank.Goals as goal

pub returns-in-None-clause-none : goal.returns-in-None-clause-none
returns-in-None-clause-none c =
    neither_is_dropped c.args.text.now c.strip_prefix-in-None.result
    (strip_prefix_char 32 c.args.text.now None c.in-None.ensures.cases (omega arith))
    (strip_prefix_char 9 c.args.text.now c.strip_prefix-in-None.result c.strip_prefix-in-None.ensures.cases (omega arith))
