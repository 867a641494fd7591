-- A text that begins with no quote.
use Rattle.std.proofs.Common.{arith, None}
use Rattle.std.proofs.lemmas.Str.Pattern.{strip_prefix_char}
use Rattle.picky_authorized.proofs.ValueLemmas.{unquoted_none}
use Rattle.picky_authorized.proofs.auth_option.value_of.Goals as goal

pub returns-in-None : goal.returns-in-None
returns-in-None c =
    unquoted_none c.args.text.now (strip_prefix_char 34 c.args.text.now None c.in-None.ensures.cases (omega arith))
