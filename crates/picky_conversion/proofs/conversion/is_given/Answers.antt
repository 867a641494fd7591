-- Each part from its own type.
use Rattle.std.proofs.Common.{arith}
use Rattle.picky_conversion.proofs.conversion.is_given.Goals as goal

pub returns : goal.returns
returns c = λ m. record {
  pass_in = c.is_text_where_given.ensures;
  pass = c.is_text_where_given-2.ensures;
  fresh = λ i. omega (arith, c.type_inv.fresh i);
}
