-- So many rows does a text have.
use Rattle.std.proofs.Common.{sym, ◌∙◌}
use Rattle.picky_kv.proofs.WriteLemmas.{length-rows_of}
use Rattle.picky_kv.proofs.lines.line_count.Goals as goal

pub returns : goal.returns
returns c = c.div_ceil.ensures ∙ sym (length-rows_of c.args.text.now)
