-- No lines are no text.
use Rattle.std.proofs.Common.{ap, ◌∙◌, ◌++◌, []}
use Rattle.picky_text.specs.Base64.{base64_of}
use Rattle.picky_text.proofs.Base64Laws.{base64_nil}
use Rattle.picky_kv.proofs.block.BlockDecoder.new.Goals as goal

pub returns : goal.returns
returns c = ap (λ l. base64_of l ++ []) c.new.ensures.items ∙ ap (λ l. l ++ []) base64_nil
