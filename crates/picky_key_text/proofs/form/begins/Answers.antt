-- The test as the function of the definition.
use Rattle.std.proofs.lemmas.Str.Pattern.{starts_text}
use Rattle.picky_key_text.proofs.form.begins.Goals as goal

pub returns : goal.returns
returns c = starts_text c.starts_with.result c.args.start.now c.args.text.now c.starts_with.ensures.cases
