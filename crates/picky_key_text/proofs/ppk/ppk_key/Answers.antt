-- The suite is asked of the text as of its file.
use Rattle.std.specs.Option.{option_copied}
use Rattle.picky_key_text.proofs.ReadingLaws.{file_leaves}
use Rattle.picky_key_text.proofs.ppk.ppk_key.Goals as goal

pub returns-in-Ok-clause-suite : goal.returns-in-Ok-clause-suite
returns-in-Ok-clause-suite g c =
    file_leaves g.S.Suite.meanings g.S.Suite.faults c.key_of_file.result (g.S.Suite.meanings c.args.suite.now)
    (option_copied c.args.pass) c.args.text.now c.in-Ok.ppk c.args.suite.now c.key_of_file.new.suite
    c.in-Ok.ensures.gives c.key_of_file.ensures.suite
