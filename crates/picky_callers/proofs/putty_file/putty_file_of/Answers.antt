-- The text is read again.
use Rattle.picky_callers.proofs.PuttyFileLemmas.{text_is_file_of}
use Rattle.picky_callers.proofs.putty_file.putty_file_of.Goals as goal

pub returns-in-Ok-clause-ok : goal.returns-in-Ok-clause-ok
returns-in-Ok-clause-ok g c = λ is_key line.
    let made = c.in-Ok.ensures in
    let m = g.S.Suite.meanings c.args.suite.now in
    text_is_file_of m c.args.key.now c.in-Ok.file c.to_string-text.result made.gives made.mac
    (c.openssh_key_comes_back.ensures.file m c.args.key.now c.in-Ok.file is_key made.gives) line
    c.to_string-text.ensures.read_back
