-- The five lines, one after another.
use Rattle.picky_ppk_file.proofs.WrittenLemmas.{argon2_written}
use Rattle.picky_ppk_file.proofs.writing.push_argon2.Goals as goal

pub returns-clause-ok : goal.returns-clause-ok
returns-clause-ok c =
    argon2_written c.args.end c.args.params.now _ _ _ _ _ _ _ _ c.as_static_str.ensures c.as_slice.ensures.bytes
    c.in_ok-push_line.ensures.ok c.in_ok-push_number.ensures.ok c.in_ok-push_number-2.ensures.ok
    c.in_ok-push_number-3.ensures.ok c.in_ok-push_hex.ensures.ok
