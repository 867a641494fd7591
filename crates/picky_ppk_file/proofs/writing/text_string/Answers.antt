-- The lines, one after another.
use Rattle.picky_ppk_file.proofs.WrittenLemmas.{file_written}
use Rattle.picky_ppk_file.proofs.writing.text_string.Goals as goal

pub returns-clause-text : goal.returns-clause-text
returns-clause-text c =
    file_written c.args.file.now c.end_of-end.result c.version-version.result c.encryption-encryption.result _ _ _ _
    _ _ _ _ _ _ _ _ _ _ _
    c.end_of-end.ensures c.version-version.ensures c.encryption-encryption.ensures c.as_static_str.ensures
    c.as_static_str-2.ensures c.as_static_str-3.ensures c.as_str.ensures.bytes c.as_slice.ensures.bytes
    c.as_slice-2.ensures.bytes c.as_slice-3.ensures.bytes c.in_ok-text.ensures.bytes
    c.in_ok-push_line.ensures.ok c.in_ok-push_line-2.ensures.ok c.in_ok-push_line-3.ensures.ok
    c.in_ok-push_base64.ensures.ok c.in_ok-push_sealing.ensures.ok c.in_ok-push_base64-2.ensures.ok
    c.in_ok-push_hex.ensures.ok
