-- The length is known before the text is written.
use Rattle.std.proofs.Common.{inr, refl, arith, ap, sym, length}
use Rattle.picky_sshkey_blob.proofs.TextLaws.{length_text}
use Rattle.picky_sshkey_blob.proofs.WrittenLemmas.{string_refused}
use Rattle.picky_sshkey_blob.proofs.pem.Pem.to_string.Goals as goal

pub overflow_sub-lines_len : goal.overflow_sub-lines_len
overflow_sub-lines_len c =
    let content = c.content-content.result.now in
    omega (arith, c.pem_text_len-lines_len.ensures content refl, length_text content)

pub returns-then-lines_len-gt-MAX_LEN : goal.returns-then-lines_len-gt-MAX_LEN
returns-then-lines_len-gt-MAX_LEN c =
    let content = c.args.self.now.content in
    let len = c.pem_text_len-lines_len.ensures content (ap length (sym c.content-content.ensures.value)) in
    inr (string_refused content (omega (arith, len, length_text content)))

pub from_string-requires : goal.from_string-requires
from_string-requires c =
    let content = c.content-content.result.now in
    let len = c.pem_text_len-lines_len.ensures content refl in
    omega (arith, len, length_text content, ap length c.in-Ok.ensures, c.in-Ok.text.bytes.ok.0)
