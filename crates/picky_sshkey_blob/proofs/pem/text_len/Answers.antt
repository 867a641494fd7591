-- The length is that of any content.
use Rattle.std.proofs.Common.{arith}
use Rattle.picky_sshkey_blob.proofs.TextLaws.{length_text, length_lines}
use Rattle.picky_sshkey_blob.proofs.pem.text_len.Goals as goal

pub returns : goal.returns
returns c = λ content is. omega (arith, length_text content, length_lines content)
