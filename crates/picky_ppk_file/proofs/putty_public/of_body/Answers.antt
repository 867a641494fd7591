-- Lines that decode are the base64 of their bytes.
use Rattle.std.proofs.Common.{◌≡◌, ap, ◌∙◌}
use Rattle.picky_text.specs.Base64.{decoded, base64_of}
use Rattle.picky_text.proofs.Base64Laws.{base64_is_read_back}
use Rattle.picky_wire_base.specs.Numbers.{IsBytes}
use Rattle.picky_kv.specs.Joined.{joined_text}
use Rattle.picky_ppk_file.proofs.putty_public.of_body.Goals as goal

pub returns-in-Ok-Ok : goal.returns-in-Ok-Ok
returns-in-Ok-Ok c =
    let blob = c.in-Ok-Ok.blob in
    let joined : joined_text c.args.body ≡ base64_of blob = rw c.in-Ok-Ok.field-0-is at c.in-Ok-Ok.ensures.bytes in
    let small : IsBytes blob = rw c.in-Ok-Ok.field-0-is at c.in-Ok-Ok.ensures.small in
    rw (ap decoded joined ∙ base64_is_read_back blob small) (rw c.into_vec.ensures.bytes at c.of_blob.ensures)
