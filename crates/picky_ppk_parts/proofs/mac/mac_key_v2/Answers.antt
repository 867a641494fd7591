-- The hasher held the label, and then the passphrase.
use Rattle.std.proofs.Common.{[], ◌++◌, ◌∙◌, ap}
use Rattle.sha1.specs.Sha1.{sha1}
use Rattle.picky_ppk_parts.specs.Mac.{mac_key_v2, mac_key_label}
use Rattle.picky_ppk_parts.proofs.mac.mac_key_v2.Goals as goal

pub returns : goal.returns
unfolding mac_key_v2 mac_key_label
returns c =
    c.finalize.ensures _ (c.update-2.ensures _ (c.update.ensures [] c.new-hasher.ensures))
    ∙ ap (λ l. sha1 (l ++ c.as_bytes-2.result.now)) c.as_bytes.ensures.value
    ∙ ap (λ p. sha1 (mac_key_label ++ p)) c.as_bytes-2.ensures.value
