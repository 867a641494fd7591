-- What the laws state.
use Rattle.picky_ppk_file.proofs.PuttyLaws.{putty_public_spells, putty_public_means}
use Rattle.std.proofs.Common.{◌≡◌, ◌<◌, ◌^◌, ◌∙◌, ℕ, List, length, ap, Ok}
use Rattle.picky_wire_base.specs.Numbers.{IsBytes}
use Rattle.picky_text.specs.Lines.{HasNo}
use Rattle.picky_ppk_file.specs.declared.putty_public.PuttyPublicKey.{PuttyPublicKey}
use Rattle.picky_ppk_file.specs.PuttyPublic.{putty_public}
use Rattle.picky_ppk_file.specs.PuttyRefusal.{putty_meaning}
use Rattle.picky_ppk_file.proofs.MeaningLaws.{putty_meaning_says, putty_public_reads_back}
use Rattle.picky_ppk_file.proofs.KeyLaws.{openssh_reads_back, putty_key_says}

pub ruleset meaning_laws = (putty_meaning_says, putty_public_reads_back)

pub ruleset spelling_laws = (putty_public_spells)

pub ruleset key_laws = (openssh_reads_back, putty_public_means, putty_key_says)

-- what was written for a key whose comment has no LF is read as it
pub written_is_read_back : (key : PuttyPublicKey) (text : List ℕ) → IsBytes key.blob → length key.blob < 2 ^ 32
    → length key.comment < 2 ^ 32 → text ≡ putty_public key.blob key.comment → HasNo 10 key.comment
    → putty_meaning text ≡ Ok key
written_is_read_back key text small blob_short comment_short is none =
    ap putty_meaning is ∙ putty_public_reads_back key small none blob_short comment_short

pub ruleset written_laws = (written_is_read_back)
