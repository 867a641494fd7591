-- What the laws state.
use Rattle.picky_sshkey_blob.specs.carried.Blob.{secret_spells}
use Rattle.picky_sshkey_blob.proofs.BlobExact.{secret_exact}
use Rattle.picky_sshkey_blob.proofs.BlobLaws.{secret_sound, secret_complete, secret_reads_back, read_is_key, view_reads}
use Rattle.picky_sshkey_blob.proofs.BlobLaws.{front_reads, stuck_reads}
use Rattle.picky_sshkey_blob.proofs.KeyLaws.{public_part_is_key}

pub ruleset secret_laws = (
  secret_spells,
  secret_exact,
  secret_sound,
  secret_complete,
  secret_reads_back,
  read_is_key,
  view_reads,
  front_reads,
  stuck_reads,
  public_part_is_key,
)
