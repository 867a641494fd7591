-- What the laws state.
use Rattle.picky_text.proofs.WordLaws.{comment_is_text}
use Rattle.picky_keys.specs.carried.Blob.{blob_spells}
use Rattle.picky_keys.specs.carried.BlobLayout.{blob_own}
use Rattle.picky_keys.specs.carried.SourceLine.{line_own}
use Rattle.picky_keys.proofs.BlobExact.{blob_exact}
use Rattle.picky_keys.proofs.BlobLayout.{blob_sound, blob_complete, blob_is_read_back, view_reads}
use Rattle.picky_keys.proofs.LineLaws.{line_meaning_says, line_meaning_of, one_line_meaning, line_reads_back}
use Rattle.picky_keys.proofs.SourceLaws.{source_reads_back, source_means}

pub ruleset blob_laws = (blob_spells, blob_exact, blob_sound, blob_complete, blob_is_read_back, view_reads)

pub ruleset own_laws = (blob_own, line_own)

pub ruleset line_laws = (
  line_meaning_says,
  line_meaning_of,
  one_line_meaning,
  comment_is_text,
  line_reads_back,
  source_reads_back,
  source_means,
)
