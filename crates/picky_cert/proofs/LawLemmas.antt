-- The lemmas that the laws of this crate stand on, by subject.
use Rattle.picky_text.proofs.WordLaws.{comment_is_text}
use Rattle.picky_cert.proofs.KeepLaws.{read_fits_subject, read_is_certificate}
use Rattle.picky_cert.proofs.LineLaws.{line_fits_subject, line_keeps, line_meaning_of, line_meaning_says, line_no_fault}
use Rattle.picky_cert.proofs.LineLaws.{line_no_want, one_line_meaning}

pub ruleset line_laws = (line_meaning_says, line_meaning_of, one_line_meaning, comment_is_text)

pub ruleset keep_laws = (read_is_certificate, read_fits_subject, line_keeps, line_fits_subject)

pub ruleset order_laws = (line_no_fault, line_no_want)
