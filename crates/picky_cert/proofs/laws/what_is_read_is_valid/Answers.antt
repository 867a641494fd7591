-- What is read keeps its ranges, and so does what a line says, which is of a type for its subject's key.
use Rattle.picky_cert.proofs.KeepLaws.{read_is_certificate}
use Rattle.picky_cert.proofs.LineLaws.{line_fits_subject, line_keeps}
use Rattle.picky_cert.proofs.laws.what_is_read_is_valid.Goals as goal

pub returns-clause-ranges : goal.returns-clause-ranges
returns-clause-ranges c = read_is_certificate

pub returns-clause-line_ranges : goal.returns-clause-line_ranges
returns-clause-line_ranges c = line_keeps

pub returns-clause-line_subject : goal.returns-clause-line_subject
returns-clause-line_subject c = line_fits_subject
