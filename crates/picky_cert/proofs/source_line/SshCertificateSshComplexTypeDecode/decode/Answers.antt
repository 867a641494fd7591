-- The line was taken, and is judged.
use Rattle.picky_keys.proofs.SourceLemmas.{line_judged, line_cause, line_meant, line_left, no_line_takes, no_line_cause}
use Rattle.picky_cert_parts.specs.CertFromWire.{certificate_error}
use Rattle.picky_cert.specs.LineRefusal.{cert_line_meaning}
use Rattle.picky_cert.specs.SourceLine.{cert_source_meaning}
use Rattle.picky_cert.proofs.source_line.SshCertificateSshComplexTypeDecode.decode.Goals as goal

pub returns-in-Ok-clause-takes : goal.returns-in-Ok-clause-takes
unfolding cert_source_meaning
returns-in-Ok-clause-takes g c =
    line_judged g.S.Source.tells g.S.Source.left g.S.Source.known g.S.Source.faults certificate_error cert_line_meaning
    c.in-Ok.line.items _ _ _ _ c.in-Ok.ensures.takes c.as_slice.ensures.value c.certificate_of_line.ensures.gives
    c.certificate_of_line.ensures.no_fault

pub returns-in-Ok-clause-cause : goal.returns-in-Ok-clause-cause
unfolding cert_source_meaning
returns-in-Ok-clause-cause g c =
    line_cause certificate_error cert_line_meaning c.in-Ok.line.items _ _ _ c.in-Ok.ensures.line c.as_slice.ensures.value
    c.certificate_of_line.ensures.gives

pub returns-in-Ok-clause-meant : goal.returns-in-Ok-clause-meant
returns-in-Ok-clause-meant g c = line_meant certificate_error cert_line_meaning _ _ c.certificate_of_line.ensures.gives

pub returns-in-Ok-clause-taken : goal.returns-in-Ok-clause-taken
returns-in-Ok-clause-taken g c = λ told.
    line_left certificate_error _ c.in-Ok.line.items _ _ (c.in-Ok.ensures.takes.answers told)

pub returns-in-Err-clause-takes : goal.returns-in-Err-clause-takes
unfolding cert_source_meaning
returns-in-Err-clause-takes g c =
    no_line_takes g.S.Source.tells g.S.Source.left g.S.Source.known g.S.Source.faults certificate_error cert_line_meaning _ _ _
    c.in-Err.ensures.takes

pub returns-in-Err-clause-cause : goal.returns-in-Err-clause-cause
unfolding cert_source_meaning
returns-in-Err-clause-cause g c = no_line_cause certificate_error cert_line_meaning _ _ c.in-Err.ensures.cause

pub returns-in-Err-clause-taken : goal.returns-in-Err-clause-taken
returns-in-Err-clause-taken g c = c.in-Err.ensures.taken
