-- The line was taken, and is judged.
use Rattle.picky_keys.specs.FromWire.{public_key_error}
use Rattle.picky_keys.specs.LineRefusal.{line_meaning}
use Rattle.picky_keys.specs.SourceLine.{source_meaning}
use Rattle.picky_keys.proofs.SourceLemmas.{line_judged, line_cause, line_meant, line_left, no_line_takes, no_line_cause}
use Rattle.picky_keys.proofs.source_line.SshPublicKeySshComplexTypeDecode.decode.Goals as goal

pub returns-in-Ok-clause-takes : goal.returns-in-Ok-clause-takes
unfolding source_meaning
returns-in-Ok-clause-takes g c =
    line_judged g.S.Source.tells g.S.Source.left g.S.Source.known g.S.Source.faults public_key_error line_meaning
    c.in-Ok.line.items _ _ _ _ c.in-Ok.ensures.takes c.as_slice.ensures.value c.key_of_line.ensures.gives
    c.key_of_line.ensures.no_fault

pub returns-in-Ok-clause-cause : goal.returns-in-Ok-clause-cause
unfolding source_meaning
returns-in-Ok-clause-cause g c =
    line_cause public_key_error line_meaning c.in-Ok.line.items _ _ _ c.in-Ok.ensures.line c.as_slice.ensures.value
    c.key_of_line.ensures.gives

pub returns-in-Ok-clause-meant : goal.returns-in-Ok-clause-meant
returns-in-Ok-clause-meant g c = line_meant public_key_error line_meaning _ _ c.key_of_line.ensures.gives

pub returns-in-Ok-clause-taken : goal.returns-in-Ok-clause-taken
returns-in-Ok-clause-taken g c = λ told.
    line_left public_key_error _ c.in-Ok.line.items _ _ (c.in-Ok.ensures.takes.answers told)

pub returns-in-Err-clause-takes : goal.returns-in-Err-clause-takes
unfolding source_meaning
returns-in-Err-clause-takes g c =
    no_line_takes g.S.Source.tells g.S.Source.left g.S.Source.known g.S.Source.faults public_key_error line_meaning _ _ _
    c.in-Err.ensures.takes

pub returns-in-Err-clause-cause : goal.returns-in-Err-clause-cause
unfolding source_meaning
returns-in-Err-clause-cause g c = no_line_cause public_key_error line_meaning _ _ c.in-Err.ensures.cause

pub returns-in-Err-clause-taken : goal.returns-in-Err-clause-taken
returns-in-Err-clause-taken g c = c.in-Err.ensures.taken
