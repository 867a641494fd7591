-- A blob is read by its layout, with this layer's errors.
use Rattle.std.proofs.Common.{ap, Err}
use Rattle.picky_wire.proofs.StopLemmas.{layer_reads, layer_stops}
use Rattle.picky_keys.specs.FromWire.{public_key_error}
use Rattle.picky_keys.specs.Blob.{blob}
use Rattle.picky_keys.specs.BlobRefusal.{read_blob, blob_error, stop_error}
use Rattle.picky_keys.proofs.StopLemmas.{says_stops, stop_has_cause}
use Rattle.picky_keys.proofs.blob.SshBasePublicKeySshComplexTypeDecode.decode.Goals as goal

pub returns-in-Ok-clause-takes : goal.returns-in-Ok-clause-takes
unfolding read_blob
returns-in-Ok-clause-takes g c =
    layer_reads g.S.Source.tells g.S.Source.left g.S.Source.known g.S.Source.faults public_key_error blob_error blob _ _ _ c.in-Ok.ensures

pub returns-in-Err-clause-takes : goal.returns-in-Err-clause-takes
unfolding read_blob
returns-in-Err-clause-takes g c =
    rw c.from.ensures
    (layer_stops g.S.Source.tells g.S.Source.left g.S.Source.known g.S.Source.faults public_key_error stop_error blob_error blob c.in-Err.stop _ _ says_stops c.in-Err.ensures)

pub returns-in-Err-clause-cause : goal.returns-in-Err-clause-cause
returns-in-Err-clause-cause g c =
    rw c.from.ensures (stop_has_cause c.in-Err.stop _ (λ is. c.in-Err.ensures.fault (ap Err is)))
