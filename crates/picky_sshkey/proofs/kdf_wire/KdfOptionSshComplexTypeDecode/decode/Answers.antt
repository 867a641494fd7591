-- What the string says is refused for a cause.
use Rattle.picky_sshkey.proofs.KdfLemmas.{option_cause}
use Rattle.picky_sshkey.proofs.kdf_wire.KdfOptionSshComplexTypeDecode.decode.Goals as goal

pub returns-in-Ok-clause-cause : goal.returns-in-Ok-clause-cause
returns-in-Ok-clause-cause g c =
    option_cause c.as_slice.result.now c.option_said.result _ c.as_slice.ensures.short c.option_said.ensures.gives
