-- The texts of an envelope that is seen are short.
use Rattle.std.specs.Prelude.{◌<◌, ◌^◌, length}
use Rattle.picky_sshkey.specs.declared.envelope.EnvelopeView.{EnvelopeView}

pub record IsShortEnvelope (v : EnvelopeView) : Type 0 where
  pub cipher : length v.cipher.now < 2 ^ 32
  pub kdf : length v.kdf.now < 2 ^ 32
  pub outer : length v.outer.now < 2 ^ 32
  pub salt : length v.option.salt.now < 2 ^ 32
  pub block : length v.block.now < 2 ^ 32
