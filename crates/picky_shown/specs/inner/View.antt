-- What is seen of an envelope shows (OpenSSH's PROTOCOL.key, section 1).
use Rattle.picky_sshkey.specs.declared.kdf.KdfOption.{KdfOption}
use Rattle.picky_sshkey.specs.Envelope.{Envelope}
use Rattle.picky_shown.specs.declared.envelope.EnvelopeView.{EnvelopeView}
use Rattle.picky_shown.specs.declared.envelope.OptionView.{OptionView}

-- the salt and the rounds that are seen
abbrev pub option_seen : OptionView → KdfOption
option_seen v = record { salt = v.salt.now; rounds = v.rounds }

-- the envelope that is seen
abbrev pub envelope_seen : EnvelopeView → Envelope
envelope_seen v = record {
  cipher = v.cipher.now;
  kdf = v.kdf.now;
  option = option_seen v.option;
  outer = v.outer.now;
  block = v.block.now;
}
