-- What is seen of a private key's envelope and block shows.
use Rattle.std.specs.Prelude.{[], Option, None, Some}
use Rattle.std.specs.Option.{option_copied}
use Rattle.picky_sshkey.specs.declared.kdf.KdfOption.{KdfOption}
use Rattle.picky_sshkey.specs.declared.kdf.OptionView.{OptionView}
use Rattle.picky_sshkey.specs.declared.envelope.EnvelopeView.{EnvelopeView}
use Rattle.picky_sshkey.specs.declared.block.BlockView.{BlockView}
use Rattle.picky_sshkey.specs.declared.found.FoundKey.{FoundKey}
use Rattle.picky_sshkey.specs.declared.private_key.SshPrivateKey.{SshPrivateKey}
use Rattle.picky_sshkey.specs.declared.reading.Lock.{Lock as LockView}
use Rattle.picky_sshkey.specs.Opened.{Lock}
use Rattle.picky_sshkey.specs.Envelope.{Envelope}
use Rattle.picky_sshkey.specs.PrivateBlock.{PrivateBlock}
use Rattle.picky_sshkey_blob.specs.Key.{public_part}
use Rattle.picky_sshkey_blob.specs.View.{private_key_seen}

-- the salt and the rounds that are seen
abbrev pub kdf_option_seen : OptionView → KdfOption
kdf_option_seen v = record { salt = v.salt.now; rounds = v.rounds }

-- the envelope that is seen
abbrev pub envelope_seen : EnvelopeView → Envelope
envelope_seen v = record {
  cipher = v.cipher.now;
  kdf = v.kdf.now;
  option = kdf_option_seen v.option;
  outer = v.outer.now;
  block = v.block.now;
}

-- the block that is seen
abbrev pub block_seen : BlockView → PrivateBlock
block_seen v = record { check = v.check; key = private_key_seen v.key; comment = v.comment.now }

-- the lock of a cipher and a passphrase
abbrev pub lock_seen : LockView → Lock
lock_seen v = record { cipher = v.cipher; pass = v.pass.now }

-- and where there is one
abbrev pub lock_shown : Option LockView → Option Lock
lock_shown None = None
lock_shown (Some v) = Some (lock_seen v)

-- the key that is found, with what its envelope says
abbrev pub found_seen : FoundKey → SshPrivateKey
found_seen found = record {
  cipher_name = found.envelope.cipher.now;
  kdf = record { name = found.envelope.kdf.now; option = kdf_option_seen found.envelope.option };
  base_key = found.base_key;
  public_key = record { inner_key = public_part found.base_key; comment = [] };
  check = found.check;
  comment = found.comment;
  passphrase = option_copied found.pass;
}
