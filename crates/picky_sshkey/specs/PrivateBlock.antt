-- The block of a private key (OpenSSH's PROTOCOL.key, section 3): two equal numbers, the key, its comment, and padding.
use Rattle.std.specs.Prelude.{List, ℕ}
use Rattle.picky_wire_base.specs.Grammar.{Grammar}
use Rattle.picky_wire_base.specs.Combine.{tag, narrow, done, ◌>>=◌}
use Rattle.picky_wire_base.specs.Fixed.{is_number}
use Rattle.picky_wire_base.specs.Flaw.{Flaw}
use Rattle.picky_wire_base.specs.Wire.{text, uint32}
use Rattle.picky_wire.specs.Flaws.{wire_error}
use Rattle.picky_sshkey_blob.specs.declared.error.SshPrivateKeyError.{SshPrivateKeyError}
use Rattle.picky_sshkey_blob.specs.declared.error.SshPrivateKeyError.TheVariants as errors
use Rattle.picky_sshkey_blob.specs.declared.key.SshBasePrivateKey.{SshBasePrivateKey}
use Rattle.picky_sshkey_blob.specs.FromWire.{private_key_error}
use Rattle.picky_sshkey_blob.specs.Blob.{secret}
use Rattle.picky_sshkey_blob.specs.BlobRefusal.{private_error}

pub record PrivateBlock : Type 0 where
  pub check : ℕ
  pub key : SshBasePrivateKey
  pub comment : List ℕ

-- a field's flaw, as this layer's error
abbrev pub flaw_error : Flaw → SshPrivateKeyError
flaw_error flaw = private_key_error (wire_error flaw)

-- uint32  check
-- uint32  the same number
unfoldable pub check_numbers : Grammar SshPrivateKeyError ℕ
check_numbers = do
  check ← tag flaw_error uint32
  again ← narrow (tag flaw_error uint32) (is_number (errors.InvalidCheckNumbers check) check)
  done check

-- byte[]  the two check numbers
-- byte[]  the key's blob
-- string  comment, which is text
-- what follows is padding, and isn't looked at
unfoldable pub private_block : Grammar SshPrivateKeyError PrivateBlock
private_block = do
  check ← check_numbers
  key ← tag private_error secret
  comment ← tag flaw_error text
  done (record { check = check; key = key; comment = comment })
