-- The envelope of a private key (OpenSSH's PROTOCOL.key, section 1), which holds a public key and a block.
use Rattle.std.specs.Prelude.{List, ℕ, codes}
use Rattle.picky_wire_base.specs.Flaw.{Reason}
use Rattle.picky_wire_base.specs.Grammar.{Grammar}
use Rattle.picky_wire_base.specs.Combine.{at, done, ◌>>=◌}
use Rattle.picky_wire_base.specs.Fixed.{raw, fixed_uint32}
use Rattle.picky_wire_base.specs.Numbers.{byte}
use Rattle.picky_wire_base.specs.Wire.{string, text}
use Rattle.picky_sshkey.specs.declared.kdf.KdfOption.{KdfOption}
use Rattle.picky_sshkey.specs.Kdf.{kdf_option}

-- what the envelope says: outer is a public key's blob, and block has the private key, sealed or not
pub record Envelope : Type 0 where
  pub cipher : List ℕ
  pub kdf : List ℕ
  pub option : KdfOption
  pub outer : List ℕ
  pub block : List ℕ

unfoldable pub magic : List ℕ
magic = codes "openssh-key-v1"

-- string  kdf options
-- uint32  number of keys, which is 1
-- string  outer
-- string  block
unfoldable pub envelope_parts : (cipher kdf : List ℕ) → Grammar Reason Envelope
envelope_parts cipher kdf = do
  option ← at 4 kdf_option
  keys ← fixed_uint32 5 1
  outer ← at 6 string
  block ← at 7 string
  done (record { cipher = cipher; kdf = kdf; option = option; outer = outer; block = block })

-- byte    0, which ends the magic and isn't looked at
-- string  cipher name, which is text
-- string  kdf name, which is text
unfoldable pub envelope_fields : Grammar Reason Envelope
envelope_fields = do
  zero ← at 1 byte
  cipher ← at 2 text
  kdf ← at 3 text
  envelope_parts cipher kdf

-- byte[]  magic
unfoldable pub envelope : Grammar Reason Envelope
envelope = do
  front ← raw 0 magic
  envelope_fields
