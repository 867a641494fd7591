-- What a private key keeps, and the key that is read of what is written of it (OpenSSH's PROTOCOL.key).
use Rattle.std.specs.Prelude.{◌<◌, ◌^◌, []}
use Rattle.std.specs.Option.{IfSome}
use Rattle.std.specs.Str.{trim_end}
use Rattle.picky_keys.specs.Key.{IsText}
use Rattle.picky_sshkey_blob.specs.Key.{IsPrivateKey, public_part}
use Rattle.picky_sshkey.specs.declared.private_key.SshPrivateKey.{SshPrivateKey}
use Rattle.picky_sshkey.specs.KdfLayout.{IsKdfOption}
use Rattle.picky_sshkey.specs.Written.{written_cipher, written_kdf, written_option}

-- what every value of the type keeps, of what is written: its key, its numbers and its texts
pub record IsSshPrivateKey (key : SshPrivateKey) : Type 0 where
  pub base_key : IsPrivateKey key.base_key
  pub check : key.check < 2 ^ 32
  pub comment : IsText key.comment
  pub passphrase : IfSome key.passphrase IsText
  pub option : IsKdfOption key.kdf.option

-- the key that is read of what is written: the names and options are those that are written, and the comment goes
-- without the white space at its end
abbrev pub read_again : SshPrivateKey → SshPrivateKey
read_again key = record {
  cipher_name = written_cipher key.passphrase;
  kdf = record {
    name = written_kdf key.passphrase;
    option = written_option key.passphrase key.kdf.option;
  };
  base_key = key.base_key;
  public_key = record { inner_key = public_part key.base_key; comment = [] };
  check = key.check;
  comment = trim_end key.comment;
  passphrase = key.passphrase;
}
