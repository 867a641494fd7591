-- What every meaning that is read keeps, and can be written by.
use Rattle.picky_keys.specs.Key.{IsKey, IsText}
use Rattle.picky_sshkey_blob.specs.Key.{IsPrivateKey}
use Rattle.picky_key_text.specs.declared.meaning.Key.{Key}
use Rattle.picky_key_text.specs.declared.meaning.Key.TheVariants.{Private, Public}
use Rattle.picky_key_text.specs.declared.meaning.Meaning.{Meaning}

-- the parts of a key are in their ranges
abbrev pub IsKeptKey : Key → Type 0
IsKeptKey (Private key) = IsPrivateKey key
IsKeptKey (Public key) = IsKey key

-- and the comment is a text that a length of the wire can say
pub record IsKeptMeaning (meaning : Meaning) : Type 0 where
  pub key : IsKeptKey meaning.key
  pub comment : IsText meaning.comment
